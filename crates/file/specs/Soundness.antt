-- The waits of an opened file are those of a network: there is at most one proof of that, so that every opened file may carry it.
use Rattle.std.specs.Prelude.{ℕ, List, [], ◌∷◌, ℤ}
use Rattle.std.specs.Coded.{Unit-prop}
use denote.Struct.Props.{props}
use Rattle.network.specs.Networks.{AllWithin, Graph, Sound, Owed}

all_within_prop : (b : ℕ) (xs : List ℤ) → IsProp (AllWithin b xs)
all_within_prop b [] = Unit-prop
all_within_prop b (x ∷ xs) = let ih = all_within_prop b xs in hlevel (props, ih)

sound_prop : (g : Graph) → IsProp (Sound g)
sound_prop g = hlevel (props, all_within_prop)

pub owed_prop : (g : Graph) → IsProp (Owed g)
owed_prop g = hlevel (props, sound_prop)
