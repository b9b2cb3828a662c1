-- When an amount lies in the span of a wait.
use Rattle.std.specs.Prelude.{ℕ, zero, suc, Option}
use Rattle.std.specs.Coded.{Unit-prop}
use denote.Struct.Props.{props}
use Rattle.amount.specs.Rows.{Row, Within, places, first_beyond}
use Rattle.amount.specs.Scales.{Scale}

-- how far from zero a place of a wait may lie
abbrev pub span : ℕ
span = 86400

-- the amount lies in the span
abbrev pub InSpan : {X : Type 0} → Scale X → X → Type 0
InSpan m x = Within m.places span (m.row x)

-- the number of the first of its places that lies outside
abbrev pub first_outside : {X : Type 0} → Scale X → X → Option ℕ
first_outside m x = first_beyond span 0 (places m.places (m.row x))

-- there is at most one proof of that
pub within_prop : (d b : ℕ) (r : Row d) → IsProp (Within d b r)
within_prop zero b r = Unit-prop
within_prop (suc d) b r = let ih = within_prop d b r.1 in hlevel (props, ih)
