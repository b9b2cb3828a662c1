-- What the words of a file spell.
use Rattle.std.specs.Prelude.{ℕ, ◌+◌, ◌-◌, ◌/◌, Bool, cond, List, [], ◌∷◌, map, length, ℤ, Some, None, Option}
use Rattle.std.specs.List.{range_with_len}
use Rattle.amount.specs.Rows.{places, row_of}
use Rattle.amount.specs.Scales.{Scale}
use Rattle.network.specs.declared.Period.{Period}
use Rattle.network.specs.Networks.{PlainWait, Graph}
use Rattle.file.specs.Words.{word_no, upper, middle, lower, place_of}
use Rattle.file.specs.Layout.{base, after_claim, stated_events}

-- an event count, the waits in order, and the claim if there is one; rows are lists of places
pub record Contents : Type 0 where
  pub events : ℕ
  pub waits : List PlainWait
  pub claim : Option (Period (List ℤ))

-- the places in the d words from word k on
abbrev pub places_from : ℕ → List ℕ → ℕ → List ℤ
places_from d ws k = map (λ p. place_of (word_no ws (k + p))) (range_with_len 0 d)

-- the wait that item j spells
abbrev pub wait_in : ℕ → List ℕ → ℕ → PlainWait
wait_in d ws j = record { start = middle (word_no ws (base d j)); end = lower (word_no ws (base d j)); amount = places_from d ws (base d j + 1) }

-- the waits that the first n items spell
abbrev pub first_waits : ℕ → List ℕ → ℕ → List PlainWait
first_waits d ws n = map (wait_in d ws) (range_with_len 0 n)

-- a wait with its amount fitted to D places: zeros added, or the last ones dropped
abbrev pub fitted : ℕ → PlainWait → PlainWait
fitted D w = record { start = w.start; end = w.end; amount = places D (row_of D w.amount) }

-- the first n waits of a file of d places, for a measure of D places; where D is d, these are the waits as spelled
abbrev pub fitted_waits : ℕ → ℕ → List ℕ → ℕ → List PlainWait
fitted_waits D d ws n = map (λ j. fitted D (wait_in d ws j)) (range_with_len 0 n)

-- the claim that item j spells
abbrev pub claim_in : ℕ → List ℕ → ℕ → Period (List ℤ)
claim_in d ws j = record { total = places_from d ws (base d j + 1); count = lower (word_no ws (base d j)) }

-- how many items stand between the heading and the closing word
abbrev pub item_count : ℕ → List ℕ → ℕ
item_count d ws = (length ws - 2) / (1 + d)

-- whether the last item is a claim
abbrev pub has_claim : ℕ → List ℕ → Bool
has_claim d ws = after_claim d ws (item_count d ws)

-- how many items are waits
abbrev pub spelled_waits : ℕ → List ℕ → ℕ
spelled_waits d ws = item_count d ws - cond (has_claim d ws) 1 0

-- what the words of a file spell for a measure of d places
abbrev pub contents : ℕ → List ℕ → Contents
contents d ws = record {
  events = stated_events ws;
  waits = first_waits d ws (spelled_waits d ws);
  claim = cond (has_claim d ws) (Some (claim_in d ws (spelled_waits d ws))) None;
}

-- the measure that the first word names, if there is a word
abbrev pub named_measure : List ℕ → Option ℕ
named_measure [] = None
named_measure (w ∷ ws) = Some (upper w)

-- a claim, if there is one, by its meaning in a measure
abbrev pub plain_claim : {X : Type 0} → Scale X → Option (Period X) → Option (Period (List ℤ))
plain_claim m None = None
plain_claim m (Some p) = Some (record { total = places m.places (m.row p.total); count = p.count })

-- contents from a network and a claim
abbrev pub meant : Graph → Option (Period (List ℤ)) → Contents
meant g claim = record { events = g.events; waits = g.waits; claim = claim }
