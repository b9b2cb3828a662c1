-- What a network means: how many events it has, and its list of waits.
use Rattle.std.specs.Prelude.{ℕ, ◌<◌, ◌≤◌, List, [], ◌∷◌, length, ℤ, pos, neg_ℤ, ◌≤ℤ◌, slice_index_or}
use Rattle.amount.specs.Rows.{places}
use Rattle.amount.specs.Scales.{Scale}
use Rattle.amount.specs.Spans.{span}
use Rattle.network.specs.declared.Wait.{Wait}

-- a wait by its meaning: its start event, its end event, and the places of its amount in order
abbrev pub PlainWait : Type 0
PlainWait = Wait (List ℤ)

-- what a wait means in a measure
abbrev pub plain : {X : Type 0} → Scale X → Wait X → PlainWait
plain m w = record { start = w.start; end = w.end; amount = places m.places (m.row w.amount) }

-- wait number e of a list; past the end of the list one from event 0 to itself, which nothing asks for
abbrev pub wait_at : List PlainWait → ℕ → PlainWait
wait_at ws e = slice_index_or ws e (record { start = 0; end = 0; amount = [] })

-- every one of these numbers lies within b of zero
abbrev pub AllWithin : ℕ → List ℤ → Type 0
AllWithin b [] = Unit {0}
AllWithin b (x ∷ xs) = (neg_ℤ (pos b) ≤ℤ x) × (x ≤ℤ pos b) × AllWithin b xs

-- a network by its meaning: how many events it has, and its waits in the order of their numbers
pub record Graph : Type 0 where
  pub events : ℕ
  pub waits : List PlainWait

abbrev pub graph : ℕ → List PlainWait → Graph
graph n ws = record { events = n; waits = ws }

-- its waits start and end at its events, and no amount leaves its span
pub record Sound (g : Graph) : Type 0 where
  pub starts : (e : ℕ) → e < length g.waits → (wait_at g.waits e).start < g.events
  pub ends : (e : ℕ) → e < length g.waits → (wait_at g.waits e).end < g.events
  pub spans : (e : ℕ) → e < length g.waits → AllWithin span (wait_at g.waits e).amount

-- what every network owes: it is sound, and has at most 1,000 events and 20,000 waits
pub record Owed (g : Graph) : Type 0 where
  pub few : g.events ≤ 1000
  pub short : length g.waits ≤ 20000
  pub sound : Sound g
