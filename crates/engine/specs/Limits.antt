-- Turns and loops as read from the two tables.
use Rattle.std.specs.Prelude.{◌≡◌, ℕ, ◌+◌, ◌<◌, ◌≤◌, ◌⊎◌, List, Some, None, Option}
use Rattle.amount.specs.declared.measure.Scaled.{Ghosts}
use Rattle.amount.specs.Scales.{Scale}
use Rattle.amount.specs.Groups.{row_group}
use Rattle.network.specs.Walks.{net, MeanLe}
use Rattle.engine.specs.declared.turn.Turn.{Turn}
use Rattle.engine.specs.Filled.{Tables, mark_in, row_in}
use Rattle.engine.specs.Turns.{Turns, TurnsBelow, Told, Lowest, BegunLowest}

module _ {X : Type 0} {R : Ghosts X} (m : Scale X) where
  -- r is the one of greater mean of two turns
  abbrev pub OfGreaterMean : Turn X R → Turn X R → Turn X R → Type 0
  OfGreaterMean s t r =
      ((r ≡ s) × MeanLe (row_group m.order) (m.row t.total) t.count (m.row s.total) s.count) ⊎ ((r ≡ t) × MeanLe (row_group m.order) (m.row s.total) s.count (m.row t.total) t.count)

  module _ (t : Tables X) where
    -- the greatest walk of n waits to v turns so
    abbrev pub TurnsSo : ℕ → Turn X R → Type 0
    TurnsSo v r = Turns (row_group m.order) (net m.places t.graph) (row_in m t) (mark_in t) v r.end r.event r.count (m.row r.total)

    -- and the one to u, where there is one, turns at a mean no greater than that of r
    abbrev pub NoGreater : Turn X R → ℕ → Type 0
    NoGreater r u = 0 < mark_in t t.graph.events u → TurnsBelow (row_group m.order) (net m.places t.graph) (row_in m t) (mark_in t) (m.row r.total) r.count u

    -- r is a turn, and of the greatest mean among those of the events below c
    pub record Limit (c : ℕ) (r : Turn X R) : Type 0 where
      pub v : ℕ
      pub turns : TurnsSo v r
      pub most : (u : ℕ) → u < c → NoGreater r u

    -- the limiting turn among those of the events below c, if walks of n waits end at any of them
    abbrev pub Limiting : ℕ → Option (Turn X R) → Type 0
    Limiting c None = (v : ℕ) → v < c → ¬ (0 < mark_in t t.graph.events v)
    Limiting c (Some r) = Limit c r

module _ {X : Type 0} {R : Ghosts X} (d : ℕ) (t : Tables X) (r : Turn X R) where
  -- the turn can be walked back by these marks
  pub record CanWalk : Type 0 where
    pub within : r.end ≤ t.graph.events
    pub here : r.event < t.graph.events
    pub some : 0 < r.count
    pub held : r.count ≤ r.end
    pub told : Told (net d t.graph) (mark_in t) r.end r.event r.count

  -- the turn's lowest event comes after l + 1 waits walked back
  abbrev pub LowestAfter : ℕ → Type 0
  LowestAfter l = Lowest (net d t.graph) (mark_in t) r.end r.event r.count l

  -- these are its waits, in the order walked from its lowest event
  abbrev pub LoopOf : List ℕ → Type 0
  LoopOf es = BegunLowest (net d t.graph) (mark_in t) r.end r.event r.count es

-- where the wait that starts s + 1 waits back is written in a loop of `count` waits, begun with the one that starts r + 1 waits back
abbrev pub Offset : ℕ → ℕ → ℕ → ℕ → Type 0
Offset r count s i = (i < count) × (s ≤ r → i + s ≡ r) × (r < s → i + s ≡ r + count)
