-- A network with its two tables: rows of them, when they are filled, and what is read in them.
use Rattle.std.specs.Prelude.{ℕ, ◌+◌, ◌*◌, ◌<◌, ◌≤◌, List, length, slice_index}
use Rattle.amount.specs.Rows.{Row}
use Rattle.amount.specs.Scales.{Scale}
use Rattle.amount.specs.Groups.{row_group}
use Rattle.network.specs.Networks.{Graph, Owed}
use Rattle.network.specs.Walks.{net}
use Rattle.engine.specs.Tables.{Entry}
use Rattle.engine.specs.Turns.{TopOffer}
use Rattle.engine.specs.Solved.{table_size, row_at, Entries}

-- the two slices hold the entries for k waits, one for each event
abbrev pub RowDone : {X : Type 0} → Scale X → Graph → ℕ → List X → List ℕ → Type 0
RowDone m g k rows marks = (v : ℕ) → v < g.events → Entry (row_group m.order) (net m.places g) k v (row_at m rows v) (slice_index marks v)

-- a network and what its two tables hold
pub record Tables (X : Type 0) : Type 0 where
  pub graph : Graph
  pub rows : List X
  pub marks : List ℕ

abbrev pub tables : {X : Type 0} → Graph → List X → List ℕ → Tables X
tables g r m = record { graph = g; rows = r; marks = m }

-- the mark and the row of the entry for k waits and event v
abbrev pub mark_in : {X : Type 0} → Tables X → ℕ → ℕ → ℕ
mark_in t k v = slice_index t.marks (k * t.graph.events + v)

abbrev pub row_in : {X : Type 0} (m : Scale X) → Tables X → ℕ → ℕ → Row m.places
row_in m t k v = row_at m t.rows (k * t.graph.events + v)

module _ {X : Type 0} (m : Scale X) (t : Tables X) where
  -- the network keeps what it owes, and both tables are long enough and filled
  pub record Ready : Type 0 where
    pub owed : Owed t.graph
    pub rows_room : table_size t.graph.events ≤ length t.rows
    pub marks_room : table_size t.graph.events ≤ length t.marks
    pub entries : Entries m t.graph t.rows t.marks

  -- x is the greatest that the entries for fewer than c waits offer event v at this period
  abbrev pub Leaves : Row m.places → ℕ → ℕ → ℕ → Row m.places → Type 0
  Leaves p q v c x = TopOffer (row_group m.order) (row_in m t) (mark_in t) p q v c x
