-- What solving a network answers, and what it leaves in the memory lent to it.
use Rattle.std.specs.Prelude.{◌≡◌, ℕ, ◌+◌, ◌*◌, ◌<◌, ◌≤◌, List, map, length, take, drop, Ok, Err, Result, slice_index, slice_index_or}
use Rattle.amount.specs.Rows.{Row, zero_row}
use Rattle.amount.specs.Scales.{Scale}
use Rattle.amount.specs.Groups.{row_group}
use Rattle.network.specs.declared.Period.{Period}
use Rattle.network.specs.Networks.{Graph}
use Rattle.network.specs.Walks.{net, NoClosed}
use Rattle.network.specs.Walks.{Period as IsPeriod}
use Rattle.engine.specs.declared.EngineFault.{EngineFault}
use Rattle.engine.specs.declared.EngineFault.TheVariants.{ShortTable, NoLoop}
use Rattle.engine.specs.Tables.{Entry}

-- what the four slices lent to solve hold: the table of rows, the table of marks, the departures and the loop
pub record Memory (X : Type 0) : Type 0 where
  pub rows : List X
  pub marks : List ℕ
  pub leaves : List X
  pub loop : List ℕ

abbrev pub memory : {X : Type 0} → List X → List ℕ → List X → List ℕ → Memory X
memory r m l c = record { rows = r; marks = m; leaves = l; loop = c }

-- how many entries each table has for n events: one for every number of waits from 0 to n and every event
abbrev pub table_size : ℕ → ℕ
table_size n = (n + 1) * n

-- no slice is shorter than n events need
pub record Enough {X : Type 0} (n : ℕ) (m : Memory X) : Type 0 where
  pub rows : table_size n ≤ length m.rows
  pub marks : table_size n ≤ length m.marks
  pub leaves : n ≤ length m.leaves
  pub loop : n ≤ length m.loop

-- the row that entry i of a slice stands for
abbrev pub row_at : {X : Type 0} (m : Scale X) → List X → ℕ → Row m.places
row_at m xs i = slice_index_or (map m.row xs) i (zero_row m.places)

module _ {X : Type 0} (m : Scale X) (g : Graph) where
  -- entry k × n + v of the two tables is the one for k waits and event v, for every k up to top
  abbrev pub EntriesTo : ℕ → List X → List ℕ → Type 0
  EntriesTo top rows marks = (k v : ℕ) → k ≤ top → v < g.events → Entry (row_group m.order) (net m.places g) k v (row_at m rows (k * g.events + v)) (slice_index marks (k * g.events + v))

  -- and so for every k up to the number of events
  abbrev pub Entries : List X → List ℕ → Type 0
  Entries rows marks = EntriesTo g.events rows marks

  -- both tables are filled, and entries past them are as found
  pub record TablesFilled (old new : Memory X) : Type 0 where
    pub entries : Entries new.rows new.marks
    pub past_rows : drop (table_size g.events) new.rows ≡ drop (table_size g.events) old.rows
    pub past_marks : drop (table_size g.events) new.marks ≡ drop (table_size g.events) old.marks

  -- the period, the loop and the departures are shown, and entries past them are as found
  pub record Shown (p : Period X) (old new : Memory X) : Type 0 where
    pub period : IsPeriod (row_group m.order) (net m.places g) (m.row p.total) p.count (take p.count new.loop) (row_at m new.leaves)
    pub past_leaves : drop g.events new.leaves ≡ drop g.events old.leaves
    pub past_loop : drop p.count new.loop ≡ drop p.count old.loop

  -- a period is answered: the tables are filled, and the period is shown
  pub record Answered (p : Period X) (old new : Memory X) : Type 0 where
    pub enough : Enough g.events old
    pub tables : TablesFilled old new
    pub shown : Shown p old new

  -- refused for a slice that is too short: nothing is written
  pub record TooShort (k : ℕ) (old new : Memory X) : Type 0 where
    pub place : k ≡ g.events
    pub short : ¬ Enough g.events old
    pub kept : new ≡ old

  -- refused for want of a closed walk: the tables are filled, and departures and loop space are as found
  pub record Loopless (k : ℕ) (old new : Memory X) : Type 0 where
    pub place : k ≡ g.events
    pub enough : Enough g.events old
    pub none : NoClosed (net m.places g)
    pub tables : TablesFilled old new
    pub kept_leaves : new.leaves ≡ old.leaves
    pub kept_loop : new.loop ≡ old.loop

  -- what solving the network answers, with the memory before and after
  abbrev pub Solved : Result (Period X) EngineFault → Memory X → Memory X → Type 0
  Solved (Ok p) old new = Answered p old new
  Solved (Err (ShortTable k)) old new = TooShort k old new
  Solved (Err (NoLoop k)) old new = Loopless k old new
