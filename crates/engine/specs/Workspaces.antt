-- What a workspace holds, and what it is that its slices are lent still.
use Rattle.std.specs.Prelude.{◌≡◌, List, length}
use Rattle.std.specs.Borrow.{MutBor}
use Rattle.engine.specs.declared.workspace.Workspace.{Workspace}
use Rattle.engine.specs.declared.workspace.Space.{Space}
use Rattle.engine.specs.Solved.{Memory, memory}

-- what the slices of a workspace hold
abbrev pub held : {X : Type 0} → Workspace X → Memory X
held w = memory w.rows.now w.marks.now w.leaves.now w.circle.now

-- and what a space on the heap holds
abbrev pub kept : {X : Type 0} → Space X → Memory X
kept s = memory s.rows.items s.marks.items s.leaves.items s.circle.items

-- it is the same slice
pub record SameSlice {A : Type 0} (old new : MutBor (List A)) : Type 0 where
  pub name : new.ghost_name ≡ old.ghost_name
  pub size : length new.now ≡ length old.now

-- the four slices are those that were lent
pub record SameSlices {X : Type 0} (old new : Workspace X) : Type 0 where
  pub rows : SameSlice old.rows new.rows
  pub marks : SameSlice old.marks new.marks
  pub leaves : SameSlice old.leaves new.leaves
  pub circle : SameSlice old.circle new.circle
