use Rattle.std.proofs.Common.{◌≡◌, ℕ, ◌<◌}
use Rattle.amount.specs.Rows.{zero_row}
use Rattle.engine.specs.Solved.{row_at}
use Rattle.engine.proofs.tables.clear_row.Given as goal

abbrev pub invariant-loop-row : goal.invariant-loop-row
invariant-loop-row g l = (u : ℕ) → u < l.row-index → row_at g.X.Scaled.scale l.rows u ≡ zero_row g.X.Scaled.scale.places
