use Rattle.std.proofs.Common.{◌∙◌, arith, below_more}
use Rattle.engine.proofs.Cells.{cell_same, cell_other}
use Rattle.engine.proofs.tables.clear_row.Goals as goal

pub loop-row-preserved : goal.loop-row-preserved
loop-row-preserved g c =
    let row = g.X.Scaled.scale.row in
    let i = c.loop-row.row-index in
    below_more _ i (λ u h. cell_other row _ c.loop-row.rows i u _ (λ s. omega arith) ∙ c.loop-row.invariant u h) (cell_same row _ c.loop-row.rows i _ (omega arith) ∙ c.zero-zero.ensures)
