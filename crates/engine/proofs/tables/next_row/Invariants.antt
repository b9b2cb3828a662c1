use Rattle.amount.specs.Groups.{row_group}
use Rattle.network.specs.Walks.{net}
use Rattle.engine.proofs.Filling.{Filling}
use Rattle.engine.proofs.tables.next_row.Given as goal

abbrev pub invariant-loop-e : goal.invariant-loop-e
invariant-loop-e g l =
    let m = g.X.Scaled.scale in
    Filling (row_group m.order) (net m.places (g.N.Network.graph l.net)) m.row l.k l.rows l.marks l.e l.next_rows l.next_marks
