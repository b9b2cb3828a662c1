use Rattle.engine.specs.Filled.{Leaves}
use Rattle.engine.proofs.departures.departure.Given as goal

abbrev pub invariant-loop-k : goal.invariant-loop-k
invariant-loop-k g l = Leaves g.X.Scaled.scale l.filled (g.X.Scaled.scale.row l.turn.total) l.turn.count l.v l.k (g.X.Scaled.scale.row l.latest)
