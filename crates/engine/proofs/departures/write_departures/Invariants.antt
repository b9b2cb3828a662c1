use Rattle.std.proofs.Common.{ℕ, ◌<◌}
use Rattle.engine.specs.Solved.{row_at}
use Rattle.engine.specs.Filled.{Leaves}
use Rattle.engine.proofs.departures.write_departures.Given as goal

abbrev pub invariant-loop-v : goal.invariant-loop-v
invariant-loop-v g l =
    let m = g.X.Scaled.scale in
    (u : ℕ) → u < l.v → Leaves m l.filled (m.row l.turn.total) l.turn.count u l.filled.graph.events (row_at m l.leave-items u)
