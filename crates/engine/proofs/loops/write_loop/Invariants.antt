use Rattle.network.specs.Walks.{net}
use Rattle.engine.specs.Filled.{mark_in}
use Rattle.engine.proofs.Begun.{Written}
use Rattle.engine.proofs.loops.write_loop.Given as goal

abbrev pub invariant-loop-t : goal.invariant-loop-t
invariant-loop-t g l = Written (net g.X.Scaled.scale.places l.filled.graph) (mark_in l.filled) l.turn.end l.turn.event l.turn.count l.lowest l.initial.circle l.circle l.at l.t
