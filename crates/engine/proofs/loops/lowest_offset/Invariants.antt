use Rattle.network.specs.Walks.{net}
use Rattle.engine.specs.Filled.{mark_in}
use Rattle.engine.proofs.Begun.{Lower}
use Rattle.engine.proofs.loops.lowest_offset.Given as goal

abbrev pub invariant-loop-t : goal.invariant-loop-t
invariant-loop-t g l = Lower (net g.X.Scaled.scale.places l.filled.graph) (mark_in l.filled) l.turn.end l.turn.event l.at l.lowest l.offset l.t
