use Rattle.std.proofs.Common.{◌-◌}
use Rattle.network.specs.Walks.{net}
use Rattle.engine.specs.Filled.{mark_in}
use Rattle.engine.proofs.Seen.{Seen}
use Rattle.engine.proofs.turns.trace_turn.Given as goal

abbrev pub invariant-loop-seen : goal.invariant-loop-seen
invariant-loop-seen g l = Seen (net g.X.Scaled.scale.places l.filled.graph) (mark_in l.filled) l.v l.seen l.at l.walked

abbrev pub decreases-loop-seen : goal.decreases-loop-seen
decreases-loop-seen g l = l.n - l.walked
