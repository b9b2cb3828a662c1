use Rattle.engine.specs.Limits.{Limiting}
use Rattle.engine.proofs.turns.limiting_turn.Given as goal

abbrev pub invariant-loop-v : goal.invariant-loop-v
invariant-loop-v g l = Limiting g.X.Scaled.scale l.filled l.v l.limiting
