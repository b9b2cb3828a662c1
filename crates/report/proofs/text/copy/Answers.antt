use Rattle.std.proofs.Common.{arith}
use Rattle.std.proofs.lemmas.Grind.{same_number_lists}
use Rattle.report.proofs.text.copy.Goals as goal

pub returns : goal.returns
returns c = same_number_lists _ _ c.loop-at.invariant.len (λ k h. c.loop-at.invariant.same k (omega arith))
