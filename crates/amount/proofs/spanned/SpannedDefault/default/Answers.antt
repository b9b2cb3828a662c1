use Rattle.std.proofs.Common.{sym, subst}
use Rattle.amount.proofs.Bounds.{within_zero}
use Rattle.amount.specs.Rows.{Row, Within}
use Rattle.amount.specs.Spans.{span}
use Rattle.amount.proofs.spanned.SpannedDefault.default.Goals as goal

pub invariant_of-result : goal.invariant_of-result
invariant_of-result g c = let m = g.X.Scaled.scale in record { near = subst (λ (r : Row m.places). Within m.places span r) (sym c.zero.ensures) (within_zero m.places span) }
