use Rattle.std.proofs.Common.{sym}
use Rattle.amount.proofs.Bounds.{within_from_none}
use Rattle.amount.specs.Spans.{span}
use Rattle.amount.proofs.spanned.Spanned.new.Goals as goal

pub invariant_of-result : goal.invariant_of-result
invariant_of-result g c = let m = g.X.Scaled.scale in record { near = within_from_none m.places span 0 (m.row c.args.amount) (sym c.in-None.ensures) }
