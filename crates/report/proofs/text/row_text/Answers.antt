use Rattle.std.proofs.Common.{IsAscii, length, refl, sym, ap, subst, arith}
use Rattle.std.proofs.lemmas.Str.Ascii.{IsAscii-nil}
use Rattle.std.proofs.lemmas.List.{append-nil}
use Rattle.std.proofs.lemmas.Grind.{common_steps}
use Rattle.report.proofs.Ascii.{joined, pushed}
use Rattle.report.proofs.text.row_text.Goals as goal

pub loop-place-init : goal.loop-place-init
loop-place-init c =
    let none = subst IsAscii (sym c.new-text.ensures) IsAscii-nil in
    record { bytes = sym (append-nil c.append.new.text.bytes); ascii = joined _ _ _ none c.format.ensures.ascii c.append.ensures.bytes; short = omega (arith, ap length c.new-text.ensures) }

pub loop-place-preserved : goal.loop-place-preserved
loop-place-preserved c =
    let comma = pushed _ _ _ c.push_str.ensures.bytes c.loop-place.invariant.ascii refl in
    record { bytes = grind (arith, common_steps); ascii = joined _ _ _ comma c.format-in-loop-place.ensures.ascii c.append-in-loop-place.ensures.bytes; short = omega arith }
