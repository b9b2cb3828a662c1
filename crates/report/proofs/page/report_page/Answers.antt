use Rattle.std.proofs.Common.{length, IsAscii, sym, ap, ◌∙◌, subst, arith, rules}
use Rattle.itoa.proofs.Decimal.{IsAscii-signed_decimal}
use Rattle.report.proofs.Ascii.{headway_ascii}
use Rattle.report.proofs.page.report_page.Goals as goal

pub append-requires-2 : goal.append-requires-2
append-requires-2 g c =
    let ascii = subst IsAscii (sym (c.deref-2.ensures.0 ∙ c.headway_text.ensures)) (headway_ascii _ _ (IsAscii-signed_decimal _ (search rules))) in
    (omega arith, (omega (arith, ap length c.requires.empty), ascii))
