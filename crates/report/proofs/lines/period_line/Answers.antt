use Rattle.std.proofs.Common.{codes, IsAscii, refl, sym, subst}
use Rattle.std.proofs.lemmas.Str.Ascii.{IsAscii-nil}
use Rattle.report.proofs.Ascii.{literal, joined}
use Rattle.report.proofs.lines.period_line.Goals as goal

pub returns-clause-ascii : goal.returns-clause-ascii
returns-clause-ascii g c =
    let none = subst IsAscii (sym c.new-line.ensures) IsAscii-nil in
    let period = joined _ _ _ none (literal (codes "period ") refl) c.push_str.ensures.bytes in
    let total = joined _ _ _ period (subst IsAscii (sym c.deref.ensures.0) c.row_text.ensures.ascii) c.append.ensures.bytes in
    let over = joined _ _ _ total (literal (codes " / ") refl) c.push_str-2.ensures.bytes in
    let count = joined _ _ _ over c.format.ensures.ascii c.append-2.ensures.bytes in
    joined _ _ _ count (literal (codes "\n") refl) c.push_str-3.ensures.bytes
