use Rattle.std.proofs.Common.{codes, IsAscii, refl, sym, subst}
use Rattle.std.proofs.lemmas.Str.Ascii.{IsAscii-nil}
use Rattle.report.proofs.Ascii.{literal, joined}
use Rattle.report.proofs.lines.departure_line.Goals as goal

pub returns-clause-ascii : goal.returns-clause-ascii
returns-clause-ascii g c =
    let none = subst IsAscii (sym c.new-line.ensures) IsAscii-nil in
    let leaves = joined _ _ _ none (literal (codes "leaves ") refl) c.push_str.ensures.bytes in
    let event = joined _ _ _ leaves c.format.ensures.ascii c.append.ensures.bytes in
    let spaced = joined _ _ _ event (literal (codes " ") refl) c.push_str-2.ensures.bytes in
    let row = joined _ _ _ spaced (subst IsAscii (sym c.deref.ensures.0) c.row_text.ensures.ascii) c.append-2.ensures.bytes in
    joined _ _ _ row (literal (codes "\n") refl) c.push_str-3.ensures.bytes
