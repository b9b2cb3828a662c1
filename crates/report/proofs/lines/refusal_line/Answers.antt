use Rattle.std.proofs.Common.{codes, IsAscii, refl, sym, subst}
use Rattle.std.proofs.lemmas.Str.Ascii.{IsAscii-nil}
use Rattle.report.proofs.Ascii.{literal, joined, layer_ascii}
use Rattle.report.proofs.lines.refusal_line.Goals as goal

pub returns-clause-ascii : goal.returns-clause-ascii
returns-clause-ascii c =
    let none = subst IsAscii (sym c.new-line.ensures) IsAscii-nil in
    let refused = joined _ _ _ none (literal (codes "refused ") refl) c.push_str.ensures.bytes in
    let number = joined _ _ _ refused c.format.ensures.ascii c.append.ensures.bytes in
    let spaced = joined _ _ _ number (literal (codes " ") refl) c.push_str-2.ensures.bytes in
    let layer = joined _ _ _ spaced (subst IsAscii (sym c.word.ensures.word) (layer_ascii c.args.refusal.layer)) c.append-2.ensures.bytes in
    let parted = joined _ _ _ layer (literal (codes " ") refl) c.push_str-3.ensures.bytes in
    let place = joined _ _ _ parted c.format-2.ensures.ascii c.append-3.ensures.bytes in
    joined _ _ _ place (literal (codes "\n") refl) c.push_str-4.ensures.bytes
