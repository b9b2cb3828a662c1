use Rattle.std.proofs.Common.{◌≡◌, ◌/◌, ◌%◌, ◌^◌, bit_xor, rules, refl, ap, ◌∙◌}
use Rattle.std.specs.Iterator.{YieldsFirst}
use Rattle.std.proofs.lemmas.Fn.{fold_over}
use Rattle.std.proofs.lemmas.Iterator.Consumers.{YieldsList-from_first}
use Rattle.file.specs.Words.{words_of}
use Rattle.file.specs.Columns.{ones_in}
use Rattle.file.proofs.ColumnSums.{parity_push}
use Rattle.file.proofs.columns.parity.Goals as goal

pub returns : goal.returns
returns c =
    fold_over (YieldsFirst (λ s. words_of s.0.now)) (λ x. x) _ (λ ws odd. odd % 2 ≡ ones_in c.args.c ws % 2) _
    (λ ws odd w r f j k.
    let e : r ≡ bit_xor odd (w / 2 ^ c.args.c) = search rules in
    (ap (λ n. n % 2) e ∙ parity_push c.args.c ws w odd j, search rules)) (record { 0 = c.args.bytes }) (words_of c.args.bytes.now) 0 c.fold.result
    (YieldsList-from_first (λ x. x) (λ s. words_of s.0.now) {s = record { 0 = c.args.bytes }} (words_of c.args.bytes.now) refl).runs refl c.fold.ensures.ran
