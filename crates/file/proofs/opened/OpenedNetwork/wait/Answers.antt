use Rattle.std.proofs.Common.{◌<◌, sym, ap, ◌∙◌, subst, arith}
use Rattle.file.specs.Words.{words_of, middle, lower}
use Rattle.file.proofs.Fitted.{fitted_length, fitted_at}
use Rattle.file.proofs.Steps.{item_before}
use Rattle.file.proofs.opened.OpenedNetwork.wait.Goals as goal

pub word-w-requires : goal.word-w-requires
word-w-requires g c =
    let s = c.args.self.now in
    let n = fitted_length g.X.Scaled.scale.places s.places (words_of s.bytes.now) s.waits in
    omega (arith, item_before s.places c.args.i s.waits (omega (arith, c.requires, n)), s.room)

pub amount_from-requires : goal.amount_from-requires
amount_from-requires g c =
    let s = c.args.self.now in
    let n = fitted_length g.X.Scaled.scale.places s.places (words_of s.bytes.now) s.waits in
    omega (arith, item_before s.places c.args.i s.waits (omega (arith, c.requires, n)), s.room)

pub returns : goal.returns
returns g c =
    let s = c.args.self.now in
    let i = c.args.i in
    let D = g.X.Scaled.scale.places in
    let ws = words_of s.bytes.now in
    let l : i < s.waits = omega (arith, c.requires, fitted_length D s.places ws s.waits) in
    let is = fitted_at D s.places ws s.waits i l in
    let a = c.middle.ensures ∙ ap middle c.word-w.ensures in
    let b = c.lower.ensures ∙ ap lower c.word-w.ensures in
    record {
      is = (λ x. record { start = a x; end = b x; amount = c.amount_from.ensures x }) ∙ sym is;
      starts = subst (λ n. n < s.events) (ap (λ w. w.start) is ∙ sym a) ((s.owed D).sound.starts i c.requires);
      ends = subst (λ n. n < s.events) (ap (λ w. w.end) is ∙ sym b) ((s.owed D).sound.ends i c.requires);
    }
