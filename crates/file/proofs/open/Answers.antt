use Rattle.std.proofs.Common.{sym, ap, ◌∙◌, subst, arith}
use Rattle.std.specs.Option.{is_some}
use Rattle.network.specs.Networks.{graph}
use Rattle.file.specs.Words.{words_of}
use Rattle.file.specs.Contents.{first_waits, meant}
use Rattle.file.specs.Opening.{Opens}
use Rattle.file.specs.Reading.{Outlined}
use Rattle.file.proofs.Fitted.{fitted_owed}
use Rattle.file.proofs.FittedRows.{waits_same}
use Rattle.file.proofs.Kept.{spelled_waits_lem, facts}
use Rattle.file.proofs.open.Goals as goal

pub invariant_of-result : goal.invariant_of-result
invariant_of-result g c =
    let l = c.in_ok-outline.outline in
    let bs = c.args.bytes.now in
    let e = c.in_ok-outline.ensures in
    let d = c.PLACES-2.result in
    let same = c.PLACES.ensures ∙ sym c.PLACES-2.ensures in
    let f = facts c.NUMBER.result d bs l.events l.waits (is_some l.claim) (subst (λ d. Opens c.NUMBER.result d bs) same e.0) (subst (λ d. Outlined d (words_of bs) l) same e.1).counted in
    record {
      small = omega (arith, c.PLACES-2.ensures, g.met.X.Filed.placed, g.X.Scaled.scale.few);
      owed = λ D. fitted_owed D d (words_of bs) l.waits l.events f.owed;
      room = f.room;
    }

pub returns-clause-answered : goal.returns-clause-answered
returns-clause-answered g c =
    let d = g.X.Scaled.scale.places in
    let l = c.in_ok-outline.outline in
    let e = c.in_ok-outline.ensures in
    let bs = c.args.bytes.now in
    let ws = words_of bs in
    let same = c.PLACES.ensures ∙ g.met.X.Filed.placed in
    let o = (subst (λ d. Outlined d ws l) same e.1).counted in
    let waits = waits_same d c.PLACES-2.result ws l.waits (c.PLACES-2.ensures ∙ g.met.X.Filed.placed) ∙ ap (first_waits d ws) (sym (spelled_waits_lem d ws l.waits (is_some l.claim) o.items o.claims)) in (
      subst (λ m. Opens m d bs) c.NUMBER.ensures (subst (λ d. Opens c.NUMBER.result d bs) same e.0),
      λ i. meant (graph (o.stated i) (waits i)) (c.claim_of-claim.ensures i),
    )
