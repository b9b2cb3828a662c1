use Rattle.std.proofs.Common.{◌+◌, refl, sym, ap, ◌∙◌, subst, arith}
use Rattle.std.proofs.lemmas.Bool.Decides.{not_from_Decides}
use Rattle.amount.specs.Groups.{row_group}
use Rattle.engine.specs.Turns.{given, TopOffer}
use Rattle.engine.specs.Filled.{row_in, mark_in}
use Rattle.engine.proofs.Offers.{top_first, top_dead, top_later, later_max}
use Rattle.engine.proofs.departures.departure.Goals as goal
use Rattle.engine.proofs.departures.departure.Goals.{then-has_walk, else-has_walk}

pub loop-k-init : goal.loop-k-init
loop-k-init g c =
    let m = g.X.Scaled.scale in
    let t = c.args.filled.now in
    top_first (row_group m.order) (row_in m t) (mark_in t) _ c.args.turn.now.count c.args.v _ c.zero-latest.ensures (c.event_count-n.ensures.ready.entries 0 c.args.v (omega arith) c.requires).0

pub loop-k-preserved : goal.loop-k-preserved
loop-k-preserved g c =
    let m = g.X.Scaled.scale in
    let t = c.args.filled.now in
    let G = row_group m.order in
    let D = row_in m t in
    let M = mark_in t in
    let p = m.row c.args.turn.now.total in
    let q = c.args.turn.now.count in
    let k = c.loop-k.k in
    let v = c.args.v in
    elim c.if-has_walk.branch [
      | then-has_walk w ↦
          subst (λ x. TopOffer G D M p q v (k + 1) (m.row x)) (sym (w.latest-is ∙ w.max-latest.ensures))
          (top_later G D M p q v k (m.row c.loop-k.latest) (m.row w.offered.result) _ (w.if-has_walk.ensures.0 refl) (w.offered.ensures ∙ ap (λ r. given G r k p q) w.row.ensures.is)
          (later_max m g.met.X.Measure.compares g.met.X.Ord.total c.loop-k.latest w.offered.result) c.loop-k.invariant)
      | else-has_walk w ↦ subst (λ x. TopOffer G D M p q v (k + 1) (m.row x)) (sym w.latest-is) (top_dead G D M p q v k _ (not_from_Decides _ w.if-has_walk.ensures refl) c.loop-k.invariant)
    ]
