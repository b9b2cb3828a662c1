use Rattle.std.proofs.Common.{◌+◌, ◌*◌, sym, ap, ◌∙◌, subst, ap₂, arith}
use Rattle.amount.specs.Rows.{Within, add_row, neg_row}
use Rattle.amount.specs.Scales.{exact}
use Rattle.amount.proofs.Bounds.{within_more, within_add, within_neg}
use Rattle.amount.proofs.Multiples.{times_row_lem}
use Rattle.engine.specs.Spans.{entry_span, turn_span}
use Rattle.engine.proofs.Reading.{times_near, can_take}
use Rattle.engine.proofs.departures.offered.Goals as goal

pub mul-requires : goal.mul-requires
mul-requires g c = g.met.X.Measure.multiplies.can _ _ (can_take g.X.Scaled.scale _ entry_span _ c.args.turn.now.few (omega arith) c.requires.near)

pub mul-requires-2 : goal.mul-requires-2
mul-requires-2 g c = g.met.X.Measure.multiplies.can _ _ (can_take g.X.Scaled.scale _ turn_span _ c.requires.few (omega arith) c.args.turn.now.near)

pub sub-requires : goal.sub-requires
sub-requires g c =
    let m = g.X.Scaled.scale in
    let gives = g.met.X.Measure.multiplies.gives in
    let turn = c.args.turn.now in
    let first = times_near m.order turn.count entry_span (m.row c.args.total) turn.few c.requires.near in
    let second = times_near m.order c.args.k turn_span (m.row turn.total) c.requires.few turn.near in
    g.met.X.Measure.subtracts.can _ _ (within_more m.places (1000 * entry_span + 1000 * turn_span) exact _ (omega arith)
    (within_add m.places (1000 * entry_span) (1000 * turn_span) _ _ (subst (Within m.places (1000 * entry_span)) (sym (gives _ _ _ c.mul.ensures)) first)
    (within_neg m.places (1000 * turn_span) _ (subst (Within m.places (1000 * turn_span)) (sym (gives _ _ _ c.mul-2.ensures)) second))))

pub returns : goal.returns
returns g c =
    let m = g.X.Scaled.scale in
    let gives = g.met.X.Measure.multiplies.gives in
    let turn = c.args.turn.now in
    g.met.X.Measure.subtracts.gives _ _ _ c.sub.ensures
    ∙ ap₂ (add_row m.places) (gives _ _ _ c.mul.ensures ∙ times_row_lem m.order turn.count (m.row c.args.total)) (ap (neg_row m.places) (gives _ _ _ c.mul-2.ensures ∙ times_row_lem m.order c.args.k (m.row turn.total)))
