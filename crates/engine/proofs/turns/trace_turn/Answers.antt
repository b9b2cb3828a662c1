use Rattle.std.proofs.Common.{◌+◌, Some, sym, ap, ◌∙◌, subst, ap₂, arith}
use Rattle.amount.specs.Rows.{Within, add_row, neg_row}
use Rattle.amount.specs.Scales.{exact}
use Rattle.amount.specs.Groups.{row_group}
use Rattle.amount.proofs.Bounds.{within_more}
use Rattle.network.specs.Walks.{net}
use Rattle.network.proofs.Joined.{joined}
use Rattle.engine.specs.Spans.{entry_span, turn_span}
use Rattle.engine.specs.Filled.{row_in, mark_in}
use Rattle.engine.proofs.Seen.{seen_none, seen_few, seen_fewer, seen_told, seen_more, seen_turns}
use Rattle.engine.proofs.Reading.{gap_near}
use Rattle.engine.proofs.turns.trace_turn.Goals as goal

pub loop-seen-init : goal.loop-seen-init
loop-seen-init g c = seen_none (net g.X.Scaled.scale.places c.args.filled.now.graph) (mark_in c.args.filled.now) c.args.v c.requires.known

pub last_wait-requires-clause-marked : goal.last_wait-requires-clause-marked
last_wait-requires-clause-marked g c =
    let m = g.X.Scaled.scale in
    let t = c.args.filled.now in
    let N = net m.places t.graph in
    let ready = c.event_count-n.ensures.ready in
    let ok = joined m.places t.graph ready.owed.sound in
    let few = seen_few (row_group m.order) N ok (row_in m t) (mark_in t) ready.entries _ c.event_count-n.ensures.is c.args.v c.requires.known c.requires.live c.loop-seen.seen c.loop-seen.at c.loop-seen.walked c.loop-seen.invariant c.in_default.not-Some in
    (seen_told (row_group m.order) N ok (row_in m t) (mark_in t) ready.entries _ c.event_count-n.ensures.is c.args.v c.requires.known c.requires.live c.loop-seen.seen c.loop-seen.at c.loop-seen.walked c.loop-seen.invariant few).0

pub loop-seen-smaller : goal.loop-seen-smaller
loop-seen-smaller g c =
    let m = g.X.Scaled.scale in
    let t = c.args.filled.now in
    let ready = c.event_count-n.ensures.ready in
    seen_fewer (row_group m.order) (net m.places t.graph) (joined m.places t.graph ready.owed.sound) (row_in m t) (mark_in t) ready.entries _ c.event_count-n.ensures.is c.args.v c.requires.known c.requires.live
    c.loop-seen.seen c.loop-seen.at c.loop-seen.walked c.loop-seen.invariant c.in_default.not-Some

pub loop-seen-preserved : goal.loop-seen-preserved
loop-seen-preserved g c =
    let m = g.X.Scaled.scale in
    let t = c.args.filled.now in
    let ready = c.event_count-n.ensures.ready in
    seen_more (row_group m.order) (net m.places t.graph) (joined m.places t.graph ready.owed.sound) (row_in m t) (mark_in t) ready.entries _ c.event_count-n.ensures.is c.args.v c.requires.known c.requires.live
    c.loop-seen.seen c.loop-seen.at c.loop-seen.walked c.loop-seen.invariant ready.owed.few c.in_default.not-Some _ _ c.last_wait.ensures.is c.start-at.ensures.is

pub overflow_sub-end : goal.overflow_sub-end
overflow_sub-end g c = omega (arith, (c.loop-seen.invariant.only _ _ c.in-Some.is).0, c.loop-seen.invariant.within, c.event_count-n.ensures.is)

pub overflow_sub-result : goal.overflow_sub-result
overflow_sub-result g c = omega (arith, (c.loop-seen.invariant.only _ _ c.in-Some.is).0)

pub sub-requires : goal.sub-requires
sub-requires g c = g.met.X.Measure.subtracts.can _ _ (within_more _ (entry_span + entry_span) exact _ (omega arith) (gap_near _ entry_span _ _ c.row.ensures.near c.row-2.ensures.near))

pub invariant_of-result : goal.invariant_of-result
invariant_of-result g c =
    let m = g.X.Scaled.scale in
    record {
      few = omega (arith, c.loop-seen.invariant.within, c.event_count-n.ensures.ready.owed.few);
      near = subst (Within m.places turn_span) (sym (g.met.X.Measure.subtracts.gives _ _ _ c.sub.ensures)) (gap_near m.places entry_span _ _ c.row.ensures.near c.row-2.ensures.near);
    }

pub returns : goal.returns
returns g c =
    let m = g.X.Scaled.scale in
    let t = c.args.filled.now in
    let ready = c.event_count-n.ensures.ready in
    seen_turns (row_group m.order) (net m.places t.graph) (joined m.places t.graph ready.owed.sound) (row_in m t) (mark_in t) ready.entries _ c.event_count-n.ensures.is c.args.v c.requires.known c.requires.live
    c.loop-seen.seen c.loop-seen.at c.loop-seen.walked c.loop-seen.invariant c.from-first.result (c.in-Some.is ∙ ap Some (sym c.from-first.ensures)) _
    (g.met.X.Measure.subtracts.gives _ _ _ c.sub.ensures ∙ ap₂ (add_row m.places) c.row.ensures.is (ap (neg_row m.places) c.row-2.ensures.is))
