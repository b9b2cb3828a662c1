use Rattle.std.proofs.Common.{ℕ, ◌<◌, length, set, sym, subst, arith, below_more, length-take}
use Rattle.amount.specs.Rows.{Row, zero_row}
use Rattle.engine.specs.Solved.{row_at}
use Rattle.engine.specs.Filled.{Leaves}
use Rattle.engine.proofs.Cells.{cell_same, cell_other, cell_left}
use Rattle.engine.proofs.departures.write_departures.Goals as goal

pub loop-v-preserved : goal.loop-v-preserved
loop-v-preserved g c =
    let m = g.X.Scaled.scale in
    let t = c.args.filled.now in
    let v = c.loop-v.v in
    let xs = c.loop-v.leave-items in
    let y = c.departure.result in
    let L : ℕ → Row m.places → Type 0 = λ u x. Leaves m t (m.row c.args.turn.now.total) c.args.turn.now.count u t.graph.events x in
    below_more (λ u. L u (row_at m (set xs v y) u)) v
    (λ u h. subst (L u) (sym (cell_other m.row (zero_row m.places) xs v u y (omega arith))) (c.loop-v.invariant u h))
    (subst (L v) (sym (cell_same m.row (zero_row m.places) xs v y (omega arith))) c.departure.ensures)

pub returns-clause-shown : goal.returns-clause-shown
returns-clause-shown g c v h =
    let m = g.X.Scaled.scale in
    let t = c.args.filled.now in
    let all : v < length c.loop-v.leave-items = omega (arith, h, c.event_count-n.ensures.is, c.requires, c.loop-v.auto.leave-items, length-take c.event_count-n.result c.args.leaves.now) in
    subst (Leaves m t (m.row c.args.turn.now.total) c.args.turn.now.count v t.graph.events) (sym (cell_left m.row (zero_row m.places) c.loop-v.leave-items _ v all)) (c.loop-v.invariant v (omega (arith, all)))
