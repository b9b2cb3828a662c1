use Rattle.std.proofs.Common.{◌≡◌, subst, arith}
use Rattle.network.specs.Walks.{net}
use Rattle.engine.specs.Filled.{mark_in}
use Rattle.engine.proofs.Back.{back_from}
use Rattle.engine.proofs.Begun.{Written, written_more, written_all}
use Rattle.engine.proofs.loops.write_loop.Goals as goal

pub loop-t-preserved : goal.loop-t-preserved
loop-t-preserved g c =
    let N = net g.X.Scaled.scale.places c.args.filled.now.graph in
    let M = mark_in c.args.filled.now in
    let r = c.args.turn.now in
    let t = c.loop-t.t in
    written_more N M r.end r.event r.count c.lowest_offset-lowest.result c.args.circle.now c.loop-t.circle _ _ t c.offset_from.result (omega (arith, c.requires.room, c.loop-t.auto.circle)) c.loop-t.invariant c.loop-t-test.true c.offset_from.ensures
    (back_from N M t r.end r.event _ _ _ c.loop-t.invariant.is c.last_wait-e.ensures.is c.start-at.ensures.is) c.start-at.ensures.known _ c.last_wait-e.ensures.is

pub returns-clause-shown : goal.returns-clause-shown
returns-clause-shown g c =
    let N = net g.X.Scaled.scale.places c.args.filled.now.graph in
    let M = mark_in c.args.filled.now in
    let r = c.args.turn.now in
    let all : c.loop-t.t ≡ r.count = omega arith in
    written_all N M r.end r.event r.count c.lowest_offset-lowest.result c.args.circle.now c.loop-t.circle c.loop-t.at (omega (arith, c.requires.room, c.loop-t.auto.circle)) c.lowest_offset-lowest.ensures
    (subst (Written N M r.end r.event r.count c.lowest_offset-lowest.result c.args.circle.now c.loop-t.circle c.loop-t.at) all c.loop-t.invariant)
