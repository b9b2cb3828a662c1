use Rattle.std.proofs.Common.{◌≡◌, ◌+◌, sym, subst₂}
use Rattle.network.specs.Walks.{net}
use Rattle.engine.specs.Turns.{back}
use Rattle.engine.specs.Filled.{mark_in}
use Rattle.engine.proofs.Back.{back_from}
use Rattle.engine.proofs.Begun.{Lower, lower_yes, lower_no}
use Rattle.engine.proofs.loops.lowest_offset.Goals as goal
use Rattle.engine.proofs.loops.lowest_offset.Goals.{then-at-lowest, else-at-lowest}

pub loop-t-preserved : goal.loop-t-preserved
loop-t-preserved g c =
    let N = net g.X.Scaled.scale.places c.args.filled.now.graph in
    let M = mark_in c.args.filled.now in
    let k = c.args.turn.now.end in
    let x = c.args.turn.now.event in
    let z = c.start-at.result in
    let t = c.loop-t.t in
    let next : back N M k x (t + 1) ≡ z = back_from N M t k x _ _ _ c.loop-t.invariant.is c.last_wait.ensures.is c.start-at.ensures.is in
    elim c.if-at-lowest.branch [
      | then-at-lowest w ↦ subst₂ (λ a b. Lower N M k x z a b (t + 1)) (sym w.lowest-is) (sym w.offset-is) (lower_yes N M k x _ z _ _ t c.loop-t.invariant next c.start-at.ensures.known w.if-at-lowest.true)
      | else-at-lowest w ↦ subst₂ (λ a b. Lower N M k x z a b (t + 1)) (sym w.lowest-is) (sym w.offset-is) (lower_no N M k x _ z _ _ t c.loop-t.invariant next c.start-at.ensures.known w.if-at-lowest.false)
    ]
