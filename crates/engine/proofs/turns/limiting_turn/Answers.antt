use Rattle.std.proofs.Common.{◌≡◌, ◌+◌, Some, refl, sym, ap, ◌∙◌, subst, arith}
use Rattle.std.proofs.lemmas.Bool.Decides.{not_from_Decides}
use Rattle.engine.specs.Tables.{Live}
use Rattle.engine.specs.Filled.{mark_in}
use Rattle.engine.specs.Limits.{Limiting}
use Rattle.engine.proofs.Back.{live_marked}
use Rattle.engine.proofs.Limited.{limit_dead, limit_first, limit_more}
use Rattle.engine.proofs.turns.limiting_turn.Goals as goal
use Rattle.engine.proofs.turns.limiting_turn.Goals.{then-has_walk, in-Some, in-None, else-has_walk}

pub loop-v-preserved : goal.loop-v-preserved
loop-v-preserved g c =
    let m = g.X.Scaled.scale in
    let t = c.args.filled.now in
    let v = c.loop-v.v in
    elim c.if-has_walk.branch [
      | then-has_walk w ↦
          elim w.match-limiting.branch [
            | in-Some u ↦
                subst (Limiting m t (v + 1)) (sym (w.limiting-is ∙ ap Some u.limiting-is))
                (limit_more m t u.in-Some.held w.trace_turn-turn.result u.of_greater_mean.result v w.trace_turn-turn.ensures u.of_greater_mean.ensures (subst (Limiting m t v) u.in-Some.is c.loop-v.invariant))
            | in-None u ↦
                subst (Limiting m t (v + 1)) (sym (w.limiting-is ∙ ap Some u.limiting-is))
                (limit_first m t w.trace_turn-turn.result v w.trace_turn-turn.ensures (subst (Limiting m t v) u.in-None.is c.loop-v.invariant))
          ]
      | else-has_walk w ↦
          let dead = subst (λ n. ¬ Live n (mark_in t n v)) c.event_count-n.ensures.is (not_from_Decides _ w.if-has_walk.ensures refl) in
          subst (Limiting m t (v + 1)) (sym w.limiting-is) (limit_dead m t c.loop-v.limiting v (λ h. dead (live_marked _ _ h)) c.loop-v.invariant)
    ]

pub returns : goal.returns
returns g c =
    let all : c.loop-v.v ≡ c.args.filled.now.graph.events = omega arith in
    subst (λ v. Limiting g.X.Scaled.scale c.args.filled.now v c.loop-v.limiting) all c.loop-v.invariant
