-- Every call that follows the rules keeps the law of histories.
use Rattle.std.proofs.Common.{◌≡◌, Bool, true, false, List, [], ◌∷◌, ◌++◌, Ok, Err, Result, ap, subst}
use Rattle.amount.specs.Scales.{Scale}
use Rattle.network.specs.declared.Period.{Period}
use Rattle.network.specs.Networks.{Graph}
use Rattle.network.specs.Walks.{net, NoClosed}
use Rattle.engine.specs.declared.EngineFault.{EngineFault}
use Rattle.engine.specs.declared.EngineFault.TheVariants.{ShortTable, NoLoop}
use Rattle.engine.specs.Solved.{Memory, Enough, Solved}
use Rattle.plan.specs.declared.calls.Declined.TheVariants.{Engine}
use Rattle.plan.specs.Plans.{Plan, graph_of, opened}
use Rattle.plan.specs.Calls.{PlainCall, solve, Answer, by_period, allowed}
use Rattle.plan.specs.Histories.{Judged, Follows, History, ended, then}
use Rattle.plan.specs.Law.{SolvedBy, Law}
use Rattle.plan.proofs.Lefts.{left_by, events_kept}

module _ {X : Type 0} (m : Scale X) where
  -- a loop is missed exactly when there is none
  missed : (g : Graph) (r : Result (Period X) EngineFault) (t u : Memory X) → Solved m g r t u → Enough g.events t
      → (◌≡◌ {A = Answer X} (by_period r) (Err (Engine (NoLoop g.events))) → NoClosed (net m.places g)) × (NoClosed (net m.places g) → by_period r ≡ Err (Engine (NoLoop g.events)))
  missed g (Ok k) t u s enough = (λ e. cc, λ none. absurd (none _ _ s.shown.period.loop.closed))
  missed g (Err (ShortTable k)) t u s enough = absurd (s.short enough)
  missed g (Err (NoLoop k)) t u s enough = (λ e. s.none, λ none. ap (λ j. Err (Engine (NoLoop j))) s.place)

module _ {X S : Type 0} (m : Scale X) where
  -- a history goes on by one call
  one_more : (p q r : Plan S) (t u : Memory X) (calls : List PlainCall) (answers : List (Answer X)) (c : PlainCall) (a : Answer X)
      → History m p calls answers q → Follows m q t c a r u → History m p (calls ++ c ∷ []) (answers ++ a ∷ []) r
  one_more _ _ r t u _ _ c a (ended p) f = then p r r t u c a [] [] f (ended r)
  one_more _ _ r t u _ _ c a (then p p' q t₁ u₁ c₁ a₁ calls answers g h) f = then p p' r t₁ u₁ c₁ a₁ _ _ g (one_more p' q r t u calls answers c a h f)

  -- what a solve of a fixed plan answers is about the plan's waits
  solved_by : (p q : Plan S) (t u : Memory X) (a : Answer X) → (b : Bool) → b ≡ true → Judged m (allowed b solve) p t solve a q u → SolvedBy m (graph_of p) a t u
  solved_by p q t u a true e h = record {
    result = h.0;
    told = h.1.0;
    solved = h.1.2;
    loopless = rw (h.1.0) (missed m (graph_of p) h.0 t u h.1.2);
  }
  solved_by p q t u a false e h = cc

  -- a call that follows the rules keeps the law
  pub law_kept : (p q : Plan S) (t u : Memory X) (c : PlainCall) (a : Answer X) → Follows m p t c a q u → Law m p t c a q u
  law_kept p q t u c a f n records calls answers h =
      let all = one_more (opened n records) p q t u calls answers c a h f in
      record {
        history = all;
        waits = left_by m (opened n records) (calls ++ c ∷ []) (answers ++ a ∷ []) q all;
        events = events_kept m (opened n records) (calls ++ c ∷ []) (answers ++ a ∷ []) q all;
        solves = λ e fixed.
            rw (← events_kept m (opened n records) calls answers p h, ← left_by m (opened n records) calls answers p h)
            (solved_by p q t u a p.fixed fixed (subst (λ (k : PlainCall). Judged m (allowed p.fixed k) p t k a q u) e f));
      }
