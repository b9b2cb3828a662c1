-- Histories: which answers a sequence of calls may have, and what plan it leaves.
use Rattle.std.specs.Prelude.{◌≡◌, ℕ, Bool, true, false, List, [], ◌∷◌, Ok, Err, Result}
use Rattle.amount.specs.Scales.{Scale}
use Rattle.network.specs.declared.Period.{Period}
use Rattle.engine.specs.declared.EngineFault.{EngineFault}
use Rattle.engine.specs.Solved.{Memory, Solved}
use Rattle.plan.specs.declared.fault.PlanFault.{PlanFault}
use Rattle.plan.specs.declared.calls.Reply.TheVariants.{Done}
use Rattle.plan.specs.declared.calls.Declined.TheVariants.{Barred}
use Rattle.plan.specs.Plans.{Plan, graph_of, settled, reopened}
use Rattle.plan.specs.Rules.{Puts, Retimes, Drops}
use Rattle.plan.specs.Taking.{TakesIn}
use Rattle.plan.specs.Calls.{PlainCall, put, retime, drop_wait, take_in, fix, reopen, solve, allowed, Answer, by_number, by_count, by_done, by_period}

module _ {X S : Type 0} (m : Scale X) where
  -- the answer a to a call that the state allows, the plan p before it and q after, and the memory lent for solving, t before and u after
  abbrev pub Ruled : Plan S → Memory X → PlainCall → Answer X → Plan S → Memory X → Type 0
  Ruled p t (put w) a q u = (r : Result ℕ PlanFault) × ((a ≡ by_number r) × Puts p w r q × (u ≡ t))
  Ruled p t (retime i x) a q u = (r : Result (Unit {0}) PlanFault) × ((a ≡ by_done r) × Retimes p i x r q × (u ≡ t))
  Ruled p t (drop_wait i) a q u = (r : Result (Unit {0}) PlanFault) × ((a ≡ by_done r) × Drops p i r q × (u ≡ t))
  Ruled p t (take_in number bytes) a q u = (r : Result ℕ PlanFault) × ((a ≡ by_count r) × TakesIn number m.places p bytes r q × (u ≡ t))
  Ruled p t fix a q u = (a ≡ Ok Done) × (q ≡ settled p) × (u ≡ t)
  Ruled p t reopen a q u = (a ≡ Ok Done) × (q ≡ reopened p) × (u ≡ t)
  Ruled p t solve a q u = (r : Result (Period X) EngineFault) × ((a ≡ by_period r) × (q ≡ p) × Solved m (graph_of p) r t u)

  -- a call is answered by its rule, or barred where the state does not allow it
  abbrev pub Judged : Bool → Plan S → Memory X → PlainCall → Answer X → Plan S → Memory X → Type 0
  Judged true p t c a q u = Ruled p t c a q u
  Judged false p t c a q u = (a ≡ Err Barred) × (q ≡ p) × (u ≡ t)

  abbrev pub Follows : Plan S → Memory X → PlainCall → Answer X → Plan S → Memory X → Type 0
  Follows p t c a q u = Judged (allowed p.fixed c) p t c a q u

  -- the same of a call that is lent no memory for solving
  abbrev pub FollowsApart : Plan S → PlainCall → Answer X → Plan S → Type 0
  FollowsApart p c a q = (t : Memory X) → Follows p t c a q t

  -- a history: each answer follows from the plan that the calls before it left, whatever memory was lent for solving
  pub data History : Plan S → List PlainCall → List (Answer X) → Plan S → Type 0 where
    ended : (p : Plan S) → History p [] [] p
    then : (p p' q : Plan S) (t u : Memory X) (c : PlainCall) (a : Answer X) (calls : List PlainCall) (answers : List (Answer X))
        → Follows p t c a p' u → History p' calls answers q → History p (c ∷ calls) (a ∷ answers) q
