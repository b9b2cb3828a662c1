-- The law of histories.
use Rattle.std.specs.Prelude.{◌≡◌, ℕ, true, List, [], ◌∷◌, ◌++◌, Err, Result}
use Rattle.amount.specs.Scales.{Scale}
use Rattle.network.specs.declared.Wait.{Wait}
use Rattle.network.specs.declared.Period.{Period}
use Rattle.network.specs.Networks.{Graph, graph}
use Rattle.network.specs.Walks.{net, NoClosed}
use Rattle.engine.specs.declared.EngineFault.{EngineFault}
use Rattle.engine.specs.declared.EngineFault.TheVariants.{NoLoop}
use Rattle.engine.specs.Solved.{Memory, Enough, Solved}
use Rattle.plan.specs.declared.calls.Declined.TheVariants.{Engine}
use Rattle.plan.specs.Plans.{Plan, opened, events_of}
use Rattle.plan.specs.Calls.{PlainCall, solve, Answer, by_period}
use Rattle.plan.specs.Histories.{History}
use Rattle.plan.specs.Left.{left}

module _ {X : Type 0} (m : Scale X) where
  -- the answer to a solve of this network, with the memory before and after. A period is shown with a loop of its waits, and no
  -- departures keep them at a shorter one; with enough space, a loop is missed exactly when the waits close none
  pub record SolvedBy (g : Graph) (a : Answer X) (t u : Memory X) : Type 0 where
    pub result : Result (Period X) EngineFault
    pub told : a ≡ by_period result
    pub solved : Solved m g result t u
    pub loopless : Enough g.events t → (a ≡ Err (Engine (NoLoop g.events)) → NoClosed (net m.places g)) × (NoClosed (net m.places g) → a ≡ Err (Engine (NoLoop g.events)))

  -- a plan opened with n events over these records, after these calls and answers, and then the call c, answered by a: every
  -- answer is the one defined, the waits are those that the accepted calls left, and a solve is about just these
  pub record Continued {S : Type 0} (n : ℕ) (records : List (Wait S)) (calls : List PlainCall) (answers : List (Answer X)) (p : Plan S) (t : Memory X) (c : PlainCall) (a : Answer X) (q : Plan S) (u : Memory X) : Type 0 where
    pub history : History m (opened n records) (calls ++ c ∷ []) (answers ++ a ∷ []) q
    pub waits : q.waits ≡ left m.places (calls ++ c ∷ []) (answers ++ a ∷ [])
    pub events : q.events ≡ events_of n
    pub solves : c ≡ solve → p.fixed ≡ true → SolvedBy (graph (events_of n) (left m.places calls answers)) a t u

  -- what every call keeps: whatever calls since the opening led to the plan p, this one goes on to q
  abbrev pub Law : {S : Type 0} → Plan S → Memory X → PlainCall → Answer X → Plan S → Memory X → Type 0
  Law {S} p t c a q u = (n : ℕ) (records : List (Wait S)) (calls : List PlainCall) (answers : List (Answer X)) → History m (opened n records) calls answers p → Continued n records calls answers p t c a q u
