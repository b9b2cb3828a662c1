-- The plan as the planner sees it.
use Rattle.std.specs.Prelude.{ℕ, min, Bool, true, false, cond, List, [], length, nat_lt}
use Rattle.amount.specs.declared.measure.Scaled.{Ghosts}
use Rattle.amount.specs.declared.spanned.Spanned.{Spanned}
use Rattle.network.specs.declared.Wait.{Wait}
use Rattle.network.specs.Networks.{PlainWait, Graph, graph}
use Rattle.plan.specs.Records.{meant}
use Rattle.plan.specs.declared.waits.WaitList.{WaitList}
use Rattle.plan.specs.declared.Draft.{Draft}
use Rattle.plan.specs.declared.Fixed.{Fixed}
use Rattle.plan.specs.declared.InState.{InState}
use Rattle.plan.specs.declared.InState.TheVariants.{Editing, Settled}

-- a plan: fixed or else a draft, its event count, its waits in the order of their numbers, and the records in its memory
pub record Plan (S : Type 0) : Type 0 where
  pub fixed : Bool
  pub events : ℕ
  pub waits : List PlainWait
  pub memory : List (Wait S)

-- how many waits it can have
abbrev pub room : {S : Type 0} → Plan S → ℕ
room p = min (length p.memory) 20000

-- the event count of a plan opened with n events: none where n will not do
abbrev pub events_of : ℕ → ℕ
events_of n = cond (nat_lt 1000 n) 0 n

-- a plan just opened over this memory
abbrev pub opened : {S : Type 0} → ℕ → List (Wait S) → Plan S
opened n m = record { fixed = false; events = events_of n; waits = []; memory = m }

-- the network that it is, once it is fixed
abbrev pub graph_of : {S : Type 0} → Plan S → Graph
graph_of p = graph p.events p.waits

-- the same plan fixed
abbrev pub settled : {S : Type 0} → Plan S → Plan S
settled p = record { fixed = true; events = p.events; waits = p.waits; memory = p.memory }

-- the same plan as a draft
abbrev pub reopened : {S : Type 0} → Plan S → Plan S
reopened p = record { fixed = false; events = p.events; waits = p.waits; memory = p.memory }

module _ {X : Type 0} {G : Ghosts X} where
  -- the draft that a list of waits makes
  abbrev pub listed : WaitList X G → Plan (Spanned X G)
  listed p = record { fixed = false; events = p.events; waits = meant p.count p.memory.now; memory = p.memory.now }

  -- the plan that a draft is, that a fixed plan is, and that one in either state is
  abbrev pub draft_plan : Draft X G → Plan (Spanned X G)
  draft_plan p = listed p.list

  abbrev pub fixed_plan : Fixed X G → Plan (Spanned X G)
  fixed_plan p = settled (listed p.list)

  abbrev pub plan_of : InState (Draft X G) (Fixed X G) → Plan (Spanned X G)
  plan_of (Editing p) = draft_plan p
  plan_of (Settled p) = fixed_plan p
