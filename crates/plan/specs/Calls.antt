-- The planner's calls by their meaning, and what the answers are.
use Rattle.std.specs.Prelude.{ℕ, Bool, true, false, List, ℤ, Ok, Err, Result, is_ok}
use Rattle.amount.specs.Rows.{places}
use Rattle.amount.specs.Scales.{Scale}
use Rattle.network.specs.declared.Period.{Period}
use Rattle.network.specs.Networks.{PlainWait, plain}
use Rattle.engine.specs.declared.EngineFault.{EngineFault}
use Rattle.plan.specs.declared.fault.PlanFault.{PlanFault}
use Rattle.plan.specs.declared.calls.Call.{Call}
use Rattle.plan.specs.declared.calls.Call.TheVariants.{Put, Retime, DropWait, Fix, Reopen, Solve}
use Rattle.plan.specs.declared.calls.FiledCall.{FiledCall}
use Rattle.plan.specs.declared.calls.FiledCall.TheVariants.{TakeIn, Other}
use Rattle.plan.specs.declared.calls.Reply.{Reply}
use Rattle.plan.specs.declared.calls.Reply.TheVariants.{Number, Came, Done, Shown}
use Rattle.plan.specs.declared.calls.Declined.{Declined}
use Rattle.plan.specs.declared.calls.Declined.TheVariants.{Plan, Engine}

-- a call; amounts are lists of places, and a file's bytes are taken in for the measure of a number
pub data PlainCall : Type 0 where
  put : PlainWait → PlainCall
  retime : ℕ → List ℤ → PlainCall
  drop_wait : ℕ → PlainCall
  take_in : ℕ → List ℕ → PlainCall
  fix : PlainCall
  reopen : PlainCall
  solve : PlainCall

-- what a call means in a measure
abbrev pub plain_call : {X : Type 0} → Scale X → Call X → PlainCall
plain_call m (Put w) = put (plain m w)
plain_call m (Retime i x) = retime i (places m.places (m.row x))
plain_call m (DropWait i) = drop_wait i
plain_call m Fix = fix
plain_call m Reopen = reopen
plain_call m Solve = solve

-- and what a call means in a measure that has a number in files
abbrev pub plain_filed_call : {X : Type 0} → ℕ → Scale X → FiledCall X → PlainCall
plain_filed_call number m (TakeIn bytes) = take_in number bytes.now
plain_filed_call number m (Other c) = plain_call m c

-- what a draft (false) and a fixed plan (true) allow
abbrev pub allowed : Bool → PlainCall → Bool
allowed false (put w) = true
allowed false (retime i a) = true
allowed false (drop_wait i) = true
allowed false (take_in m bytes) = true
allowed false fix = true
allowed false reopen = false
allowed false solve = false
allowed true (put w) = false
allowed true (retime i a) = false
allowed true (drop_wait i) = false
allowed true (take_in m bytes) = false
allowed true fix = false
allowed true reopen = true
allowed true solve = true

-- the answer to a call: a reply, or why it is declined
abbrev pub Answer : Type 0 → Type 0
Answer X = Result (Reply X) Declined

-- the answer that a result makes, by the reply that tells its value and the reason that holds its fault
abbrev pub answered : {X A E : Type 0} → (A → Reply X) → (E → Declined) → Result A E → Answer X
answered reply reason (Ok x) = Ok (reply x)
answered reply reason (Err e) = Err (reason e)

-- the answers to a put, to a take in, to an edit without a number, and to a solve
abbrev pub by_number : {X : Type 0} → Result ℕ PlanFault → Answer X
by_number = answered Number Plan

abbrev pub by_count : {X : Type 0} → Result ℕ PlanFault → Answer X
by_count = answered Came Plan

abbrev pub by_done : {X : Type 0} → Result (Unit {0}) PlanFault → Answer X
by_done = answered (λ u. Done) Plan

abbrev pub by_period : {X : Type 0} → Result (Period X) EngineFault → Answer X
by_period = answered Shown Engine

-- whether an answer accepts the call
abbrev pub accepts : {X : Type 0} → Answer X → Bool
accepts = is_ok
