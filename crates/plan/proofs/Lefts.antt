-- A history leaves what its accepted calls left, and never changes the event count.
use Rattle.std.proofs.Common.{◌≡◌, ℕ, Bool, true, false, cond, List, ◌∷◌, ℤ, Ok, Err, Result, sym, refl, ap, ◌∙◌, ⊎_elim}
use Rattle.amount.specs.Scales.{Scale}
use Rattle.network.specs.declared.Period.{Period}
use Rattle.network.specs.Networks.{PlainWait, graph}
use Rattle.engine.specs.declared.EngineFault.{EngineFault}
use Rattle.engine.specs.Solved.{Memory}
use Rattle.plan.specs.declared.fault.PlanFault.{PlanFault}
use Rattle.plan.specs.declared.fault.PlanFault.TheVariants.{NotTakenIn}
use Rattle.plan.specs.Plans.{Plan}
use Rattle.plan.specs.Rules.{Changed, Puts, Retimes, Drops, Appends}
use Rattle.plan.specs.Taking.{events_in, waits_in}
use Rattle.plan.specs.Calls.{PlainCall, put, retime, drop_wait, take_in, fix, reopen, solve, allowed, Answer, accepts, by_number, by_count, by_done, by_period}
use Rattle.plan.specs.Histories.{Ruled, Judged, History, ended, then}
use Rattle.plan.specs.Left.{accepted, edited, left_from}

-- a call with this answer edits the list if it was accepted, and keeps the event count
pub record Next {X S : Type 0} (d : ℕ) (p : Plan S) (c : PlainCall) (a : Answer X) (q : Plan S) : Type 0 where
  pub waits : q.waits ≡ cond (accepts a) (edited d p.waits c) p.waits
  pub events : q.events ≡ p.events

-- one call more at the front of those that left the list
onward : (d : ℕ) (b : Bool) (ws vs : List PlainWait) (c : PlainCall) (cs : List PlainCall) → vs ≡ cond b (edited d ws c) ws → left_from d vs cs ≡ left_from d ws (cond b (c ∷ cs) cs)
onward d true ws vs c cs e = ap (λ (l : List PlainWait). left_from d l cs) e
onward d false ws vs c cs e = ap (λ (l : List PlainWait). left_from d l cs) e

module _ {X S : Type 0} (d : ℕ) (p q : Plan S) where
  -- an accepted call makes its edit
  made : (c : PlainCall) (a : Answer X) → accepts a ≡ true → Changed p q (edited d p.waits c) → Next d p c a q
  made c a so h = record { waits = rw so h.waits; events = h.events }

  -- a call leaves the plan as it was if it is not accepted, or edits nothing
  kept : (c : PlainCall) (a : Answer X) → q ≡ p → cond (accepts a) (edited d p.waits c) p.waits ≡ p.waits → Next d p c a q
  kept c a e same = rw e (record { waits = sym same; events = refl })

  -- what each rule says of the list and the event count
  puts : (w : PlainWait) (r : Result ℕ PlanFault) → Puts p w r q → Next {X = X} d p (put w) (by_number r) q
  puts w (Ok i) h = made (put w) (by_number (Ok i)) refl h.after
  puts w (Err e) h = kept (put w) (by_number (Err e)) h.0 refl

  retimes : (i : ℕ) (x : List ℤ) (r : Result (Unit {0}) PlanFault) → Retimes p i x r q → Next {X = X} d p (retime i x) (by_done r) q
  retimes i x (Ok u) h = made (retime i x) (by_done (Ok u)) refl h.after
  retimes i x (Err e) h = kept (retime i x) (by_done (Err e)) h.0 refl

  drops : (i : ℕ) (r : Result (Unit {0}) PlanFault) → Drops p i r q → Next {X = X} d p (drop_wait i) (by_done r) q
  drops i (Ok u) h = made (drop_wait i) (by_done (Ok u)) refl h.1
  drops i (Err e) h = kept (drop_wait i) (by_done (Err e)) h.0 refl

  takes : (number : ℕ) (bytes : List ℕ) (n : ℕ) (r : Result ℕ PlanFault) → Appends p (graph n (waits_in d bytes)) r q → Next {X = X} d p (take_in number bytes) (by_count r) q
  takes number bytes n (Ok k) h = made (take_in number bytes) (by_count (Ok k)) refl h.3
  takes number bytes n (Err e) h = kept (take_in number bytes) (by_count (Err e)) h.0 refl

  solves : (r : Result (Period X) EngineFault) → q ≡ p → Next d p solve (by_period r) q
  solves (Ok k) e = kept solve (by_period (Ok k)) e refl
  solves (Err f) e = kept solve (by_period (Err f)) e refl

module _ {X S : Type 0} (m : Scale X) where
  -- the same of any call that the state allows
  ruled : (p q : Plan S) (t u : Memory X) (c : PlainCall) (a : Answer X) → Ruled m p t c a q u → Next m.places p c a q
  ruled p q t u (put w) a h = rw (h.1.0) (puts m.places p q w h.0 h.1.1)
  ruled p q t u (retime i x) a h = rw (h.1.0) (retimes m.places p q i x h.0 h.1.1)
  ruled p q t u (drop_wait i) a h = rw (h.1.0) (drops m.places p q i h.0 h.1.1)
  ruled p q t u (take_in number bytes) a h = rw (h.1.0) (⊎_elim (λ k. takes m.places p q number bytes _ h.0 k.1) (λ k. rw (k.1) (kept m.places p q (take_in number bytes) (by_count (Err NotTakenIn)) k.2 refl)) h.1.1)
  ruled p q t u fix a h = rw (h.0, h.1) (record { waits = refl; events = refl })
  ruled p q t u reopen a h = rw (h.0, h.1) (record { waits = refl; events = refl })
  ruled p q t u solve a h = rw (h.1.0) (solves m.places p q h.0 h.1.1)

  -- and of any call
  judged : (b : Bool) (p q : Plan S) (t u : Memory X) (c : PlainCall) (a : Answer X) → Judged m b p t c a q u → Next m.places p c a q
  judged true p q t u c a h = ruled p q t u c a h
  judged false p q t u c a h = rw (h.0, h.1) (record { waits = refl; events = refl })

  -- the waits at the end of a history
  pub left_by : (p : Plan S) (calls : List PlainCall) (answers : List (Answer X)) (q : Plan S) → History m p calls answers q → q.waits ≡ left_from m.places p.waits (accepted calls answers)
  left_by _ _ _ _ (ended p) = refl
  left_by _ _ _ _ (then p p' q t u c a calls answers f h) =
      left_by p' calls answers q h ∙ onward m.places (accepts a) p.waits p'.waits c (accepted calls answers) (judged (allowed p.fixed c) p p' t u c a f).waits

  -- the event count at its end
  pub events_kept : (p : Plan S) (calls : List PlainCall) (answers : List (Answer X)) (q : Plan S) → History m p calls answers q → q.events ≡ p.events
  events_kept _ _ _ _ (ended p) = refl
  events_kept _ _ _ _ (then p p' q t u c a calls answers f h) = events_kept p' calls answers q h ∙ (judged (allowed p.fixed c) p p' t u c a f).events
