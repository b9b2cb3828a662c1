-- What edits of a draft are answered: computed from its event count, its room and its waits.
use Rattle.std.proofs.Common.{◌≡◌, ℕ, ◌<◌, ◌≤◌, min, Bool, true, false, cond, T, ltb, List, [], ◌∷◌, length, ℤ, Some, None, Ok, Err, Option, Result, sym, refl, ap, ◌∙◌, subst, ⊎_elim, arith, ltb→lt, lt→ltb}
use Rattle.std.specs.List.{remove}
use Rattle.amount.specs.Rows.{first_beyond}
use Rattle.amount.specs.Scales.{Scale}
use Rattle.amount.specs.Spans.{span}
use Rattle.network.specs.Networks.{PlainWait}
use Rattle.engine.specs.Solved.{Memory}
use Rattle.plan.specs.declared.fault.PlanFault.{PlanFault}
use Rattle.plan.specs.declared.fault.PlanFault.TheVariants.{UnknownEvent, OutOfSpan, Full, NoSuchWait, BadCount, NotTakenIn}
use Rattle.plan.specs.declared.calls.Declined.TheVariants.{Barred}
use Rattle.plan.specs.Plans.{Plan}
use Rattle.plan.specs.Rules.{Changed, added, retimed, Puts, Retimes, Drops}
use Rattle.plan.specs.Calls.{PlainCall, put, retime, drop_wait, take_in, fix, reopen, solve, Answer, allowed, accepts, by_number, by_done}
use Rattle.plan.specs.Histories.{Ruled, Judged, History, ended, then}
use Rattle.plan.specs.Left.{edited}
use Rattle.sheet.proofs.Tests.{both, left, right}

-- an amount with a place outside the span is declined
abbrev spanned : {R : Type 0} → Option ℕ → Result R PlanFault → Result R PlanFault
spanned None r = r
spanned (Some k) r = Err (OutOfSpan k)

abbrev put_reply : ℕ → ℕ → List PlainWait → PlainWait → Result ℕ PlanFault
put_reply n k ws w =
    cond (ltb w.start n)
    (cond (ltb w.end n) (spanned (first_beyond span 0 w.amount) (cond (ltb (length ws) (min k 20000)) (Ok (length ws)) (Err (Full (length ws))))) (Err (UnknownEvent w.end)))
    (Err (UnknownEvent w.start))

abbrev retime_reply : List PlainWait → ℕ → List ℤ → Result (Unit {0}) PlanFault
retime_reply ws i a = cond (ltb i (length ws)) (spanned (first_beyond span 0 a) (Ok tt)) (Err (NoSuchWait i))

abbrev drop_reply : List PlainWait → ℕ → Result (Unit {0}) PlanFault
drop_reply ws i = cond (ltb i (length ws)) (Ok tt) (Err (NoSuchWait i))

-- the answer to an edit; other calls are not computed here
abbrev pub reply : {X : Type 0} → ℕ → ℕ → List PlainWait → PlainCall → Answer X
reply n k ws (put w) = by_number (put_reply n k ws w)
reply n k ws (retime i a) = by_done (retime_reply ws i a)
reply n k ws (drop_wait i) = by_done (drop_reply ws i)
reply n k ws (take_in m bytes) = Err Barred
reply n k ws fix = Err Barred
reply n k ws reopen = Err Barred
reply n k ws solve = Err Barred

-- the answers to edits of a draft of n events, room for k records, and these waits
abbrev pub replies : {X : Type 0} → ℕ → ℕ → ℕ → List PlainWait → List PlainCall → List (Answer X)
replies d n k ws [] = []
replies {X = X} d n k ws (c ∷ cs) = reply n k ws c ∷ replies d n k (cond (accepts (reply {X = X} n k ws c)) (edited d ws c) ws) cs

-- a call that edits the waits one by one
abbrev edits : PlainCall → Bool
edits (put w) = true
edits (retime i a) = true
edits (drop_wait i) = true
edits (take_in m bytes) = false
edits fix = false
edits reopen = false
edits solve = false

abbrev pub all_edits : List PlainCall → Bool
all_edits [] = true
all_edits (c ∷ cs) = both (edits c) (all_edits cs)

draft_allows : (c : PlainCall) → T (edits c) → allowed false c ≡ true
draft_allows (put w) t = refl
draft_allows (retime i a) t = refl
draft_allows (drop_wait i) t = refl
draft_allows (take_in m bytes) t = absurd t
draft_allows fix t = absurd t
draft_allows reopen t = absurd t
draft_allows solve t = absurd t

is_true : (b : Bool) → T b → b ≡ true
is_true true t = refl
is_true false t = absurd t

is_less : (a b : ℕ) → a < b → ltb a b ≡ true
is_less a b h = is_true (ltb a b) (lt→ltb a b h)

not_less : (a b : ℕ) → b ≤ a → ltb a b ≡ false
not_less a b h = go (ltb a b) refl
  where
    go : (x : Bool) → ltb a b ≡ x → x ≡ false
    go true e = let l = ltb→lt a b (subst T (sym e) tt) in absurd (omega arith)
    go false e = refl

-- a draft of n events, room for k records, and these waits
pub record Held {S : Type 0} (n k : ℕ) (ws : List PlainWait) (p : Plan S) : Type 0 where
  pub draft : p.fixed ≡ false
  pub events : p.events ≡ n
  pub waits : p.waits ≡ ws
  pub size : length p.memory ≡ k

module _ {S : Type 0} (p q : Plan S) where
  put_reply_lem : (w : PlainWait) (r : Result ℕ PlanFault) → Puts p w r q → r ≡ put_reply p.events (length p.memory) p.waits w
  put_reply_lem w (Ok i) h = rw (is_less _ _ h.known.0, is_less _ _ h.known.1, h.span, is_less _ _ h.space) (ap Ok h.number)
  put_reply_lem w (Err (UnknownEvent k)) h =
      ⊎_elim
      (λ a. rw (not_less _ _ a.0) (ap (λ j. Err (UnknownEvent j)) a.1))
      (λ a. rw (is_less _ _ a.0, not_less _ _ a.1) (ap (λ j. Err (UnknownEvent j)) a.2))
      h.1
  put_reply_lem w (Err (OutOfSpan k)) h = let a = h.1 in rw (is_less _ _ a.0.0, is_less _ _ a.0.1, a.1) refl
  put_reply_lem w (Err (Full k)) h = let a = h.1 in rw (is_less _ _ a.0.0, is_less _ _ a.0.1, a.1, not_less _ _ a.2) (ap (λ j. Err (Full j)) a.3)
  put_reply_lem w (Err (NoSuchWait k)) h = absurd h.1
  put_reply_lem w (Err (BadCount k)) h = absurd h.1
  put_reply_lem w (Err NotTakenIn) h = absurd h.1

  retime_reply_lem : (i : ℕ) (x : List ℤ) (r : Result (Unit {0}) PlanFault) → Retimes p i x r q → r ≡ retime_reply p.waits i x
  retime_reply_lem i x (Ok u) h = rw (is_less _ _ h.known, h.span) refl
  retime_reply_lem i x (Err (UnknownEvent k)) h = absurd h.1
  retime_reply_lem i x (Err (OutOfSpan k)) h = let a = h.1 in rw (is_less _ _ a.0, a.1) refl
  retime_reply_lem i x (Err (Full k)) h = absurd h.1
  retime_reply_lem i x (Err (NoSuchWait k)) h = let a = h.1 in rw (not_less _ _ a.0) (ap (λ j. Err (NoSuchWait j)) a.1)
  retime_reply_lem i x (Err (BadCount k)) h = absurd h.1
  retime_reply_lem i x (Err NotTakenIn) h = absurd h.1

  drop_reply_lem : (i : ℕ) (r : Result (Unit {0}) PlanFault) → Drops p i r q → r ≡ drop_reply p.waits i
  drop_reply_lem i (Ok u) h = rw (is_less _ _ h.0) refl
  drop_reply_lem i (Err e) h = rw (not_less _ _ h.2) (ap Err h.1)

  module _ (n k : ℕ) (ws : List PlainWait) (held : Held n k ws p) where
    -- a change of the waits leaves the rest as it was
    changed : (edit : List PlainWait → List PlainWait) → Changed p q (edit p.waits) → Held n k (edit ws) q
    changed edit h = record { draft = h.state ∙ held.draft; events = h.events ∙ held.events; waits = h.waits ∙ ap edit held.waits; size = h.size ∙ held.size }

    unchanged : q ≡ p → Held n k ws q
    unchanged e = subst (λ (z : Plan S). Held n k ws z) (sym e) held

    put_held : (X : Type 0) (w : PlainWait) (r : Result ℕ PlanFault) → Puts p w r q → Held n k (cond (accepts {X = X} (by_number r)) (added ws w) ws) q
    put_held X w (Ok i) h = changed (λ vs. added vs w) h.after
    put_held X w (Err e) h = unchanged h.0

    retime_held : (X : Type 0) (i : ℕ) (x : List ℤ) (r : Result (Unit {0}) PlanFault) → Retimes p i x r q → Held n k (cond (accepts {X = X} (by_done r)) (retimed ws i x) ws) q
    retime_held X i x (Ok u) h = changed (λ vs. retimed vs i x) h.after
    retime_held X i x (Err e) h = unchanged h.0

    drop_held : (X : Type 0) (i : ℕ) (r : Result (Unit {0}) PlanFault) → Drops p i r q → Held n k (cond (accepts {X = X} (by_done r)) (remove ws i) ws) q
    drop_held X i (Ok u) h = changed (λ vs. remove vs i) h.1
    drop_held X i (Err e) h = unchanged h.0

module _ {X S : Type 0} (m : Scale X) (n k : ℕ) where
  -- one edit: its answer, and the draft after it
  step : (p q : Plan S) (t u : Memory X) (ws : List PlainWait) (c : PlainCall) (a : Answer X) → T (edits c) → Held n k ws p → Ruled m p t c a q u
      → (a ≡ reply n k ws c) × Held n k (cond (accepts a) (edited m.places ws c) ws) q
  step p q t u ws (put w) a e held h =
      let is = put_reply_lem p q w h.0 h.1.1 in
      (h.1.0 ∙ ap by_number (rw (held.events, held.size, held.waits) at is), subst (λ (b : Answer X). Held n k (cond (accepts b) (added ws w) ws) q) (sym h.1.0) (put_held p q n k ws held X w h.0 h.1.1))
  step p q t u ws (retime i x) a e held h =
      let is = retime_reply_lem p q i x h.0 h.1.1 in
      (h.1.0 ∙ ap by_done (rw held.waits at is), subst (λ (b : Answer X). Held n k (cond (accepts b) (retimed ws i x) ws) q) (sym h.1.0) (retime_held p q n k ws held X i x h.0 h.1.1))
  step p q t u ws (drop_wait i) a e held h =
      let is = drop_reply_lem p q i h.0 h.1.1 in
      (h.1.0 ∙ ap by_done (rw held.waits at is), subst (λ (b : Answer X). Held n k (cond (accepts b) (remove ws i) ws) q) (sym h.1.0) (drop_held p q n k ws held X i h.0 h.1.1))
  step p q t u ws (take_in number bytes) a e held h = absurd e
  step p q t u ws fix a e held h = absurd e
  step p q t u ws reopen a e held h = absurd e
  step p q t u ws solve a e held h = absurd e

  -- a history of edits has the computed answers
  pub answered : (p : Plan S) (calls : List PlainCall) (answers : List (Answer X)) (q : Plan S) (ws : List PlainWait) → T (all_edits calls) → Held n k ws p
      → History m p calls answers q → answers ≡ replies m.places n k ws calls
  answered _ _ _ _ ws e held (ended p) = refl
  answered _ _ _ _ ws e held (then p p' q t u c a calls answers f h) =
      let open-to : allowed p.fixed c ≡ true = ap (λ b. allowed b c) held.draft ∙ draft_allows c (left _ _ e) in
      let s = step p p' t u ws c a (left _ _ e) held (subst (λ b. Judged m b p t c a p' u) open-to f) in
      let rest = answered p' calls answers q (cond (accepts a) (edited m.places ws c) ws) (right (edits c) _ e) s.1 h in
      ap (λ (l : List (Answer X)). a ∷ l) rest ∙ ap (λ (b : Answer X). b ∷ replies m.places n k (cond (accepts b) (edited m.places ws c) ws) calls) s.0
