-- The planner's rules: for each call, what its answer says of the plan before and after.
use Rattle.std.specs.Prelude.{◌≡◌, ℕ, ◌+◌, ◌<◌, ◌≤◌, ◌≢◌, ◌⊎◌, List, [], ◌∷◌, ◌++◌, length, drop, ℤ, Some, None, Ok, Err, Result, slice_set}
use Rattle.std.specs.List.{remove}
use Rattle.amount.specs.Rows.{first_beyond}
use Rattle.amount.specs.Spans.{span}
use Rattle.network.specs.Networks.{PlainWait, Graph, wait_at}
use Rattle.plan.specs.declared.fault.PlanFault.{PlanFault}
use Rattle.plan.specs.declared.fault.PlanFault.TheVariants.{UnknownEvent, OutOfSpan, Full, NoSuchWait, BadCount, NotTakenIn}
use Rattle.plan.specs.Records.{Between}
use Rattle.plan.specs.Plans.{Plan, room}

-- q is p with these waits: records past them stay, and so does all else
pub record Changed {S : Type 0} (p q : Plan S) (ws : List PlainWait) : Type 0 where
  pub state : q.fixed ≡ p.fixed
  pub events : q.events ≡ p.events
  pub waits : q.waits ≡ ws
  pub size : length q.memory ≡ length p.memory
  pub past : drop (length ws) q.memory ≡ drop (length ws) p.memory

-- the list with one more wait at its end
abbrev pub added : List PlainWait → PlainWait → List PlainWait
added ws w = ws ++ w ∷ []

-- the list with another amount for wait i, which keeps its start and end
abbrev pub retimed : List PlainWait → ℕ → List ℤ → List PlainWait
retimed ws i a = slice_set ws i (record { start = (wait_at ws i).start; end = (wait_at ws i).end; amount = a })

-- every place of the amount lies in the span
abbrev pub InSpan : List ℤ → Type 0
InSpan a = first_beyond span 0 a ≡ None

-- place k is the first of the amount outside the span
abbrev pub Outside : List ℤ → ℕ → Type 0
Outside a k = first_beyond span 0 a ≡ Some k

module _ {S : Type 0} (p : Plan S) where
  -- start and end are events of the plan
  abbrev pub Known : PlainWait → Type 0
  Known = Between p.events

  pub record PutAccepted (w : PlainWait) (i : ℕ) (q : Plan S) : Type 0 where
    pub known : Known w
    pub span : InSpan w.amount
    pub space : length p.waits < room p
    pub number : i ≡ length p.waits
    pub after : Changed p q (added p.waits w)

  -- the start is tested before the end, events before the span, the span before the room
  abbrev pub PutDeclined : PlainWait → PlanFault → Type 0
  PutDeclined w (UnknownEvent k) = ((p.events ≤ w.start) × (k ≡ w.start)) ⊎ ((w.start < p.events) × (p.events ≤ w.end) × (k ≡ w.end))
  PutDeclined w (OutOfSpan k) = Known w × Outside w.amount k
  PutDeclined w (Full k) = Known w × InSpan w.amount × (room p ≤ length p.waits) × (k ≡ length p.waits)
  PutDeclined w (NoSuchWait k) = ⊥
  PutDeclined w (BadCount k) = ⊥
  PutDeclined w NotTakenIn = ⊥

  abbrev pub Puts : PlainWait → Result ℕ PlanFault → Plan S → Type 0
  Puts w (Ok i) q = PutAccepted w i q
  Puts w (Err e) q = (q ≡ p) × PutDeclined w e

  pub record RetimeAccepted (i : ℕ) (a : List ℤ) (q : Plan S) : Type 0 where
    pub known : i < length p.waits
    pub span : InSpan a
    pub after : Changed p q (retimed p.waits i a)

  -- the number is tested before the span
  abbrev pub RetimeDeclined : ℕ → List ℤ → PlanFault → Type 0
  RetimeDeclined i a (UnknownEvent k) = ⊥
  RetimeDeclined i a (OutOfSpan k) = (i < length p.waits) × Outside a k
  RetimeDeclined i a (Full k) = ⊥
  RetimeDeclined i a (NoSuchWait k) = (length p.waits ≤ i) × (k ≡ i)
  RetimeDeclined i a (BadCount k) = ⊥
  RetimeDeclined i a NotTakenIn = ⊥

  abbrev pub Retimes : ℕ → List ℤ → Result (Unit {0}) PlanFault → Plan S → Type 0
  Retimes i a (Ok u) q = RetimeAccepted i a q
  Retimes i a (Err e) q = (q ≡ p) × RetimeDeclined i a e

  -- the wait is taken out, and later numbers fall by one
  abbrev pub Drops : ℕ → Result (Unit {0}) PlanFault → Plan S → Type 0
  Drops i (Ok u) q = (i < length p.waits) × Changed p q (remove p.waits i)
  Drops i (Err e) q = (q ≡ p) × (e ≡ NoSuchWait i) × (length p.waits ≤ i)

  -- all waits of a network are added in order, or none; the event count is tested before the room
  abbrev pub Appends : Graph → Result ℕ PlanFault → Plan S → Type 0
  Appends g (Ok k) q = (g.events ≡ p.events) × (length p.waits + length g.waits ≤ room p) × (k ≡ length g.waits) × Changed p q (p.waits ++ g.waits)
  Appends g (Err e) q = (q ≡ p) × (((g.events ≢ p.events) × (e ≡ BadCount g.events)) ⊎ ((g.events ≡ p.events) × (room p < length p.waits + length g.waits) × (e ≡ Full (length p.waits))))
