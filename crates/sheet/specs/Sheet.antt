-- The sheet of samples: small networks, claims, headways and calls, each with what it comes to.
use Rattle.std.specs.Prelude.{◌≡◌, ℕ, ◌<◌, List, [], ◌∷◌, length, ℤ, pos, negsuc, Ok, Err, Result, slice_index_or}
use Rattle.refusal.specs.declared.Refusal.{Refusal}
use Rattle.refusal.specs.declared.Layer.TheVariants.{Engine, Plan}
use Rattle.amount.specs.declared.seconds.Seconds.{Seconds}
use Rattle.amount.specs.declared.seconds_metres.SecondsMetres.{SecondsMetres}
use Rattle.amount.specs.declared.reversed.Reversed.{Reversed}
use Rattle.amount.specs.declared.spanned.Spanned.{Spanned}
use Rattle.amount.specs.Rows.{Row, row_of}
use Rattle.amount.specs.Groups.{Ordered, times, row_group}
use Rattle.amount.specs.Scales.{Scale}
use Rattle.amount.specs.Given.{seconds_scale, seconds_metres_scale, reversed_scale}
use Rattle.network.specs.declared.Wait.{Wait}
use Rattle.network.specs.Networks.{PlainWait, Graph, graph, Sound}
use Rattle.network.specs.declared.Period.{Period}
use Rattle.network.specs.Walks.{Net, net, NoClosed}
use Rattle.network.specs.Walks.{Period as IsPeriod}
use Rattle.engine.specs.declared.EngineFault.{EngineFault}
use Rattle.engine.specs.Solved.{Memory, Enough, row_at, Solved}
use Rattle.engine.specs.Faults.{told as engine_told}
use Rattle.report.specs.declared.verdict.Verdict.{Verdict}
use Rattle.report.specs.declared.verdict.Verdict.TheVariants.{Right, Short, Long}
use Rattle.report.specs.Verdicts.{Judged}
use Rattle.report.specs.Headways.{Headway}
use Rattle.plan.specs.declared.fault.PlanFault.{PlanFault}
use Rattle.plan.specs.declared.fault.PlanFault.TheVariants.{UnknownEvent, OutOfSpan, Full}
use Rattle.plan.specs.declared.calls.Reply.TheVariants.{Number, Done}
use Rattle.plan.specs.declared.calls.Declined.TheVariants.{Plan as Declined}
use Rattle.plan.specs.Faults.{told as plan_told}
use Rattle.plan.specs.Plans.{opened}
use Rattle.plan.specs.Plans.{Plan as PlainPlan}
use Rattle.plan.specs.Calls.{PlainCall, put, retime, drop_wait, Answer}
use Rattle.plan.specs.Histories.{History}

-- the given measures by their numbers: seconds, seconds and metres, seconds in reversed order
pub data Given : Type 0 where
  one : Given
  two : Given
  three : Given

-- the type of its amounts, and what they mean
abbrev pub amount_of : Given → Type 0
amount_of one = Seconds
amount_of two = SecondsMetres
amount_of three = Reversed Seconds

abbrev pub scale_of : (k : Given) → Scale (amount_of k)
scale_of one = seconds_scale
scale_of two = seconds_metres_scale
scale_of three = reversed_scale

-- a network drawn in a measure
pub record Drawn : Type 0 where
  pub measure : Given
  pub network : Graph

abbrev pub amount_in : Drawn → Type 0
amount_in k = amount_of k.measure

abbrev pub scale_in : (k : Drawn) → Scale (amount_in k)
scale_in k = scale_of k.measure

-- the rows of its amounts, as a group, and its graph
abbrev pub RowIn : Drawn → Type 0
RowIn k = Row (scale_in k).places

abbrev pub group_of : (k : Drawn) → Ordered (RowIn k)
group_of k = row_group (scale_in k).order

abbrev pub graph_of : (k : Drawn) → Net (RowIn k)
graph_of k = net (scale_in k).places k.network

abbrev pub row_in : (k : Drawn) → List ℤ → RowIn k
row_in k a = row_of (scale_in k).places a

-- the row that a list of departures has for each event
abbrev pub rows_in : (k : Drawn) → List (List ℤ) → ℕ → RowIn k
rows_in k xs v = row_in k (slice_index_or xs v [])

-- whatever solving the network answers over memory enough, with the memory after it, is so
abbrev pub Solving : (k : Drawn) → (Result (Period (amount_in k)) EngineFault → Memory (amount_in k) → Type 0) → Type 0
Solving k Is =
    (r : Result (Period (amount_in k)) EngineFault) (old new : Memory (amount_in k)) → Enough k.network.events old
    → Solved (scale_in k) k.network r old new → Is r new

-- a period of the mean t over c; its departures are these as its count is to c
abbrev pub ShownAs : (k : Drawn) → List ℤ → ℕ → List (List ℤ) → Result (Period (amount_in k)) EngineFault → Memory (amount_in k) → Type 0
ShownAs k t c ds (Ok p) new =
    (times (group_of k) p.count (row_in k t) ≡ times (group_of k) c ((scale_in k).row p.total))
    × ((v : ℕ) → v < k.network.events → times (group_of k) p.count (rows_in k ds v) ≡ times (group_of k) c (row_at (scale_in k) new.leaves v))
ShownAs k t c ds (Err e) new = ⊥

-- this refusal
abbrev pub RefusedAs : (k : Drawn) → Refusal → Result (Period (amount_in k)) EngineFault → Memory (amount_in k) → Type 0
RefusedAs k f (Ok p) new = ⊥
RefusedAs k f (Err e) new = engine_told e ≡ f

-- a period that gives the claim t over c this verdict and no other
abbrev pub JudgedAs : (k : Drawn) → List ℤ → ℕ → Verdict → Result (Period (amount_in k)) EngineFault → Memory (amount_in k) → Type 0
JudgedAs k t c v (Ok p) new =
    Judged (group_of k) ((scale_in k).row p.total) p.count (row_in k t) c v
    × ((u : Verdict) → Judged (group_of k) ((scale_in k).row p.total) p.count (row_in k t) c u → u ≡ v)
JudgedAs k t c v (Err e) new = ⊥

-- what a sample says
pub data Sample : Type 0 where
  -- a network with its period (total and count), the waits of its loop, and the departure of each event
  solved : Drawn → List ℤ → ℕ → List ℕ → List (List ℤ) → Sample
  -- a network without a closed walk, and the refusal
  loopless : Drawn → Refusal → Sample
  -- a network, a claimed total and count, and the verdict
  claimed : Drawn → List ℤ → ℕ → Verdict → Sample
  -- a total, a count, and the headway
  headway : ℤ → ℕ → ℤ → Sample
  -- the events and the room of a plan in measure 1, calls since it was opened, and the answers
  called : ℕ → ℕ → List PlainCall → List (Answer Seconds) → Sample
  -- what a plan's fault is told as: number and place
  refused : PlanFault → ℕ → ℕ → Sample

-- seconds in the span
abbrev pub SpannedSeconds : Type 0
SpannedSeconds = Spanned Seconds (record { scale = seconds_scale })

-- when a sample is right, by the definitions that the contracts use
abbrev pub Holds : Sample → Type 0
-- the network is sound, this is its period with a loop and the departures, and solving shows no other
Holds (solved k t c es ds) =
    Sound k.network
    × IsPeriod (group_of k) (graph_of k) (row_in k t) c es (rows_in k ds)
    × Solving k (ShownAs k t c ds)
Holds (loopless k f) = Sound k.network × NoClosed (graph_of k) × Solving k (RefusedAs k f)
Holds (claimed k t c v) = Solving k (JudgedAs k t c v)
Holds (headway t c h) = Headway t c h × ((k : ℤ) → Headway t c k → k ≡ h)
-- whatever the memory held, no history has other answers
Holds (called n k calls expected) =
    (m : List (Wait SpannedSeconds)) (answers : List (Answer Seconds)) (q : PlainPlan SpannedSeconds) → length m ≡ k
    → History seconds_scale (opened n m) calls answers q → answers ≡ expected
Holds (refused e n k) = plan_told e ≡ record { number = n; layer = Plan; place = k }

-- a wait from an event to an event, with the places of its amount
abbrev pub wait : ℕ → ℕ → List ℤ → PlainWait
wait u v a = record { start = u; end = v; amount = a }

-- one place
abbrev pub sec : ℕ → List ℤ
sec s = pos s ∷ []

-- the network of the listing, three events and five waits
abbrev pub listing : Given → Drawn
listing m = record {
  measure = m;
  network = graph 3 (wait 0 1 (sec 600) ∷ wait 1 0 (sec 900) ∷ wait 1 2 (sec 300) ∷ wait 2 0 (sec 1500) ∷ wait 2 2 (sec 240) ∷ []);
}

-- one event that waits for itself
abbrev pub alone : Drawn
alone = record { measure = one; network = graph 1 (wait 0 0 (sec 240) ∷ []) }

-- one event without waits
abbrev pub idle : Drawn
idle = record { measure = one; network = graph 1 [] }

-- two events with a period below zero
abbrev pub early : Drawn
early = record { measure = one; network = graph 2 (wait 0 1 (negsuc 6 ∷ []) ∷ wait 1 0 (sec 0) ∷ []) }

-- two events that each wait for themselves alone
abbrev pub parted : Drawn
parted = record { measure = one; network = graph 2 (wait 0 0 (sec 300) ∷ wait 1 1 (sec 500) ∷ []) }

-- two such that differ in metres only
abbrev pub parted_metres : Drawn
parted_metres = record { measure = two; network = graph 2 (wait 0 0 (pos 600 ∷ pos 40 ∷ []) ∷ wait 1 1 (pos 600 ∷ pos 55 ∷ []) ∷ []) }

-- the samples
abbrev pub samples : List Sample
samples =
    -- the listing: 2400 / 3 by the waits 0 2 3
    solved (listing one) (sec 2400) 3 (0 ∷ 2 ∷ 3 ∷ []) (sec 2100 ∷ sec 1500 ∷ sec 0 ∷ [])
    -- claimed as 750, 800 and 833 1/3
    ∷ claimed (listing one) (sec 1500) 2 Short
    ∷ claimed (listing one) (sec 1600) 2 Right
    ∷ claimed (listing one) (sec 2500) 3 Long
    ∷ headway (pos 2400) 3 (pos 800)
    -- the same in reversed order: 240 / 1 by event 2's own wait
    ∷ solved (listing three) (sec 240) 1 (4 ∷ []) (sec 0 ∷ sec 0 ∷ sec 0 ∷ [])
    -- one event, with a wait and without
    ∷ solved alone (sec 240) 1 (0 ∷ []) (sec 0 ∷ [])
    ∷ loopless idle (record { number = 13; layer = Engine; place = 1 })
    -- below zero: −7 / 2, every −3 seconds
    ∷ solved early (negsuc 6 ∷ []) 2 (0 ∷ 1 ∷ []) (sec 7 ∷ sec 0 ∷ [])
    ∷ headway (negsuc 6) 2 (negsuc 2)
    -- the slower of two loops that share no event: 500 / 1
    ∷ solved parted (sec 500) 1 (1 ∷ []) (sec 0 ∷ sec 0 ∷ [])
    -- equal in seconds, the metres decide: (600, 55) / 1
    ∷ solved parted_metres (pos 600 ∷ pos 55 ∷ []) 1 (1 ∷ []) ((pos 0 ∷ pos 0 ∷ []) ∷ (pos 0 ∷ pos 0 ∷ []) ∷ [])
    -- a retime to the span's end, and to one past it
    ∷ called 3 1 (put (wait 0 1 (sec 600)) ∷ retime 0 (sec 86400) ∷ []) (Ok (Number 0) ∷ Ok Done ∷ [])
    ∷ called 3 1 (put (wait 0 1 (sec 600)) ∷ retime 0 (sec 86401) ∷ []) (Ok (Number 0) ∷ Err (Declined (OutOfSpan 0)) ∷ [])
    ∷ refused (OutOfSpan 0) 9 0
    -- of three events the last is 2
    ∷ called 3 1 (put (wait 0 2 (sec 600)) ∷ []) (Ok (Number 0) ∷ [])
    ∷ called 3 1 (put (wait 0 3 (sec 600)) ∷ []) (Err (Declined (UnknownEvent 3)) ∷ [])
    ∷ refused (UnknownEvent 3) 8 3
    -- room for two: a third is declined until one is dropped, and then is number 1
    ∷ called 1 2
    (put (wait 0 0 (sec 1)) ∷ put (wait 0 0 (sec 2)) ∷ put (wait 0 0 (sec 3)) ∷ drop_wait 0 ∷ put (wait 0 0 (sec 3)) ∷ [])
    (Ok (Number 0) ∷ Ok (Number 1) ∷ Err (Declined (Full 2)) ∷ Ok Done ∷ Ok (Number 1) ∷ [])
    ∷ refused (Full 2) 10 2
    ∷ []

-- every one of these samples is right
abbrev pub All : List Sample → Type 0
All [] = Unit {0}
All (s ∷ rest) = Holds s × All rest

abbrev pub Sheet : Type 0
Sheet = All samples
