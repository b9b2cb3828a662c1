-- Every sample of the sheet is right: each by a test that computes, from a little evidence.
use Rattle.std.proofs.Common.{◌≡◌, ℕ, T, List, [], ◌∷◌, ℤ, pos, negsuc, ◌+ℤ◌, ◌*ℤ◌, Ok, Err, refl, ap, ◌∙◌}
use lib.Signed.{le_z, lt_z, le_z_yes, lt_z_yes}
use Rattle.refusal.specs.declared.Refusal.{Refusal}
use Rattle.refusal.specs.declared.Layer.TheVariants.{Plan}
use Rattle.amount.specs.Given.{seconds_scale}
use Rattle.amount.specs.Groups.{times}
use Rattle.network.specs.Walks.{count, NoClosed}
use Rattle.network.specs.Walks.{Period as IsPeriod}
use Rattle.network.proofs.Joined.{joined}
use Rattle.engine.specs.declared.EngineFault.TheVariants.{ShortTable, NoLoop}
use Rattle.engine.specs.Faults.{told as engine_told}
use Rattle.report.specs.declared.verdict.Verdict.{Verdict}
use Rattle.report.specs.Verdicts.{Judged}
use Rattle.plan.specs.Faults.{told as plan_told}
use Rattle.plan.specs.Plans.{opened, events_of}
use Rattle.sheet.specs.Sheet.{Drawn, scale_in, Solving, ShownAs, RefusedAs, JudgedAs, group_of, graph_of, row_in, rows_in, Sample, Holds, solved, loopless, claimed, headway, called, refused, sec, samples, All, Sheet}
use Rattle.sheet.proofs.Certificates.{Fits, sound, Proves, proven, same_mean, same_departures, none_closed}
use Rattle.sheet.proofs.Verdicts.{same_verdict, one_headway}
use Rattle.sheet.proofs.Replies.{replies, all_edits, answered}

-- what shows a period: total and count, the waits of the loop, the departures, and to each event a walk that gives its departure
record Shown : Type 0 where
  pub total : List ℤ
  pub count : ℕ
  pub loop : List ℕ
  pub departures : List (List ℤ)
  pub walks : List (ℕ × List ℕ)

-- what a sample's test takes beside the sample
data Evidence : Type 0 where
  -- the walks that give a network's departures
  walks : List (ℕ × List ℕ) → Evidence
  -- the period that a claim is judged against
  against : Shown → Evidence
  none : Evidence

-- the network is sound, and the period is shown
abbrev Solves : Drawn → Shown → Type 0
Solves k s = T (Fits k.network) × T (Proves (group_of k) (graph_of k) (row_in k s.total) s.count s.loop (rows_in k s.departures) s.walks)

-- the test of each sample
abbrev Passes : Sample → Evidence → Type 0
Passes (solved k t c es ds) (walks ws) = Solves k (record { total = t; count = c; loop = es; departures = ds; walks = ws })
Passes (solved k t c es ds) (against s) = ⊥
Passes (solved k t c es ds) none = ⊥
Passes (loopless k f) e = T (Fits k.network) × ((graph_of k).waits ≡ 0) × (engine_told (NoLoop k.network.events) ≡ f)
Passes (claimed k t c v) (walks ws) = ⊥
Passes (claimed k t c v) (against s) = Solves k s × Judged (group_of k) (row_in k s.total) s.count (row_in k t) c v
Passes (claimed k t c v) none = ⊥
Passes (headway t c h) e = T (lt_z (pos c *ℤ (h +ℤ negsuc 0)) t) × T (le_z t (pos c *ℤ h))
Passes (called n k calls expected) e = T (all_edits calls) × (replies 1 (events_of n) k [] calls ≡ expected)
Passes (refused f n k) e = plan_told f ≡ record { number = n; layer = Plan; place = k }

module _ (k : Drawn) (s : Shown) (t : Solves k s) where
  known : IsPeriod (group_of k) (graph_of k) (row_in k s.total) s.count s.loop (rows_in k s.departures)
  known =
      proven (group_of k) (graph_of k) (joined (scale_in k).places k.network (sound k.network t.0))
      (row_in k s.total) s.count s.loop (rows_in k s.departures) s.walks t.1

  -- where a period is known, solving shows that one, and claims have the verdicts that it gives them
  period_answered : Solving k (ShownAs k s.total s.count s.departures)
  period_answered (Ok p) old new enough h =
      let other = h.shown.period in
      (same_mean (group_of k) (graph_of k) _ _ _ _ _ _ _ _ known other, same_departures (group_of k) (graph_of k) _ _ _ _ _ _ _ _ known other)
  period_answered (Err (ShortTable j)) old new enough h = h.short enough
  period_answered (Err (NoLoop j)) old new enough h = h.none _ _ known.loop.closed

  verdict_answered : (c : List ℤ) (b : ℕ) (v : Verdict) → Judged (group_of k) (row_in k s.total) s.count (row_in k c) b v → Solving k (JudgedAs k c b v)
  verdict_answered c b v judged (Ok p) old new enough h = same_verdict (group_of k) (graph_of k) _ _ _ _ known (row_in k c) b v judged _ _ _ _ h.shown.period
  verdict_answered c b v judged (Err (ShortTable j)) old new enough h = h.short enough
  verdict_answered c b v judged (Err (NoLoop j)) old new enough h = h.none _ _ known.loop.closed

-- where nothing is closed, solving refuses
refusal_answered : (k : Drawn) (f : Refusal) → NoClosed (graph_of k) → engine_told (NoLoop k.network.events) ≡ f → Solving k (RefusedAs k f)
refusal_answered k f unclosed is (Ok p) old new enough h = unclosed _ _ h.shown.period.loop.closed
refusal_answered k f unclosed is (Err (ShortTable j)) old new enough h = absurd (h.short enough)
refusal_answered k f unclosed is (Err (NoLoop j)) old new enough h = ap (λ i. engine_told (NoLoop i)) h.place ∙ is

-- a sample that passes is right
holds : (s : Sample) (e : Evidence) → Passes s e → Holds s
holds (solved k t c es ds) (walks ws) h = let s : Shown = record { total = t; count = c; loop = es; departures = ds; walks = ws } in (sound k.network h.0, known k s h, period_answered k s h)
holds (solved k t c es ds) (against s) h = absurd h
holds (solved k t c es ds) none h = absurd h
holds (loopless k f) e h = let unclosed = none_closed (group_of k) (graph_of k) h.1 in (sound k.network h.0, unclosed, refusal_answered k f unclosed h.2)
holds (claimed k t c v) (walks ws) h = absurd h
holds (claimed k t c v) (against s) h = verdict_answered k s h.0 t c v h.1
holds (claimed k t c v) none h = absurd h
holds (headway t c h) e p = one_headway t h c (lt_z_yes p.0) (le_z_yes p.1)
holds (called n k calls expected) e h = λ m answers q room told.
    answered seconds_scale (events_of n) k (opened n m) calls answers q [] h.0 (record { draft = refl; events = refl; waits = refl; size = room }) told ∙ h.1
holds (refused f n k) e h = h

-- evidence for each sample of a list, with the test that it passes
infixr 40 ◌▷◌
data Passed : List Sample → Type 0 where
  end : Passed []
  ◌▷◌ : {s : Sample} {ss : List Sample} → ((e : Evidence) × Passes s e) → Passed ss → Passed (s ∷ ss)

all_hold : (ss : List Sample) → Passed ss → All ss
all_hold _ end = tt
all_hold _ (◌▷◌ {s = s} {ss = ss} h rest) = (holds s h.0 h.1, all_hold ss rest)

-- walks to the listing's departures, and its period as claims are judged against it
abbrev listing_walks : List (ℕ × List ℕ)
listing_walks = (2, 3 ∷ []) ∷ (2, 3 ∷ 0 ∷ []) ∷ (2, []) ∷ []

abbrev listing_shown : Evidence
listing_shown = against (record { total = sec 2400; count = 3; loop = 0 ∷ 2 ∷ 3 ∷ []; departures = sec 2100 ∷ sec 1500 ∷ sec 0 ∷ []; walks = listing_walks })

-- each sample, in the sheet's order
all_passed : Passed samples
unfolding times count
all_passed =
    (walks listing_walks, (tt, tt))
    ▷ (listing_shown, ((tt, tt), λ t. t))
    ▷ (listing_shown, ((tt, tt), refl))
    ▷ (listing_shown, ((tt, tt), λ t. t))
    ▷ (none, (tt, tt))
    ▷ (walks ((0, []) ∷ (1, []) ∷ (2, []) ∷ []), (tt, tt))
    ▷ (walks ((0, []) ∷ []), (tt, tt))
    ▷ (none, (tt, refl, refl))
    ▷ (walks ((1, 1 ∷ []) ∷ (1, []) ∷ []), (tt, tt))
    ▷ (none, (tt, tt))
    ▷ (walks ((0, []) ∷ (1, []) ∷ []), (tt, tt))
    ▷ (walks ((0, []) ∷ (1, []) ∷ []), (tt, tt))
    ▷ (none, (tt, refl))
    ▷ (none, (tt, refl))
    ▷ (none, refl)
    ▷ (none, (tt, refl))
    ▷ (none, (tt, refl))
    ▷ (none, refl)
    ▷ (none, (tt, refl))
    ▷ (none, refl)
    ▷ end

-- the sheet stands
pub sheet : Sheet
sheet = all_hold samples all_passed
