-- A claim has one verdict, whichever period of a network is shown; and a period has one headway.
use Rattle.std.proofs.Common.{◌≡◌, ℕ, ◌≤◌, List, ℤ, pos, negsuc, ◌+ℤ◌, ◌*ℤ◌, ◌≤ℤ◌, ◌<ℤ◌, sym, refl, ⊎_elim, arith}
use Rattle.std.proofs.lemmas.Int.{ints}
use Rattle.amount.specs.Groups.{Ordered, times}
use Rattle.network.specs.Walks.{Net, MeanLe, Period}
use Rattle.network.proofs.Joined.{count_waits}
use Rattle.network.proofs.Toolkit.{le_of_eq, mean_trans}
use Rattle.report.specs.declared.verdict.Verdict.{Verdict}
use Rattle.report.specs.declared.verdict.Verdict.TheVariants.{Right, Short, Long}
use Rattle.report.specs.Verdicts.{Judged}
use Rattle.report.specs.Headways.{Headway}
use Rattle.report.proofs.Multiples.{above}
use Rattle.sheet.proofs.Certificates.{below_each_other}

module _ {A : Type 0} (G : Ordered A) where
  -- two verdicts on one claim are the same
  one_verdict : (p t : A) (q c : ℕ) (u v : Verdict) → Judged G p q t c u → Judged G p q t c v → u ≡ v
  one_verdict p t q c Right Right h k = refl
  one_verdict p t q c Right Short h k = absurd (k (le_of_eq G _ _ (sym h)))
  one_verdict p t q c Right Long h k = absurd (k (le_of_eq G _ _ h))
  one_verdict p t q c Short Right h k = absurd (h (le_of_eq G _ _ (sym k)))
  one_verdict p t q c Short Short h k = refl
  one_verdict p t q c Short Long h k = absurd (⊎_elim k h (G.total (times G q t) (times G c p)))
  one_verdict p t q c Long Right h k = absurd (h (le_of_eq G _ _ k))
  one_verdict p t q c Long Short h k = absurd (⊎_elim h k (G.total (times G q t) (times G c p)))
  one_verdict p t q c Long Long h k = refl

  -- a verdict goes over to an equal mean
  moved : (p p' t : A) (q q' c : ℕ) → 1 ≤ q → 1 ≤ q' → MeanLe G p q p' q' → MeanLe G p' q' p q → (v : Verdict) → Judged G p q t c v → Judged G p' q' t c v
  moved p p' t q q' c some some' up down Right h = G.anti _ _ (mean_trans G t p p' c q q' some (le_of_eq G _ _ h) up) (mean_trans G p' p t q' q c some down (le_of_eq G _ _ (sym h)))
  moved p p' t q q' c some some' up down Short h = λ k. h (mean_trans G p p' t q q' c some' up k)
  moved p p' t q q' c some some' up down Long h = λ k. h (mean_trans G t p' p c q' q some' k down)

module _ {A : Type 0} (G : Ordered A) (N : Net A) where
  some_wait : (p : A) (q : ℕ) (es : List ℕ) (r : ℕ → A) → Period G N p q es r → 1 ≤ q
  some_wait p q es r a = omega (arith, a.counts, count_waits N es, a.loop.closed.some)

  -- the verdict against one period of a network is the only one against each
  pub same_verdict : (p : A) (q : ℕ) (es : List ℕ) (r : ℕ → A) → Period G N p q es r → (t : A) (c : ℕ) (v : Verdict) → Judged G p q t c v
      → (p' : A) (q' : ℕ) (es' : List ℕ) (r' : ℕ → A) → Period G N p' q' es' r' → Judged G p' q' t c v × ((u : Verdict) → Judged G p' q' t c u → u ≡ v)
  same_verdict p q es r a t c v h p' q' es' r' b =
      let there = moved G p p' t q q' c (some_wait p q es r a) (some_wait p' q' es' r' b) (below_each_other G N p' p q' q es' es r' r b a) (below_each_other G N p p' q q' es es' r r' a b) v h in
      (there, λ u k. one_verdict G p' t q' c u v k there)

-- h is the only headway where it is enough seconds and one fewer is not
pub one_headway : (t h : ℤ) (c : ℕ) → (pos c *ℤ (h +ℤ negsuc 0)) <ℤ t → t ≤ℤ (pos c *ℤ h) → Headway t c h × ((k : ℤ) → Headway t c k → k ≡ h)
one_headway t h c few enough = (record { enough = enough; least = least }, λ k other. let up = least k other.enough in let down = other.least h enough in omega (arith, ints))
  where
    least : (k : ℤ) → t ≤ℤ (pos c *ℤ k) → h ≤ℤ k
    least k le = let up = above t (h +ℤ negsuc 0) c few k le in omega (arith, ints)
