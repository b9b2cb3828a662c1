-- A period from a certificate: a loop, and departures that keep every wait and that walks reach.
use Rattle.std.proofs.Common.{◌≡◌, ℕ, ◌<◌, ◌≤◌, Bool, true, not, T, eqb, ltb, leb, List, [], ◌∷◌, length, get_or, ℤ, pos, neg_ℤ, sym, ap, ◌∙◌, subst, arith, eqb→eq, ltb→lt, leb→le}
use lib.Signed.{le_z, le_z_yes}
use Rattle.amount.specs.Spans.{span}
use Rattle.amount.specs.Groups.{Ordered, times}
use Rattle.network.specs.Networks.{Graph, wait_at, AllWithin, Sound}
use Rattle.network.specs.Walks.{Net, Walk, Loop, sum, total, count, weight, Keeps, NonNegative, MeanLe, Period, NoClosed}
use Rattle.network.proofs.Joined.{Joined, count_waits}
use Rattle.network.proofs.Toolkit
use Rattle.network.proofs.Walks
use Rattle.network.proofs.Walks.{reduced}
use Rattle.network.proofs.Main
use Rattle.sheet.proofs.Tests.{both, left, right, each, at, differ}

module _ {A : Type 0} (G : Ordered A) (N : Net A) (ok : Joined N) (p : A) (q : ℕ) where
  -- departures that keep every wait and are nowhere below zero are at least what any walk gives
  below : (r : ℕ → A) → Keeps G N p q r → NonNegative G N r → (u : ℕ) (es : List ℕ) (v : ℕ) → Walk N u es v → T (G.leq (weight G N p q es) (r v))
  below r keeps above u es v s =
      let x = sum G (reduced G N p q) es in
      let up : T (G.leq x (G.add (r u) x)) = rw (Toolkit.unit_left G x) at (G.mono _ _ x (above u (Walks.walk_starts N ok u es v s))) in
      rw (← Walks.sum_reduced G N p q es) (G.trans _ _ _ up (Walks.walk_rises G N (reduced G N p q) r (Main.rises_of_keeps G N p q r keeps) u es v s))

  -- so where walks reach them, and a loop has the mean, the period is shown
  pub certified : (es : List ℕ) (r : ℕ → A) → Loop N (N.from (get_or es 0 0)) es → ((i : ℕ) → i < length es → N.from (get_or es 0 0) ≤ N.from (get_or es i 0))
      → p ≡ total G N es → q ≡ count N es → Keeps G N p q r → NonNegative G N r
      → ((v : ℕ) → v < N.events → (u : ℕ) × (fs : List ℕ) × Walk N u fs v × (weight G N p q fs ≡ r v)) → Period G N p q es r
  certified es r loop lowest sums counts keeps above reached = record {
    loop = loop;
    lowest = lowest;
    sums = sums;
    counts = counts;
    bounds = Main.keeps_bounds G N p q r keeps;
    departures = λ v h. record { reached = reached v h; most = λ u fs s. below r keeps above u fs v s };
    keeps = keeps;
    above = above;
    least = λ s k a v h. let w = reached v h in subst (λ x. T (G.leq x (s v))) w.3 (below s k a w.0 w.1 v w.2);
    shorter = λ s b some less t k. less (rw (sums, counts) (Main.keeps_bounds G N s b t k _ es loop.closed));
  }

module _ {A : Type 0} (G : Ordered A) (N : Net A) where
  -- two periods of one network have the same mean
  pub below_each_other : (p p' : A) (q q' : ℕ) (es es' : List ℕ) (r r' : ℕ → A) → Period G N p q es r → Period G N p' q' es' r' → MeanLe G p' q' p q
  below_each_other p p' q q' es es' r r' a b = rw (b.sums, b.counts) (a.bounds _ es' b.loop.closed)

  pub same_mean : (p p' : A) (q q' : ℕ) (es es' : List ℕ) (r r' : ℕ → A) → Period G N p q es r → Period G N p' q' es' r' → times G q' p ≡ times G q p'
  same_mean p p' q q' es es' r r' a b = G.anti _ _ (below_each_other p' p q' q es' es r' r b a) (below_each_other p p' q q' es es' r r' a b)

  -- by as much as their counts differ, so do the weights that they give a walk
  scaled : (p p' : A) (q q' : ℕ) → times G q' p ≡ times G q p' → (es : List ℕ) → times G q' (weight G N p q es) ≡ times G q (weight G N p' q' es)
  scaled p p' q q' e es =
      let c = count N es in
      let t = total G N es in
      let rounds : times G q' (times G c p) ≡ times G q (times G c p') = Toolkit.times_swap G q' c p ∙ ap (times G c) e ∙ Toolkit.times_swap G c q p' in
      Toolkit.times_add G q' _ _
      ∙ ap (λ x. G.add (times G q' (times G q t)) x) (times_neg q' (times G c p) ∙ ap G.neg rounds ∙ sym (times_neg q (times G c p')))
      ∙ ap (λ x. G.add x (times G q (G.neg (times G c p')))) (Toolkit.times_swap G q' q t)
      ∙ sym (Toolkit.times_add G q _ _)
    where
      times_neg : (k : ℕ) (x : A) → times G k (G.neg x) ≡ G.neg (times G k x)
      times_neg k x = Toolkit.neg_only G _ _ (sym (Toolkit.times_add G k x (G.neg x)) ∙ ap (times G k) (G.inv x) ∙ Toolkit.times_nil G k)

  departs_below : (p p' : A) (q q' : ℕ) (es es' : List ℕ) (r r' : ℕ → A) → Period G N p q es r → Period G N p' q' es' r' → (v : ℕ) → v < N.events → T (G.leq (times G q' (r v)) (times G q (r' v)))
  departs_below p p' q q' es es' r r' a b v h =
      let w = (a.departures v h).reached in
      let below-it = Toolkit.times_mono G q _ _ ((b.departures v h).most w.0 w.1 w.2) in
      subst (λ x. T (G.leq (times G q' x) (times G q (r' v)))) w.3
      (subst (λ x. T (G.leq x (times G q (r' v)))) (sym (scaled p p' q q' (same_mean p p' q q' es es' r r' a b) w.1)) below-it)

  -- and the departures
  pub same_departures : (p p' : A) (q q' : ℕ) (es es' : List ℕ) (r r' : ℕ → A) → Period G N p q es r → Period G N p' q' es' r' → (v : ℕ) → v < N.events → times G q' (r v) ≡ times G q (r' v)
  same_departures p p' q q' es es' r r' a b v h = G.anti _ _ (departs_below p p' q q' es es' r r' a b v h) (departs_below p' p q' q es' es r' r b a v h)

  -- without waits nothing is closed
  pub none_closed : N.waits ≡ 0 → NoClosed N
  none_closed e u [] c = absurd (omega (arith, c.some))
  none_closed e u (x ∷ es) c = absurd (omega (arith, e, c.walk.0))

-- the test of a sound list of waits, computed
abbrev nearby : ℕ → List ℤ → Bool
nearby b [] = true
nearby b (x ∷ xs) = both (le_z (neg_ℤ (pos b)) x) (both (le_z x (pos b)) (nearby b xs))

all_near : (b : ℕ) (xs : List ℤ) → T (nearby b xs) → AllWithin b xs
all_near b [] t = tt
all_near b (x ∷ xs) t =
    let rest = right (le_z (neg_ℤ (pos b)) x) _ t in
    (le_z_yes (left _ _ t), le_z_yes (left _ _ rest), all_near b xs (right (le_z x (pos b)) _ rest))

module _ (g : Graph) where
  abbrev fits : ℕ → Bool
  fits e = both (ltb (wait_at g.waits e).start g.events) (both (ltb (wait_at g.waits e).end g.events) (nearby span (wait_at g.waits e).amount))

  -- each wait joins two of the events and lies in the span
  abbrev pub Fits : Bool
  Fits = each fits (length g.waits)

  pub sound : T Fits → Sound g
  sound t = record {
    starts = λ e h. ltb→lt _ _ (left _ _ (at fits (length g.waits) t e h));
    ends = λ e h. ltb→lt _ _ (left _ _ (rest e h));
    spans = λ e h. all_near span _ (right (ltb (wait_at g.waits e).end g.events) _ (rest e h));
  }
    where
      rest : (e : ℕ) → e < length g.waits → T (both (ltb (wait_at g.waits e).end g.events) (nearby span (wait_at g.waits e).amount))
      rest e h = right (ltb (wait_at g.waits e).start g.events) _ (at fits (length g.waits) t e h)

-- the tests of a certificate, computed
module _ {A : Type 0} (G : Ordered A) (N : Net A) where
  -- two rows are the same
  abbrev same : A → A → Bool
  same a b = both (G.leq a b) (G.leq b a)

  -- these waits lead from u to v
  abbrev leads : ℕ → List ℕ → ℕ → Bool
  leads u [] v = both (ltb u N.events) (eqb u v)
  leads u (e ∷ es) v = both (ltb e N.waits) (both (eqb (N.from e) u) (leads (N.to e) es v))

  -- no wait of the list before the one of number j starts where that one does
  abbrev fresh : List ℕ → ℕ → Bool
  fresh es j = each (λ i. not (eqb (N.from (get_or es i 0)) (N.from (get_or es j 0)))) j

  abbrev is_loop : List ℕ → Bool
  is_loop es =
      both (leads (N.from (get_or es 0 0)) es (N.from (get_or es 0 0)))
      (both (ltb 0 (length es))
      (both (each (fresh es) (length es))
      (each (λ i. leb (N.from (get_or es 0 0)) (N.from (get_or es i 0))) (length es))))

  module _ (p : A) (q : ℕ) (r : ℕ → A) where
    abbrev keeps_wait : ℕ → Bool
    keeps_wait e = G.leq (G.add (r (N.from e)) (times G q (N.amount e))) (G.add (r (N.to e)) p)

    abbrev above_zero : ℕ → Bool
    above_zero v = G.leq G.nil (r v)

    abbrev keeps_all : Bool
    keeps_all = both (each keeps_wait N.waits) (each above_zero N.events)

    -- a walk, by its first event and its waits, gives event v its row
    abbrev gives : List (ℕ × List ℕ) → ℕ → Bool
    gives ws v = both (leads (get_or ws v (0, [])).0 (get_or ws v (0, [])).1 v) (same (weight G N p q (get_or ws v (0, [])).1) (r v))

  -- the whole certificate: the loop, the departures, and a walk to each event
  abbrev pub Proves : A → ℕ → List ℕ → (ℕ → A) → List (ℕ × List ℕ) → Bool
  Proves p q es r ws =
      both (is_loop es)
      (both (same p (total G N es))
      (both (eqb q (length es))
      (both (keeps_all p q r)
      (each (gives p q r ws) N.events))))

  same_rows : (a b : A) → T (same a b) → a ≡ b
  same_rows a b t = G.anti a b (left _ _ t) (right (G.leq a b) _ t)

  walked : (u : ℕ) (es : List ℕ) (v : ℕ) → T (leads u es v) → Walk N u es v
  walked u [] v t = (ltb→lt _ _ (left _ _ t), eqb→eq _ _ (right (ltb u N.events) _ t))
  walked u (e ∷ es) v t =
      let rest = right (ltb e N.waits) _ t in
      (ltb→lt _ _ (left _ _ t), eqb→eq _ _ (left _ _ rest), walked (N.to e) es v (right (eqb (N.from e) u) _ rest))

  looped : (es : List ℕ) → T (is_loop es) → Loop N (N.from (get_or es 0 0)) es × ((i : ℕ) → i < length es → N.from (get_or es 0 0) ≤ N.from (get_or es i 0))
  looped es t =
      let t₁ = right (leads (N.from (get_or es 0 0)) es (N.from (get_or es 0 0))) _ t in
      let t₂ = right (ltb 0 (length es)) _ t₁ in (
        record {
          closed = record { walk = walked _ es _ (left _ _ t); some = ltb→lt _ _ (left _ _ t₁) };
          apart = λ i j h k. differ _ _ (at _ j (at (fresh es) (length es) (left _ _ t₂) j k) i h);
        },
        λ i h. leb→le _ _ (at _ (length es) (right (each (fresh es) (length es)) _ t₂) i h),
      )

  -- a certificate that passes shows the period
  pub proven : Joined N → (p : A) (q : ℕ) (es : List ℕ) (r : ℕ → A) (ws : List (ℕ × List ℕ)) → T (Proves p q es r ws) → Period G N p q es r
  proven ok p q es r ws t =
      let t₁ = right (is_loop es) _ t in
      let t₂ = right (same p (total G N es)) _ t₁ in
      let t₃ = right (eqb q (length es)) _ t₂ in
      let t₄ = right (keeps_all p q r) _ t₃ in
      let l = looped es (left _ _ t) in
      let k : T (keeps_all p q r) = left _ _ t₃ in
      certified G N ok p q es r l.0 l.1 (same_rows _ _ (left _ _ t₁)) (eqb→eq _ _ (left _ _ t₂) ∙ sym (count_waits N es))
      (at (keeps_wait p q r) N.waits (left _ _ k)) (at (above_zero p q r) N.events (right (each (keeps_wait p q r) N.waits) _ k))
      (λ v h.
      let g = at (gives p q r ws) N.events t₄ v h in
      (_, _, walked _ _ v (left _ _ g), same_rows _ _ (right (leads (get_or ws v (0, [])).0 (get_or ws v (0, [])).1 v) _ g)))
