-- The period from a loop on each traced walk.
use Rattle.std.proofs.Common.{◌≡◌, ℕ, ◌+◌, ◌<◌, ◌≤◌, T, List, ◌++◌, length, get_or, sym, ◌∙◌, subst, arith, length-append}
use Rattle.amount.specs.Groups.{Ordered, times}
use Rattle.network.specs.Walks.{Net, Walk, sum, total, count, weight, Keeps, MeanLe, Bounds, Loop, Departure, Period}
use Rattle.network.proofs.Joined.{Joined, count_waits}
use Rattle.network.proofs.Toolkit
use Rattle.network.proofs.Walks
use Rattle.network.proofs.Walks.{reduced}
use Rattle.network.proofs.Core
use Rattle.network.proofs.Core.{Short}

-- a greatest walk of n waits to v, cut at a closed walk of mean p over q or less
pub record Traced {A : Type 0} (G : Ordered A) (N : Net A) (p : A) (q v : ℕ) : Type 0 where
  pub u : ℕ
  pub x : ℕ
  pub before : List ℕ
  pub round : List ℕ
  pub after : List ℕ
  pub comes : Walk N u before x
  pub turns : Walk N x round x
  pub goes : Walk N x after v
  pub some : 0 < length round
  pub size : length before + (length round + length after) ≡ N.events
  pub most : (u : ℕ) (es : List ℕ) → Walk N u es v → length es ≡ N.events → T (G.leq (sum G N.amount es) (sum G N.amount (before ++ (round ++ after))))
  pub mean : MeanLe G (total G N round) (count N round) p q

module _ {A : Type 0} (G : Ordered A) (N : Net A) (p : A) (q : ℕ) where
  abbrev w : ℕ → A
  w = reduced G N p q

  -- of two walks of as many waits the one of greater total weighs more
  reduced_mono : (es fs : List ℕ) → length es ≡ length fs → T (G.leq (total G N es) (total G N fs)) → T (G.leq (sum G w es) (sum G w fs))
  reduced_mono es fs same h =
      let even : count N es ≡ count N fs = count_waits N es ∙ same ∙ sym (count_waits N fs) in
      rw (Walks.sum_reduced G N p q es, Walks.sum_reduced G N p q fs)
      (subst (λ k. T (G.leq (weight G N p q es) (G.add (times G q (total G N fs)) (G.neg (times G k p))))) even (G.mono _ _ _ (Toolkit.times_mono G q _ _ h)))

  drop_round : (xs cs bs : List ℕ) → T (G.leq (sum G w cs) G.nil) → T (G.leq (sum G w (xs ++ (cs ++ bs))) (sum G w (xs ++ bs)))
  drop_round xs cs bs h =
      rw (Walks.sum_append G w xs (cs ++ bs), Walks.sum_append G w cs bs, Walks.sum_append G w xs bs)
      (Toolkit.add_le_add G _ _ _ _ (Toolkit.le_refl G _) (rw (Toolkit.unit_left G (sum G w bs)) at (G.mono _ _ (sum G w bs) h)))

  pub cut_traced : Joined N → (v : ℕ) → Traced G N p q v → (u : ℕ) (es : List ℕ) → Walk N u es v → length es ≡ N.events → Short G N w N.events (sum G w es) v
  cut_traced ok v t u es s k =
      let size : length es ≡ length (t.before ++ (t.round ++ t.after)) = simp (length-append, length-append) (k ∙ sym t.size) in
      let less : length (t.before ++ t.after) < N.events = simp length-append (omega (arith, t.size, t.some)) in (
        t.u,
        t.before ++ t.after,
        Walks.walk_join N ok t.u t.before t.x t.after v t.comes t.goes,
        less,
        G.trans _ _ _ (reduced_mono es _ size (t.most u es s k)) (drop_round t.before t.round t.after (Walks.reduced_of_mean G N p q t.round t.mean)),
      )

  -- rows keep the waits at p over q as they rise by the reduced rows
  pub rises_of_keeps : (r : ℕ → A) → Keeps G N p q r → (e : ℕ) → e < N.waits → T (G.leq (G.add (r (N.from e)) (w e)) (r (N.to e)))
  rises_of_keeps r k e h = rw (← G.assoc (r (N.from e)) (times G q (N.amount e)) (G.neg p)) (Toolkit.sub_le G _ _ p (k e h))

  pub keeps_of_rises : (r : ℕ → A) → ((e : ℕ) → e < N.waits → T (G.leq (G.add (r (N.from e)) (w e)) (r (N.to e)))) → Keeps G N p q r
  keeps_of_rises r k e h = Toolkit.le_sub G _ _ p (rw (G.assoc (r (N.from e)) (times G q (N.amount e)) (G.neg p)) (k e h))

  -- rows that keep the waits bound every closed walk
  pub keeps_bounds : (r : ℕ → A) → Keeps G N p q r → Bounds G N p q
  keeps_bounds r k u es s = Walks.mean_of_reduced G N p q es (Walks.closed_below G N w r (rises_of_keeps r k) u es s.walk)

module _ {A : Type 0} (G : Ordered A) (N : Net A) (ok : Joined N) (p : A) (q : ℕ)
    (traced : (v : ℕ) → v < N.events → (u : ℕ) (es : List ℕ) → Walk N u es v → length es ≡ N.events → Traced G N p q v)
    (rows : ℕ → A)
    (reached : (v : ℕ) → v < N.events → (u : ℕ) × (es : List ℕ) × Walk N u es v × (sum G (reduced G N p q) es ≡ rows v))
    (most : (u : ℕ) (es : List ℕ) (v : ℕ) → Walk N u es v → length es < N.events → T (G.leq (sum G (reduced G N p q) es) (rows v))) where
  cut : (u : ℕ) (es : List ℕ) (v : ℕ) → Walk N u es v → length es ≡ N.events → Short G N (reduced G N p q) N.events (sum G (reduced G N p q) es) v
  cut u es v s k = cut_traced G N p q ok v (traced v (Walks.walk_ends N ok u es v s) u es s k) u es s k

  keeps : Keeps G N p q rows
  keeps = keeps_of_rises G N p q rows (Core.top_rises G N ok (reduced G N p q) N.events cut rows reached most)

  departures : (v : ℕ) → v < N.events → Departure G N p q v (rows v)
  departures v h =
      let a = reached v h in
      record {
        reached = (a.0, a.1, a.2, sym (Walks.sum_reduced G N p q a.1) ∙ a.3);
        most = λ u es s. subst (λ x. T (G.leq x (rows v))) (Walks.sum_reduced G N p q es) (Core.all_below G N ok (reduced G N p q) N.events cut rows reached most u es v s);
      }

  pub period : (es : List ℕ) → Loop N (N.from (get_or es 0 0)) es → ((i : ℕ) → i < length es → N.from (get_or es 0 0) ≤ N.from (get_or es i 0))
      → p ≡ total G N es → q ≡ count N es → Period G N p q es rows
  period es l lowest sums counts = record {
    loop = l;
    lowest = lowest;
    sums = sums;
    counts = counts;
    bounds = keeps_bounds G N p q rows keeps;
    departures = departures;
    keeps = keeps;
    above = Core.top_nonneg G N ok (reduced G N p q) N.events cut rows reached most;
    least = λ r k above. Core.top_least G N ok (reduced G N p q) N.events cut rows reached most r (rises_of_keeps G N p q r k) above;
    shorter = λ s b pos below r k. below (rw (sums, counts) (keeps_bounds G N s b r k _ es l.closed));
  }
