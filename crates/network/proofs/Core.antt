-- Walks shortened, the greatest rows, and what they keep.
use Rattle.std.proofs.Common.{◌≡◌, ℕ, zero, suc, ◌<◌, ◌≤◌, T, List, [], ◌∷◌, ◌++◌, length, take, drop, sym, refl, subst, arith, length-append, length-drop, take-append-drop, length-take}
use native.Mathlib.Decide.{dec_lt}
use Rattle.amount.specs.Groups.{Ordered}
use Rattle.network.specs.Walks.{Net, Walk, sum}
use Rattle.network.proofs.Toolkit
use Rattle.network.proofs.Joined.{Joined}
use Rattle.network.proofs.Walks

-- a walk to v of fewer than n waits that comes to x or more
abbrev pub Short : {A : Type 0} → Ordered A → Net A → (ℕ → A) → ℕ → A → ℕ → Type 0
Short G N w n x v = (u : ℕ) × (es : List ℕ) × Walk N u es v × (length es < n) × T (G.leq x (sum G w es))

module _ {A : Type 0} (G : Ordered A) (N : Net A) (ok : Joined N) (w : ℕ → A) (n : ℕ)
    (cut : (u : ℕ) (es : List ℕ) (v : ℕ) → Walk N u es v → length es ≡ n → Short G N w n (sum G w es) v) where
  -- a walk of n waits or more has a shorter one that comes to as much
  cut_once : (u : ℕ) (es : List ℕ) (v : ℕ) → ¬ (length es < n) → Walk N u es v → Short G N w (length es) (sum G w es) v
  cut_once u es v l s =
      let same = take-append-drop n es in
      let parts = Walks.walk_split N ok u (take n es) (drop n es) v (subst (λ x. Walk N u x v) (sym same) s) in
      let size : length (take n es) ≡ n = simp length-take (omega arith) in
      let front = cut u (take n es) parts.0 parts.1 size in
      let joined = Walks.walk_join N ok front.0 front.1 parts.0 (drop n es) v front.2 parts.2 in
      let less : length (front.1 ++ drop n es) < length es = simp (length-append, length-drop) (omega arith) in
      let up : T (G.leq (sum G w es) (sum G w (front.1 ++ drop n es))) =
      subst (λ x. T (G.leq (sum G w x) (sum G w (front.1 ++ drop n es)))) same
      (rw (Walks.sum_append G w (take n es) (drop n es), Walks.sum_append G w front.1 (drop n es)) (G.mono _ _ _ front.4)) in
      (front.0, front.1 ++ drop n es, joined, less, up)

  -- every walk has a short one that comes to as much; k only bounds the recursion
  pub shorten : (k : ℕ) (u : ℕ) (es : List ℕ) (v : ℕ) → length es ≤ k → Walk N u es v → Short G N w n (sum G w es) v
  shorten zero u es v h s = elim (dec_lt (length es) n) [ yes l ↦ (u, es, s, l, Toolkit.le_refl G _) | no l ↦ cut u es v s (omega arith) ]
  shorten (suc k) u es v h s =
      elim (dec_lt (length es) n) [
        | yes l ↦ (u, es, s, l, Toolkit.le_refl G _)
        | no l ↦
            let a = cut_once u es v l s in
            let b = shorten k a.0 a.1 v (omega arith) a.2 in
            (b.0, b.1, b.2, b.3, G.trans _ _ _ a.4 b.4)
      ]

  -- rows that some walk comes to, and no short walk passes
  module _ (top : ℕ → A)
      (reached : (v : ℕ) → v < N.events → (u : ℕ) × (es : List ℕ) × Walk N u es v × (sum G w es ≡ top v))
      (most : (u : ℕ) (es : List ℕ) (v : ℕ) → Walk N u es v → length es < n → T (G.leq (sum G w es) (top v))) where
    pub all_below : (u : ℕ) (es : List ℕ) (v : ℕ) → Walk N u es v → T (G.leq (sum G w es) (top v))
    all_below u es v s = let a = shorten (length es) u es v (omega arith) s in G.trans _ _ _ a.4 (most a.0 a.1 v a.2 a.3)

    pub top_rises : (e : ℕ) → e < N.waits → T (G.leq (G.add (top (N.from e)) (w e)) (top (N.to e)))
    top_rises e h =
        let a = reached (N.from e) (ok.starts e h) in
        let longer = all_below a.0 (a.1 ++ (e ∷ [])) (N.to e) (Walks.walk_join N ok a.0 a.1 (N.from e) (e ∷ []) (N.to e) a.2 (Walks.one_wait N ok e h)) in
        rw (Walks.sum_append G w a.1 (e ∷ []), a.3, G.unit (w e)) at longer

    pub top_nonneg : (v : ℕ) → v < N.events → T (G.leq G.nil (top v))
    top_nonneg v h = all_below v [] v (h, refl)

    -- nothing less does
    pub top_least : (r : ℕ → A) → ((e : ℕ) → e < N.waits → T (G.leq (G.add (r (N.from e)) (w e)) (r (N.to e)))) → ((v : ℕ) → v < N.events → T (G.leq G.nil (r v))) → (v : ℕ) → v < N.events → T (G.leq (top v) (r v))
    top_least r rises above v h =
        let a = reached v h in
        G.trans _ _ _
        (subst (λ x. T (G.leq x (G.add (r a.0) x))) a.3 (rw (Toolkit.unit_left G (sum G w a.1)) at (G.mono _ _ (sum G w a.1) (above a.0 (Walks.walk_starts N ok a.0 a.1 v a.2)))))
        (subst (λ x. T (G.leq (G.add (r a.0) x) (r v))) a.3 (Walks.walk_rises G N w r rises a.0 a.1 v a.2))
