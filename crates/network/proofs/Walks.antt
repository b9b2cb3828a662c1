-- Walks joined and cut, what they come to, and rows that keep the waits.
use Rattle.std.proofs.Common.{◌≡◌, ℕ, ◌<◌, T, List, [], ◌∷◌, ◌++◌, sym, refl, ap, ◌∙◌, subst}
use Rattle.amount.specs.Groups.{Ordered, times}
use Rattle.network.specs.Walks.{Net, Walk, sum, total, count, weight, MeanLe}
use Rattle.network.proofs.Joined.{Joined, count_none, count_more}
use Rattle.network.proofs.Toolkit.{unit_left, le_of_eq, cancel, times_add, times_nil, sub_nil, le_of_sub, swap_mid, neg_add}

module _ {A : Type 0} (N : Net A) (ok : Joined N) where
  pub walk_join : (u : ℕ) (es : List ℕ) (v : ℕ) (fs : List ℕ) (w : ℕ) → Walk N u es v → Walk N v fs w → Walk N u (es ++ fs) w
  walk_join u [] v fs w h k = subst (λ x. Walk N x fs w) (sym h.1) k
  walk_join u (e ∷ es) v fs w h k = (h.0, h.1, walk_join (N.to e) es v fs w h.2 k)

  pub walk_starts : (u : ℕ) (es : List ℕ) (v : ℕ) → Walk N u es v → u < N.events
  walk_starts u [] v h = h.0
  walk_starts u (e ∷ es) v h = subst (λ x. x < N.events) h.1 (ok.starts e h.0)

  pub walk_ends : (u : ℕ) (es : List ℕ) (v : ℕ) → Walk N u es v → v < N.events
  walk_ends u [] v h = subst (λ x. x < N.events) h.1 h.0
  walk_ends u (e ∷ es) v h = walk_ends (N.to e) es v h.2

  -- the event between
  pub walk_split : (u : ℕ) (es fs : List ℕ) (w : ℕ) → Walk N u (es ++ fs) w → (v : ℕ) × Walk N u es v × Walk N v fs w
  walk_split u [] fs w h = (u, (walk_starts u fs w h, refl), h)
  walk_split u (e ∷ es) fs w h = let r = walk_split (N.to e) es fs w h.2 in (r.0, (h.0, h.1, r.1), r.2)

  pub one_wait : (e : ℕ) → e < N.waits → Walk N (N.from e) (e ∷ []) (N.to e)
  one_wait e h = (h, refl, (ok.ends e h, refl))

-- what a wait adds to a walk's weight at period p over q: q times its amount, less p
abbrev pub reduced : {A : Type 0} → Ordered A → Net A → A → ℕ → ℕ → A
reduced G N p q e = G.add (times G q (N.amount e)) (G.neg p)

module _ {A : Type 0} (G : Ordered A) where
  infixl 60 ◌⊕◌
  infix 50 ◌≼◌
  abbrev ◌⊕◌ : A → A → A
  a ⊕ b = G.add a b

  abbrev ◌≼◌ : A → A → Type 0
  a ≼ b = T (G.leq a b)

  pub sum_append : (w : ℕ → A) (es fs : List ℕ) → sum G w (es ++ fs) ≡ sum G w es ⊕ sum G w fs
  sum_append w [] fs = sym (unit_left G _)
  sum_append w (e ∷ es) fs = ap (λ x. w e ⊕ x) (sum_append w es fs) ∙ sym (G.assoc _ _ _)

  -- a walk's weight is what its waits add to it
  pub sum_reduced : (N : Net A) (p : A) (q : ℕ) (es : List ℕ) → sum G (reduced G N p q) es ≡ weight G N p q es
  unfolding times
  sum_reduced N p q [] =
      sym (ap (λ k. times G q G.nil ⊕ G.neg (times G k p)) (count_none N) ∙ ap (λ x. x ⊕ G.neg G.nil) (times_nil G q) ∙ G.inv G.nil)
  sum_reduced N p q (e ∷ es) =
      ap (λ x. reduced G N p q e ⊕ x) (sum_reduced N p q es)
      ∙ swap_mid G _ _ _ _
      ∙ ap (λ x. x ⊕ (G.neg p ⊕ G.neg (times G (count N es) p))) (sym (times_add G q _ _))
      ∙ ap (λ x. times G q (N.amount e ⊕ total G N es) ⊕ x) (sym (neg_add G _ _))
      ∙ ap (λ k. times G q (N.amount e ⊕ total G N es) ⊕ G.neg (times G k p)) (sym (count_more N e es))

  -- a walk that weighs nothing or less has at most this mean, and the other way round
  pub mean_of_reduced : (N : Net A) (p : A) (q : ℕ) (es : List ℕ) → sum G (reduced G N p q) es ≼ G.nil → MeanLe G (total G N es) (count N es) p q
  mean_of_reduced N p q es h = le_of_sub G _ _ (rw (sum_reduced N p q es) at h)

  pub reduced_of_mean : (N : Net A) (p : A) (q : ℕ) (es : List ℕ) → MeanLe G (total G N es) (count N es) p q → sum G (reduced G N p q) es ≼ G.nil
  reduced_of_mean N p q es h = rw (sum_reduced N p q es) (sub_nil G _ _ h)

module _ {A : Type 0} (G : Ordered A) (N : Net A) (w r : ℕ → A) (feasible : (e : ℕ) → e < N.waits → T (G.leq (G.add (r (N.from e)) (w e)) (r (N.to e)))) where
  -- rows that rise by each wait's row at least rise by a walk's
  pub walk_rises : (u : ℕ) (es : List ℕ) (v : ℕ) → Walk N u es v → T (G.leq (G.add (r u) (sum G w es)) (r v))
  walk_rises u [] v h = le_of_eq G _ _ (G.unit _ ∙ ap r h.1)
  walk_rises u (e ∷ es) v h =
      G.trans _ (G.add (r (N.to e)) (sum G w es)) _
      (rw (← G.assoc (r u) (w e) (sum G w es)) (G.mono _ _ _ (subst (λ x. T (G.leq (G.add (r x) (w e)) (r (N.to e)))) h.1 (feasible e h.0))))
      (walk_rises (N.to e) es v h.2)

  pub closed_below : (u : ℕ) (es : List ℕ) → Walk N u es u → T (G.leq (sum G w es) G.nil)
  closed_below u es h = cancel G _ _ (r u) (rw (unit_left G (r u), G.comm (sum G w es) (r u)) (walk_rises u es u h))
