-- The greatest of what the entries of an event offer it, entry by entry.
use Rattle.std.proofs.Common.{◌≡◌, ℕ, zero, suc, ◌+◌, ◌<◌, cond, false, T, sym, refl, ap, ◌∙◌, subst, inl, inr, ⊎_elim, arith, below_more}
use Rattle.std.specs.declared.cmp.Ordering.{Ordering}
use Rattle.std.specs.declared.cmp.Ordering.TheVariants.{Less, Equal, Greater}
use Rattle.std.specs.Ordering.{is_le, is_lt, ord_max, ordering_reverse}
use Rattle.std.specs.Cmp.{IsTotalOrder}
use Rattle.amount.specs.Scales.{Scale, Compares}
use Rattle.amount.specs.Groups.{Ordered, row_group, times}
use Rattle.network.proofs.Toolkit
use Rattle.engine.specs.Tables.{Live}
use Rattle.engine.specs.Turns.{offer, Later, TopOffer}

-- what is not at most the other is the later
pub later_new : {A : Type 0} (G : Ordered A) (x y : A) → false ≡ G.leq y x → Later G x y y
later_new G x y e = inr (refl, ⊎_elim (λ h. h) (λ h. absurd (subst T (sym e) h)) (G.total x y))

-- the greater of two amounts is the later of their rows
pub later_max : {X : Type 0} (m : Scale X) {cmp : X → X → Ordering} → Compares m cmp → IsTotalOrder cmp → (a b : X) → Later (row_group m.order) (m.row a) (m.row b) (m.row (ord_max cmp a b))
later_max {X = X} m {cmp = cmp} compares orders a b = go (cmp b a) refl
  where
    at_most : (x y : X) (o : Ordering) → cmp x y ≡ o → T (is_le o) → T (m.at_most (m.row x) (m.row y))
    at_most x y o e = subst T (ap is_le (sym e) ∙ compares x y)

    go : (o : Ordering) → cmp b a ≡ o → Later (row_group m.order) (m.row a) (m.row b) (m.row (cond (is_lt o) a b))
    go Less e = inl (refl, at_most b a Less e tt)
    go Equal e = inr (refl, at_most a b Equal (orders.antisymm a b ∙ ap ordering_reverse e) tt)
    go Greater e = later_new (row_group m.order) (m.row a) (m.row b) (ap is_le (sym e) ∙ compares b a)

module _ {A : Type 0} (G : Ordered A) (d : ℕ → ℕ → A) (m : ℕ → ℕ → ℕ) (p : A) (q v : ℕ) where
  -- the walk of no waits gives zero
  pub top_first : (x : A) → x ≡ G.nil → d 0 v ≡ G.nil → TopOffer G d m p q v 1 x
  unfolding times
  top_first x is first = record { some = (0, omega arith, tt, gives ∙ sym is); most = below_one }
    where
      gives : offer G d p q 0 v ≡ G.nil
      gives = ap (λ y. G.add y (G.neg G.nil)) (ap (times G q) first ∙ Toolkit.times_nil G q) ∙ G.inv G.nil

      below_one : (k : ℕ) → k < 1 → Live k (m k v) → T (G.leq (offer G d p q k v) x)
      below_one zero h l = Toolkit.le_of_eq G _ _ (gives ∙ sym is)
      below_one (suc k) h l = absurd (omega arith)

  -- an entry without a walk
  pub top_dead : (k : ℕ) (x : A) → ¬ Live k (m k v) → TopOffer G d m p q v k x → TopOffer G d m p q v (k + 1) x
  top_dead k x dead t =
      let s = t.some in
      record { some = (s.0, omega (arith, s.1), s.2, s.3); most = below_more (λ i. Live i (m i v) → T (G.leq (offer G d p q i v) x)) k t.most (λ l. absurd (dead l)) }

  -- an entry with one
  pub top_later : (k : ℕ) (x y z : A) → Live k (m k v) → y ≡ offer G d p q k v → Later G x y z → TopOffer G d m p q v k x → TopOffer G d m p q v (k + 1) z
  top_later k x y z live is (inl a) t =
      let s = t.some in
      let P : A → ℕ → Type 0 = λ w i. Live i (m i v) → T (G.leq (offer G d p q i v) w) in
      subst (λ w. TopOffer G d m p q v (k + 1) w) (sym a.0)
      (record { some = (s.0, omega (arith, s.1), s.2, s.3); most = below_more (P x) k t.most (λ _. subst (λ w. T (G.leq w x)) is a.1) })
  top_later k x y z live is (inr a) t =
      let P : A → ℕ → Type 0 = λ w i. Live i (m i v) → T (G.leq (offer G d p q i v) w) in
      subst (λ w. TopOffer G d m p q v (k + 1) w) (sym a.0)
      (record { some = (k, omega arith, live, sym is); most = below_more (P y) k (λ i h l. G.trans _ _ _ (t.most i h l) a.1) (λ _. Toolkit.le_of_eq G _ _ (sym is)) })
