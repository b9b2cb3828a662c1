-- What the laws of an ordered group give: sums, multiples and means.
use Rattle.std.proofs.Common.{◌≡◌, ℕ, zero, suc, ◌+◌, ◌*◌, ◌≤◌, T, sym, refl, ap, ◌∙◌, subst, ⊎_elim, suc-mul, mul_comm, suc-add, zero-add, zero-mul, arith}
use Rattle.amount.specs.Groups.{Ordered, times}

module _ {A : Type 0} (G : Ordered A) where
  infixl 60 ◌⊕◌
  infix 50 ◌≼◌
  abbrev ◌⊕◌ : A → A → A
  a ⊕ b = G.add a b

  abbrev ◌≼◌ : A → A → Type 0
  a ≼ b = T (G.leq a b)

  pub asc : (a b c : A) → (a ⊕ b) ⊕ c ≡ a ⊕ (b ⊕ c)
  asc = G.assoc

  pub cmm : (a b : A) → a ⊕ b ≡ b ⊕ a
  cmm = G.comm

  pub left_comm : (a b c : A) → a ⊕ (b ⊕ c) ≡ b ⊕ (a ⊕ c)
  left_comm a b c = sym (G.assoc a b c) ∙ ap (λ x. x ⊕ c) (G.comm a b) ∙ G.assoc b a c

  pub ruleset ac = (asc, cmm, left_comm)

  pub unit_left : (a : A) → G.nil ⊕ a ≡ a
  unit_left a = G.comm G.nil a ∙ G.unit a

  pub swap_mid : (a b c d : A) → (a ⊕ b) ⊕ (c ⊕ d) ≡ (a ⊕ c) ⊕ (b ⊕ d)
  swap_mid a b c d = simp ac

  pub add_sub : (a c : A) → (a ⊕ c) ⊕ G.neg c ≡ a
  add_sub a c = G.assoc a c (G.neg c) ∙ ap (λ x. a ⊕ x) (G.inv c) ∙ G.unit a

  pub sub_add : (a c : A) → (a ⊕ G.neg c) ⊕ c ≡ a
  sub_add a c = simp (G.assoc, G.comm (G.neg c) c, G.inv, G.unit)

  pub le_refl : (a : A) → a ≼ a
  le_refl a = ⊎_elim (λ h. h) (λ h. h) (G.total a a)

  pub le_of_eq : (a b : A) → a ≡ b → a ≼ b
  le_of_eq a b e = subst (λ x. a ≼ x) e (le_refl a)

  pub add_le_add : (a b c d : A) → a ≼ b → c ≼ d → a ⊕ c ≼ b ⊕ d
  add_le_add a b c d h k = G.trans _ (b ⊕ c) _ (G.mono a b c h) (rw (G.comm b c, G.comm b d) (G.mono c d b k))

  pub cancel : (a b c : A) → a ⊕ c ≼ b ⊕ c → a ≼ b
  cancel a b c h = simp add_sub at (G.mono (a ⊕ c) (b ⊕ c) (G.neg c) h)

  pub times_add : (k : ℕ) (a b : A) → times G k (a ⊕ b) ≡ times G k a ⊕ times G k b
  unfolding times
  times_add zero a b = sym (G.unit G.nil)
  times_add (suc k) a b = ap (λ x. (a ⊕ b) ⊕ x) (times_add k a b) ∙ swap_mid a b (times G k a) (times G k b)

  pub times_nil : (k : ℕ) → times G k G.nil ≡ G.nil
  unfolding times
  times_nil zero = refl
  times_nil (suc k) = unit_left _ ∙ times_nil k

  pub times_plus : (j k : ℕ) (a : A) → times G (j + k) a ≡ times G j a ⊕ times G k a
  unfolding times
  times_plus zero k a = rw zero-add (sym (unit_left _))
  times_plus (suc j) k a = rw (suc-add j k) (ap (λ x. a ⊕ x) (times_plus j k a) ∙ sym (G.assoc _ _ _))

  pub times_times : (j k : ℕ) (a : A) → times G (j * k) a ≡ times G j (times G k a)
  unfolding times
  times_times zero k a = rw zero-mul
  times_times (suc j) k a = ap (λ i. times G i a) (suc-mul j k) ∙ times_plus (j * k) k a ∙ ap (λ x. x ⊕ times G k a) (times_times j k a) ∙ G.comm _ _

  pub times_swap : (j k : ℕ) (a : A) → times G j (times G k a) ≡ times G k (times G j a)
  times_swap j k a = sym (times_times j k a) ∙ ap (λ i. times G i a) (mul_comm j k) ∙ times_times k j a

  pub times_mono : (k : ℕ) (a b : A) → a ≼ b → times G k a ≼ times G k b
  unfolding times
  times_mono zero a b h = le_refl G.nil
  times_mono (suc k) a b h = add_le_add _ _ _ _ h (times_mono k a b h)

  -- a row taken one time or more keeps the order
  pub times_cancel : (k : ℕ) (a b : A) → times G (suc k) a ≼ times G (suc k) b → a ≼ b
  unfolding times
  times_cancel k a b h = ⊎_elim (λ l. l) other (G.total a b)
    where
      other : b ≼ a → a ≼ b
      other l = cancel a b (times G k a) (G.trans _ _ _ h (add_le_add _ _ _ _ (le_refl b) (times_mono k b a l)))

  -- t over c is at most s over b, as means compare
  pub mean_trans : (t s r : A) (c b d : ℕ) → 1 ≤ b → times G b t ≼ times G c s → times G d s ≼ times G b r → times G d t ≼ times G c r
  mean_trans t s r c zero d pos h k = absurd (omega arith)
  mean_trans t s r c (suc b) d pos h k =
      times_cancel b _ _ (G.trans _ (times G d (times G c s)) _
      (rw (times_swap (suc b) d t) (times_mono d _ _ h))
      (rw (times_swap d c s, times_swap (suc b) c r) (times_mono c _ _ k)))

  -- what a row must lie above, moved over
  pub sub_le : (a b c : A) → a ≼ b ⊕ c → a ⊕ G.neg c ≼ b
  sub_le a b c h = simp add_sub at (G.mono a (b ⊕ c) (G.neg c) h)

  pub le_sub : (a b c : A) → a ⊕ G.neg c ≼ b → a ≼ b ⊕ c
  le_sub a b c h = simp sub_add at (G.mono (a ⊕ G.neg c) b c h)

  -- with nothing left over
  pub sub_nil : (a c : A) → a ≼ c → a ⊕ G.neg c ≼ G.nil
  sub_nil a c h = sub_le a G.nil c (rw (unit_left c) h)

  pub le_of_sub : (a c : A) → a ⊕ G.neg c ≼ G.nil → a ≼ c
  le_of_sub a c h = rw (unit_left c) at (le_sub a G.nil c h)

  -- what undoes a is its opposite
  pub neg_only : (a b : A) → a ⊕ b ≡ G.nil → b ≡ G.neg a
  neg_only a b h = sym (add_sub b a) ∙ ap (λ x. x ⊕ G.neg a) (G.comm b a ∙ h) ∙ unit_left _

  pub neg_add : (a b : A) → G.neg (a ⊕ b) ≡ G.neg a ⊕ G.neg b
  neg_add a b = sym (neg_only (a ⊕ b) (G.neg a ⊕ G.neg b) (swap_mid a b _ _ ∙ ap (λ x. x ⊕ (b ⊕ G.neg b)) (G.inv a) ∙ unit_left _ ∙ G.inv b))
