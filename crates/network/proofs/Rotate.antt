-- A loop begun at another of its events.
use Rattle.std.proofs.Common.{◌≡◌, ℕ, ◌+◌, ◌-◌, ◌<◌, ◌≤◌, ◌⊎◌, List, ◌++◌, length, get_or, sym, refl, ap, ◌∙◌, inl, inr, ⊎_elim, arith, length-append}
use native.Mathlib.Decide.{dec_lt}
use Rattle.std.proofs.lemmas.List.{get_or_append_left, get_or-append_right}
use Rattle.amount.specs.Groups.{Ordered}
use Rattle.network.specs.Walks.{Net, Walk, sum, Loop}
use Rattle.network.proofs.Joined.{Joined}
use Rattle.network.proofs.Walks

-- no event starts two of the waits
abbrev pub Apart : {A : Type 0} → Net A → List ℕ → Type 0
Apart N es = (i j : ℕ) → i < j → j < length es → ¬ (N.from (get_or es i 0) ≡ N.from (get_or es j 0))

module _ {A : Type 0} (N : Net A) (ok : Joined N) where
  -- where the place i of bs ++ cs stands in cs ++ bs
  place : (cs bs : List ℕ) (i : ℕ) → i < length (bs ++ cs)
      → ((i < length bs) × (get_or (bs ++ cs) i 0 ≡ get_or (cs ++ bs) (length cs + i) 0)) ⊎ ((length bs ≤ i) × (get_or (bs ++ cs) i 0 ≡ get_or (cs ++ bs) (i - length bs) 0))
  place cs bs i h =
      elim (dec_lt i (length bs)) [
        | yes l ↦ inl (l, get_or_append_left bs cs 0 i l ∙ sym (get_or-append_right cs bs (length cs) (length cs + i) 0 refl (omega arith) ∙ ap (λ j. get_or bs j 0) (cancels (length cs) i)))
        | no l ↦ inr (omega arith, get_or-append_right bs cs (length bs) i 0 refl (omega arith) ∙ sym (get_or_append_left cs bs 0 (i - length bs) (omega (arith, length-append bs cs))))
      ]
    where
      cancels : (a b : ℕ) → a + b - a ≡ b
      cancels a b = omega arith

  pub rotate_apart : (cs bs : List ℕ) → Apart N (cs ++ bs) → Apart N (bs ++ cs)
  rotate_apart cs bs far i j h j-in same =
      let size = length-append bs cs in
      let size' = length-append cs bs in
      ⊎_elim
      (λ a. ⊎_elim
      (λ b. far (length cs + i) (length cs + j) (omega arith) (omega (arith, b.0)) (ap N.from (sym a.1) ∙ same ∙ ap N.from b.1))
      (λ b. far (j - length bs) (length cs + i) (omega (arith, b.0)) (omega (arith, a.0)) (ap N.from (sym b.1) ∙ sym same ∙ ap N.from a.1))
      (place cs bs j j-in))
      (λ a. ⊎_elim
      (λ b. absurd (omega (arith, a.0, b.0)))
      (λ b. far (i - length bs) (j - length bs) (omega (arith, a.0, b.0)) (omega (arith, b.0)) (ap N.from (sym a.1) ∙ same ∙ ap N.from b.1))
      (place cs bs j j-in))
      (place cs bs i (omega arith))

  pub rotate : (x y : ℕ) (cs bs : List ℕ) → Walk N x cs y → Walk N y bs x → Loop N x (cs ++ bs) → Loop N y (bs ++ cs)
  rotate x y cs bs s t l = record {
    closed = record {
      walk = Walks.walk_join N ok y bs x cs y t s;
      some = let h = l.closed.some in rw (length-append bs cs) (omega (arith, rw (length-append cs bs) at h));
    };
    apart = rotate_apart cs bs l.apart;
  }

module _ {A : Type 0} (G : Ordered A) where
  pub rotate_sum : (w : ℕ → A) (cs bs : List ℕ) → sum G w (bs ++ cs) ≡ sum G w (cs ++ bs)
  rotate_sum w cs bs = Walks.sum_append G w bs cs ∙ G.comm _ _ ∙ sym (Walks.sum_append G w cs bs)
