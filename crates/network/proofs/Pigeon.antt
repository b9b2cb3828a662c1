-- Of n + 1 numbers below n two are the same.
use Rattle.std.proofs.Common.{◌≡◌, ℕ, zero, suc, ◌<◌, ◌≤◌, ◌≢◌, ◌⊎◌, sym, refl, ap, ◌∙◌, inl, inr, ⊎_elim, arith}
use mathlib.Core.Logic.{dite}
use native.Mathlib.Decide.{ℕ_discrete}

-- some place below k has the value x, or none has
pub look : (f : ℕ → ℕ) (x k : ℕ) → ((i : ℕ) × (i < k) × (f i ≡ x)) ⊎ ((i : ℕ) → i < k → f i ≢ x)
look f x zero = inr (λ i h. absurd (omega arith))
look f x (suc k) =
    elim (look f x k) [
      | inl a ↦ inl (a.0, omega arith, a.2)
      | inr none ↦
          elim (ℕ_discrete (f k) x) [
            | yes e ↦ inl (k, omega arith, e)
            | no d ↦ inr (λ i h e. elim (ℕ_discrete i k) [ yes s ↦ d (ap f (sym s) ∙ e) | no s ↦ none i (omega arith) e ])
          ]
    ]

-- k itself gives way to x
put : ℕ → ℕ → ℕ → ℕ
put k x y = dite (ℕ_discrete y k) (λ _. x) (λ _. y)

put_case : (k x y : ℕ) → ((y ≡ k) × (put k x y ≡ x)) ⊎ ((y ≢ k) × (put k x y ≡ y))
unfolding put
put_case k x y = elim (ℕ_discrete y k) as (λ d. ((y ≡ k) × (dite d (λ _. x) (λ _. y) ≡ x)) ⊎ ((y ≢ k) × (dite d (λ _. x) (λ _. y) ≡ y))) [ yes e ↦ inl (e, refl) | no e ↦ inr (e, refl) ]

abbrev pub Twice : (ℕ → ℕ) → ℕ → Type 0
Twice f n = (i : ℕ) × (j : ℕ) × (i < j) × (j ≤ n) × (f i ≡ f j)

pub pigeon : (n : ℕ) (f : ℕ → ℕ) → ((i : ℕ) → i ≤ n → f i < n) → Twice f n
pigeon zero f below = absurd (omega (arith, below 0 (omega arith)))
pigeon (suc k) f below =
    elim (look f (f (suc k)) (suc k)) [
      | inl a ↦ (a.0, suc k, a.1, omega arith, a.2)
      | inr none ↦
          let g : ℕ → ℕ = λ i. put k (f (suc k)) (f i) in
          let small : (i : ℕ) → i ≤ k → g i < k = λ i h. ⊎_elim (λ c. omega (arith, c.0, c.1, none i (omega arith), below (suc k) (omega arith))) (λ c. omega (arith, c.0, c.1, below i (omega arith))) (put_case k (f (suc k)) (f i)) in
          let r = pigeon k g small in
          (r.0, r.1, r.2, omega arith, back none r)
    ]
  where
    back : ((i : ℕ) → i < suc k → f i ≢ f (suc k)) → (r : Twice (λ i. put k (f (suc k)) (f i)) k) → f r.0 ≡ f r.1
    back none r =
        let ni = none r.0 (omega (arith, r.2, r.3)) in
        let nj = none r.1 (omega (arith, r.2, r.3)) in
        let e = r.4 in
        ⊎_elim
        (λ c. ⊎_elim (λ d. c.0 ∙ sym d.0) (λ d. absurd (nj (sym d.1 ∙ sym e ∙ c.1))) (put_case k (f (suc k)) (f r.1)))
        (λ c. ⊎_elim (λ d. absurd (ni (sym c.1 ∙ e ∙ d.1))) (λ d. sym c.1 ∙ e ∙ d.1) (put_case k (f (suc k)) (f r.1)))
        (put_case k (f (suc k)) (f r.0))
