-- Rules over the numbers below a bound, from one computed test.
use Rattle.std.proofs.Common.{◌≡◌, ℕ, zero, suc, ◌<◌, Bool, true, false, not, T, eqb, subst, arith, T_not}
use native.Mathlib.Decide.{dec_lt}
use lib.Dec.{eqb_refl}

-- two tests, of which both pass
abbrev pub both : Bool → Bool → Bool
both true b = b
both false b = false

pub left : (a b : Bool) → T (both a b) → T a
left true b t = tt
left false b t = t

pub right : (a b : Bool) → T (both a b) → T b
right true b t = t
right false b t = absurd t

-- a test that passes at each number below n
abbrev pub each : (ℕ → Bool) → ℕ → Bool
each f zero = true
each f (suc n) = both (f n) (each f n)

pub at : (f : ℕ → Bool) (n : ℕ) → T (each f n) → (k : ℕ) → k < n → T (f k)
at f zero t k h = absurd (omega arith)
at f (suc n) t k h =
    elim (dec_lt k n) [
      | yes l ↦ at f n (right (f n) (each f n) t) k l
      | no l ↦ let e : n ≡ k = omega arith in subst (λ j. T (f j)) e (left (f n) (each f n) t)
    ]

-- numbers that the test tells apart are not the same
pub differ : (a b : ℕ) → T (not (eqb a b)) → ¬ (a ≡ b)
differ a b t e = T_not (eqb a b) t (subst (λ c. T (eqb a c)) e (eqb_refl a))
