-- Multiples of a whole number by a count.
use Rattle.std.proofs.Common.{◌≡◌, ℕ, suc, ◌*◌, ◌<◌, ◌≤◌, ℤ, pos, negsuc, ◌+ℤ◌, ◌*ℤ◌, ◌≤ℤ◌, ◌<ℤ◌, ap, ◌∙◌, mul-le-mul_left, arith}
use lib.IntN.{suc_ℤ, *ℤ_comm, suc_ℤ-*ℤ, +ℤ_one, pos-*ℤ-pos, pos-*ℤ-negsuc}
use Rattle.std.proofs.lemmas.Int.{ints, by_lt_z}

-- one more of q adds the count
pub times_up : (c : ℕ) (q : ℤ) → pos c *ℤ (q +ℤ pos 1) ≡ (pos c *ℤ q) +ℤ pos c
times_up c q = ap (λ x. pos c *ℤ x) (+ℤ_one q) ∙ *ℤ_comm (pos c) (suc_ℤ q) ∙ suc_ℤ-*ℤ q (pos c) ∙ ap (λ x. x +ℤ pos c) (*ℤ_comm q (pos c))

-- multiples by a count keep the order
times_mono : (c : ℕ) (a b : ℤ) → a ≤ℤ b → (pos c *ℤ a) ≤ℤ (pos c *ℤ b)
times_mono c (pos a) (pos b) h = rw (pos-*ℤ-pos c a, pos-*ℤ-pos c b) (let g : a ≤ b = omega (arith, ints) in let k : c * a ≤ c * b = mul-le-mul_left c g in omega (arith, ints))
times_mono c (pos a) (negsuc b) h = omega (arith, ints)
times_mono c (negsuc a) (pos b) h = rw (pos-*ℤ-negsuc c a, pos-*ℤ-pos c b) (omega (arith, ints))
times_mono c (negsuc a) (negsuc b) h = rw (pos-*ℤ-negsuc c a, pos-*ℤ-negsuc c b) (let g : suc b ≤ suc a = omega (arith, ints) in let k : c * suc b ≤ c * suc a = mul-le-mul_left c g in omega (arith, ints))

-- where c × q is below the total, each h with total ≤ c × h is above q
pub above : (t q : ℤ) (c : ℕ) → (pos c *ℤ q) <ℤ t → (h : ℤ) → t ≤ℤ (pos c *ℤ h) → (q +ℤ pos 1) ≤ℤ h
above t q c lt h le =
    by_lt_z q h (λ k. omega (arith, ints)) (λ k. let m = times_mono c h q k in omega (arith, ints))

-- where c × q is the total, each h with total ≤ c × h is at least q
pub at_least : (t q : ℤ) (c : ℕ) → t ≡ (pos c *ℤ q) → 0 < c → (h : ℤ) → t ≤ℤ (pos c *ℤ h) → q ≤ℤ h
at_least t q c e p h le =
    by_lt_z h q
    (λ k. let s : (h +ℤ pos 1) ≤ℤ q = omega (arith, ints) in let m = times_mono c (h +ℤ pos 1) q s in let u = times_up c h in omega (arith, ints))
    (λ k. k)
