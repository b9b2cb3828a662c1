-- How far from zero the places of a result lie.
use Rattle.std.proofs.Common.{◌≡◌, ℕ, zero, suc, ◌+◌, ◌≤◌, Bool, true, false, cond, T, pos, neg_ℤ, Some, None, sym, refl, subst, arith}
use lib.Signed.{le_z, le_z_yes}
use Rattle.std.proofs.lemmas.Int.{ints}
use Rattle.amount.specs.Rows.{Row, zero_row, add_row, neg_row, Within, places, first_beyond}

pub within_zero : (d b : ℕ) → Within d b (zero_row d)
within_zero zero b = tt
within_zero (suc d) b = (omega (arith, ints), omega (arith, ints), within_zero d b)

pub within_more : (d a b : ℕ) (r : Row d) → a ≤ b → Within d a r → Within d b r
within_more zero a b r l h = tt
within_more (suc d) a b r l h = (omega (arith, ints, h.0), omega (arith, ints, h.1), within_more d a b r.1 l h.2)

pub within_add : (d a b : ℕ) (r s : Row d) → Within d a r → Within d b s → Within d (a + b) (add_row d r s)
within_add zero a b r s h k = tt
within_add (suc d) a b r s h k = (omega (arith, ints, h.0, k.0), omega (arith, ints, h.1, k.1), within_add d a b r.1 s.1 h.2 k.2)

pub within_neg : (d b : ℕ) (r : Row d) → Within d b r → Within d b (neg_row d r)
within_neg zero b r h = tt
within_neg (suc d) b r h = (omega (arith, ints, h.1), omega (arith, ints, h.0), within_neg d b r.1 h.2)

-- a row without a place beyond b lies within b
pub within_from_none : (d b i : ℕ) (r : Row d) → first_beyond b i (places d r) ≡ None → Within d b r
within_from_none zero b i r e = tt
within_from_none (suc d) b i r e = go (le_z (neg_ℤ (pos b)) r.0) (le_z r.0 (pos b)) refl refl (within_from_none d b (suc i) r.1) e
  where
    go : (l h : Bool) → le_z (neg_ℤ (pos b)) r.0 ≡ l → le_z r.0 (pos b) ≡ h → (first_beyond b (suc i) (places d r.1) ≡ None → Within d b r.1)
        → cond l (cond h (first_beyond b (suc i) (places d r.1)) (Some i)) (Some i) ≡ None → Within (suc d) b r
    go true true p q rest e = (le_z_yes (subst T (sym p) tt), le_z_yes (subst T (sym q) tt), rest e)
    go true false p q rest e = let z : ◌≡◌ {A = ℕ} 0 1 = cc in absurd (omega arith)
    go false h p q rest e = let z : ◌≡◌ {A = ℕ} 0 1 = cc in absurd (omega arith)
