-- The orders of the given measures obey the four laws. The proofs stand here because each measure carries its own.
use Rattle.std.specs.Prelude.{◌≡◌, ℕ, zero, suc, Bool, true, false, cond, T, ◌⊎◌, ℤ, ◌+ℤ◌, ◌<ℤ◌, int_lt, refl}
use Rattle.std.proofs.Common.{sym, ap, ◌∙◌, inl, inr, ⊎_elim, arith}
use Rattle.std.proofs.lemmas.Int.{ints}
use Rattle.amount.specs.Rows.{Row, add_row, OrderLaws}
use Rattle.amount.specs.Orders.{lex_le, reverse_le}

-- how the first place decides: it is smaller, or it is equal and the rest decides
abbrev Split : (d : ℕ) → Row (suc d) → Row (suc d) → Type 0
Split d r s = (r.0 <ℤ s.0) ⊎ ((r.0 ≡ s.0) × T (lex_le d r.1 s.1))

split : (d : ℕ) (r s : Row (suc d)) → T (lex_le (suc d) r s) → Split d r s
split d r s = go (int_lt r.0 s.0) (int_lt s.0 r.0) refl refl
  where
    go : (a b : Bool) → int_lt r.0 s.0 ≡ a → int_lt s.0 r.0 ≡ b → T (cond a true (cond b false (lex_le d r.1 s.1))) → Split d r s
    go true b ea eb t = inl (omega (arith, ints))
    go false true ea eb t = absurd t
    go false false ea eb t = inr (omega (arith, ints), t)

joined : (d : ℕ) (r s : Row (suc d)) → Split d r s → T (lex_le (suc d) r s)
joined d r s (inl h) = let e : true ≡ int_lt r.0 s.0 = omega (arith, ints) in rw (← e) tt
joined d r s (inr h) =
    let eq = h.0 in
    let e : false ≡ int_lt r.0 s.0 = omega (arith, ints) in
    let f : false ≡ int_lt s.0 r.0 = omega (arith, ints) in
    rw (← e, ← f) h.1

three : (a b : ℤ) → (a <ℤ b) ⊎ ((a ≡ b) ⊎ (b <ℤ a))
three a b = go (int_lt a b) (int_lt b a) refl refl
  where
    go : (x y : Bool) → int_lt a b ≡ x → int_lt b a ≡ y → (a <ℤ b) ⊎ ((a ≡ b) ⊎ (b <ℤ a))
    go true y ex ey = inl (omega (arith, ints))
    go false true ex ey = inr (inr (omega (arith, ints)))
    go false false ex ey = inr (inl (omega (arith, ints)))

lex_total : (d : ℕ) (r s : Row d) → T (lex_le d r s) ⊎ T (lex_le d s r)
lex_total zero r s = inl tt
lex_total (suc d) r s = ⊎_elim (λ h. inl (joined d r s (inl h))) (⊎_elim (λ e. ⊎_elim (λ t. inl (joined d r s (inr (e, t)))) (λ t. inr (joined d s r (inr (sym e, t)))) (lex_total d r.1 s.1)) (λ h. inr (joined d s r (inl h)))) (three r.0 s.0)

lex_same : (d : ℕ) (r s : Row d) → T (lex_le d r s) → T (lex_le d s r) → r ≡ s
lex_same zero r s h k = refl
lex_same (suc d) r s h k =
    ⊎_elim
    (λ a. ⊎_elim (λ b. absurd (omega (arith, ints, a, b))) (λ b. let e = b.0 in absurd (omega (arith, ints, a, e))) (split d s r k))
    (λ a. ⊎_elim (λ b. let e = a.0 in absurd (omega (arith, ints, b, e))) (λ b. let p = lex_same d r.1 s.1 a.1 b.1 in λ i. (a.0 i, p i)) (split d s r k))
    (split d r s h)

both : (d : ℕ) (r s t : Row (suc d)) → (T (lex_le d r.1 s.1) → T (lex_le d s.1 t.1) → T (lex_le d r.1 t.1)) → Split d r s → Split d s t → Split d r t
both d r s t ih (inl a) (inl b) = inl (omega (arith, ints))
both d r s t ih (inl a) (inr b) = let e = b.0 in inl (omega (arith, ints))
both d r s t ih (inr a) (inl b) = let e = a.0 in inl (omega (arith, ints))
both d r s t ih (inr a) (inr b) = inr (a.0 ∙ b.0, ih a.1 b.1)

lex_trans : (d : ℕ) (r s t : Row d) → T (lex_le d r s) → T (lex_le d s t) → T (lex_le d r t)
lex_trans zero r s t h k = tt
lex_trans (suc d) r s t h k = joined d r t (both d r s t (lex_trans d r.1 s.1 t.1) (split d r s h) (split d s t k))

shifted : (d : ℕ) (r s t : Row (suc d)) → (T (lex_le d r.1 s.1) → T (lex_le d (add_row d r.1 t.1) (add_row d s.1 t.1))) → Split d r s → Split d (add_row (suc d) r t) (add_row (suc d) s t)
shifted d r s t ih (inl a) = inl (omega (arith, ints))
shifted d r s t ih (inr a) = inr (ap (λ x. x +ℤ t.0) a.0, ih a.1)

lex_shift : (d : ℕ) (r s t : Row d) → T (lex_le d r s) → T (lex_le d (add_row d r t) (add_row d s t))
lex_shift zero r s t h = tt
lex_shift (suc d) r s t h = joined d (add_row (suc d) r t) (add_row (suc d) s t) (shifted d r s t (lex_shift d r.1 s.1 t.1) (split d r s h))

pub lex_laws : (d : ℕ) → OrderLaws d (lex_le d)
lex_laws d = record { total = lex_total d; same = lex_same d; trans = lex_trans d; shift = lex_shift d }

-- an order turned round obeys them too
pub turned : {d : ℕ} {le : Row d → Row d → Bool} → OrderLaws d le → OrderLaws d (λ r s. le s r)
turned o = record { total = λ r s. o.total s r; same = λ r s h k. o.same r s k h; trans = λ r s t h k. o.trans t s r k h; shift = λ r s t. o.shift s r t }

abbrev pub reverse_laws : (d : ℕ) → OrderLaws d (reverse_le d)
reverse_laws d = turned (lex_laws d)
