-- The waits that the words of a file spell are those of a network.
use Rattle.std.specs.Prelude.{◌≡◌, ℕ, ◌+◌, ◌<◌, Bool, true, false, cond, List, [], ◌∷◌, length, ℤ, pos, neg_ℤ, ◌≤ℤ◌, refl}
use Rattle.std.proofs.Common.{sym, subst, arith}
use Rattle.std.proofs.lemmas.Bool.Decides.{nat_tests}
use Rattle.std.proofs.lemmas.Int.{ints}
use Rattle.std.proofs.lemmas.List.FromFn.{length-map-range_with_len, get_or-map-range_with_len}
use Rattle.amount.specs.Spans.{span}
use Rattle.network.specs.Networks.{PlainWait, wait_at, AllWithin, graph, Sound}
use Rattle.file.specs.Layout.{base, beyond}
use Rattle.file.specs.Contents.{places_from, wait_in, first_waits}

-- what is not beyond b lies within b of zero
pub near : (b : ℕ) (z : ℤ) → beyond b z ≡ false → (neg_ℤ (pos b) ≤ℤ z) × (z ≤ℤ pos b)
near b z h = (grind (arith, ints, nat_tests), grind (arith, ints, nat_tests))

-- whether one of these numbers is beyond b
abbrev pub some_beyond : ℕ → List ℤ → Bool
some_beyond b [] = false
some_beyond b (x ∷ xs) = cond (beyond b x) true (some_beyond b xs)

pub within : (b : ℕ) (xs : List ℤ) → some_beyond b xs ≡ false → AllWithin b xs
within b [] h = tt
within b (x ∷ xs) h = go (beyond b x) refl (within b xs) h
  where
    go : (t : Bool) → beyond b x ≡ t → (some_beyond b xs ≡ false → AllWithin b xs) → cond t true (some_beyond b xs) ≡ false → AllWithin b (x ∷ xs)
    go true e rest q = let z : ◌≡◌ {A = ℕ} 0 1 = cc in absurd (omega arith)
    go false e rest q = let n = near b x e in (n.0, n.1, rest q)

module _ (d : ℕ) (ws : List ℕ) (n : ℕ) where
  pub waits_length : length (first_waits d ws n) ≡ n
  waits_length = length-map-range_with_len (wait_in d ws) 0 n

  pub waits_at : (e : ℕ) → e < n → wait_at (first_waits d ws n) e ≡ wait_in d ws e
  waits_at e h = get_or-map-range_with_len (wait_in d ws) 0 n e e (record { start = 0; end = 0; amount = [] }) h (omega arith)

  pub waits_sound : (events : ℕ) → ((j : ℕ) → j < n → (wait_in d ws j).start < events) → ((j : ℕ) → j < n → (wait_in d ws j).end < events)
      → ((j : ℕ) → j < n → some_beyond span (wait_in d ws j).amount ≡ false) → Sound (graph events (first_waits d ws n))
  waits_sound events starts ends spans = record {
    starts = λ e h. let l : e < n = omega (arith, waits_length) in subst (λ (w : PlainWait). w.start < events) (sym (waits_at e l)) (starts e l);
    ends = λ e h. let l : e < n = omega (arith, waits_length) in subst (λ (w : PlainWait). w.end < events) (sym (waits_at e l)) (ends e l);
    spans = λ e h. let l : e < n = omega (arith, waits_length) in subst (λ (w : PlainWait). AllWithin span w.amount) (sym (waits_at e l)) (within span (places_from d ws (base d e + 1)) (spans e l));
  }
