-- The ones of a column, word by word.
use Rattle.std.proofs.Common.{◌≡◌, ℕ, ◌+◌, ◌/◌, ◌%◌, ◌^◌, List, [], ◌∷◌, ◌++◌, bit_xor, sym, ap, ◌∙◌, add_assoc, zero-add, arith}
use Rattle.std.proofs.lemmas.Nat.Bits.{bit_at_xor, bit_at_lowest}
use Rattle.file.specs.Columns.{bit, ones_in}

-- of words one list after another
ones_joined : (c : ℕ) (xs ys : List ℕ) → ones_in c (xs ++ ys) ≡ ones_in c xs + ones_in c ys
ones_joined c [] ys = sym (zero-add (ones_in c ys))
ones_joined c (x ∷ xs) ys = ap (λ n. bit c x + n) (ones_joined c xs ys) ∙ sym (add_assoc (bit c x) (ones_in c xs) (ones_in c ys))

-- one word more
pub ones_push : (c : ℕ) (ws : List ℕ) (w : ℕ) → ones_in c (ws ++ w ∷ []) ≡ ones_in c ws + bit c w
ones_push c ws w = ones_joined c ws (w ∷ []) ∙ omega arith

-- one word more turns the parity of a column where it has a 1
pub parity_push : (c : ℕ) (ws : List ℕ) (w odd : ℕ) → odd % 2 ≡ ones_in c ws % 2 → bit_xor odd (w / 2 ^ c) % 2 ≡ ones_in c (ws ++ w ∷ []) % 2
parity_push c ws w odd h =
    let b = w / 2 ^ c in
    omega (arith, h, ones_push c ws w, bit_at_xor odd b 0, bit_at_lowest (bit_xor odd b), bit_at_lowest odd, bit_at_lowest b)
