-- Rows and the lists of their places; lists of one and of two places, read and written place by place.
use Rattle.std.proofs.Common.{◌≡◌, ℕ, zero, suc, List, [], ◌∷◌, length, get_or, set, ℤ, pos, refl, arith}
use Rattle.amount.specs.Rows.{Row, places, row_of}

-- a list of d numbers is the list of its row's places
pub listed_row : (d : ℕ) (xs : List ℤ) → length xs ≡ d → places d (row_of d xs) ≡ xs
listed_row zero [] e = refl
listed_row zero (x ∷ xs) e = absurd (omega arith)
listed_row (suc d) [] e = absurd (omega arith)
listed_row (suc d) (x ∷ xs) e = let ih = listed_row d xs (omega arith) in cc

-- and a row is the row of its places
pub row_listed : (d : ℕ) (r : Row d) → row_of d (places d r) ≡ r
row_listed zero r = refl
row_listed (suc d) r = λ i. (r.0, row_listed d r.1 i)

pub listed_length : (d : ℕ) (r : Row d) → length (places d r) ≡ d
listed_length zero r = refl
listed_length (suc d) r = let ih = listed_length d r.1 in omega arith

-- one place: what is read, and what is written
pub one_read : (xs : List ℤ) → length xs ≡ 1 → get_or xs 0 (pos 0) ∷ [] ≡ xs
one_read [] e = absurd (omega arith)
one_read (x ∷ []) e = refl
one_read (x ∷ (y ∷ xs)) e = absurd (omega arith)

pub one_written : (xs : List ℤ) (z : ℤ) → length xs ≡ 1 → set xs 0 z ≡ z ∷ []
one_written [] z e = absurd (omega arith)
one_written (x ∷ []) z e = refl
one_written (x ∷ (y ∷ xs)) z e = absurd (omega arith)

-- two places: what is read, and what is written
pub two_read : (xs : List ℤ) → length xs ≡ 2 → get_or xs 0 (pos 0) ∷ (get_or xs 1 (pos 0) ∷ []) ≡ xs
two_read [] e = absurd (omega arith)
two_read (x ∷ []) e = absurd (omega arith)
two_read (x ∷ (y ∷ [])) e = refl
two_read (x ∷ (y ∷ (z ∷ xs))) e = absurd (omega arith)

pub two_written : (xs : List ℤ) (y z : ℤ) → length xs ≡ 2 → set (set xs 0 y) 1 z ≡ y ∷ (z ∷ [])
two_written [] y z e = absurd (omega arith)
two_written (a ∷ []) y z e = absurd (omega arith)
two_written (a ∷ (b ∷ [])) y z e = refl
two_written (a ∷ (b ∷ (c ∷ xs))) y z e = absurd (omega arith)
