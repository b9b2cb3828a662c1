-- Rows of whole numbers, and what an order of rows obeys.
use Rattle.std.specs.Prelude.{◌≡◌, ℕ, zero, suc, Bool, cond, T, ◌⊎◌, List, [], ◌∷◌, ℤ, pos, ◌+ℤ◌, ◌*ℤ◌, neg_ℤ, ◌≤ℤ◌, Some, None, Option, int_le}

-- a row of d whole numbers, its places
abbrev pub Row : ℕ → Type 0
Row zero = Unit {0}
Row (suc d) = ℤ × Row d

-- the places of a row as a list, in order
abbrev pub places : (d : ℕ) → Row d → List ℤ
places zero r = []
places (suc d) r = r.0 ∷ places d r.1

-- the row of the first d numbers of a list, with zeros where it ends early
abbrev pub row_of : (d : ℕ) → List ℤ → Row d
row_of zero xs = tt
row_of (suc d) [] = (pos 0, row_of d [])
row_of (suc d) (x ∷ xs) = (x, row_of d xs)

-- the row of zeros
abbrev pub zero_row : (d : ℕ) → Row d
zero_row zero = tt
zero_row (suc d) = (pos 0, zero_row d)

-- two rows added place by place
abbrev pub add_row : (d : ℕ) → Row d → Row d → Row d
add_row zero r s = tt
add_row (suc d) r s = (r.0 +ℤ s.0, add_row d r.1 s.1)

-- the row of the opposite numbers
abbrev pub neg_row : (d : ℕ) → Row d → Row d
neg_row zero r = tt
neg_row (suc d) r = (neg_ℤ r.0, neg_row d r.1)

-- a row taken k times
abbrev pub times_row : (d : ℕ) → ℕ → Row d → Row d
times_row zero k r = tt
times_row (suc d) k r = (pos k *ℤ r.0, times_row d k r.1)

-- every place lies within b of zero
abbrev pub Within : (d : ℕ) → ℕ → Row d → Type 0
Within zero b r = Unit {0}
Within (suc d) b r = (neg_ℤ (pos b) ≤ℤ r.0) × (r.0 ≤ℤ pos b) × Within d b r.1

-- the number, counted on from i, of the first of these numbers that does not lie within b of zero
abbrev pub first_beyond : ℕ → ℕ → List ℤ → Option ℕ
first_beyond b i [] = None
first_beyond b i (x ∷ xs) = cond (int_le (neg_ℤ (pos b)) x) (cond (int_le x (pos b)) (first_beyond b (suc i) xs) (Some i)) (Some i)

-- the four laws of an order of rows; `le r s` says that r is at most s
pub record OrderLaws (d : ℕ) (le : Row d → Row d → Bool) : Type 0 where
  -- of two rows one is at most the other
  pub total : (r s : Row d) → T (le r s) ⊎ T (le s r)
  -- two rows that are each at most the other are the same row
  pub same : (r s : Row d) → T (le r s) → T (le s r) → r ≡ s
  -- what is at most a row is at most every row above that one
  pub trans : (r s t : Row d) → T (le r s) → T (le s t) → T (le r t)
  -- adding one row to both sides keeps the order
  pub shift : (r s t : Row d) → T (le r s) → T (le (add_row d r t) (add_row d s t))
