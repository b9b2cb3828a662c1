-- What a write of one record leaves of a fact about the first records.
use Rattle.std.proofs.Common.{◌≡◌, ℕ, ◌+◌, ◌<◌, ◌≤◌, ◌≢◌, List, length, get_or, set, sym, subst, ⊎_elim, arith, get_or-set_other, get_or-set_same}
use Rattle.std.proofs.lemmas.Bool.{cases_eq}

-- each of the first n elements has the property P
abbrev pub First : {W : Type 0} → (W → Type 0) → ℕ → List W → Type 0
First {W} P n ws = (k : ℕ) (d : W) → k < n → P (get_or ws k d)

-- an element that has it is written at i, and every other of the first m was among the first n
pub first_set : {W : Type 0} (P : W → Type 0) (ws : List W) (n m i : ℕ) (w : W) → i < length ws → P w → ((k : ℕ) → k < m → (k ≡ i → ⊥) → k < n) → First P n ws → First P m (set ws i w)
first_set P ws n m i w in' here low below k d lt =
    ⊎_elim
    (λ e. subst (λ j. P (get_or (set ws i w) j d)) (sym e) (rw get_or-set_same here))
    (λ (ne : k ≢ i). rw get_or-set_other (below k d (low k lt ne)))
    (cases_eq k i)

-- one more at the end of those
pub first_push : {W : Type 0} (P : W → Type 0) (ws : List W) (n : ℕ) (w : W) → n < length ws → P w → First P n ws → First P (n + 1) (set ws n w)
first_push P ws n w in' here below = first_set P ws n (n + 1) n w in' here (λ k lt ne. omega arith) below

-- one of those written anew
pub first_put : {W : Type 0} (P : W → Type 0) (ws : List W) (n i : ℕ) (w : W) → i < n → n ≤ length ws → P w → First P n ws → First P n (set ws i w)
first_put P ws n i w lt le here below = first_set P ws n n i w (omega arith) here (λ k lt ne. lt) below
