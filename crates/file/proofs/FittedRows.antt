-- Places read one by one, as the row of a measure.
use Rattle.std.proofs.Common.{◌≡◌, ℕ, zero, suc, ◌+◌, ◌<◌, ◌≤◌, List, [], ◌∷◌, ◌++◌, map, length, get_or, take, ℤ, pos, sym, refl, ap, ◌∙◌, ⊎_elim, arith}
use Rattle.std.specs.List.{range_with_len}
use Rattle.std.proofs.lemmas.List.FromFn.{length-map-range_with_len, get_or-map-range_with_len}
use Rattle.std.proofs.lemmas.List.{get_or_past}
use Rattle.std.proofs.lemmas.Bool.{cases_lt}
use Rattle.amount.specs.Rows.{places, row_of}
use Rattle.amount.proofs.PlaceLists.{listed_row}
use Rattle.file.specs.Words.{word_no, place_of}
use Rattle.file.specs.Layout.{base}
use Rattle.file.specs.Contents.{places_from, wait_in, first_waits, fitted_waits}

-- the first D numbers of an array that holds a list and then zeros
fitted_take : (D : ℕ) (ps xs : List ℤ) → D ≤ length ps → ((p : ℕ) → get_or ps p (pos 0) ≡ get_or xs p (pos 0)) → take D ps ≡ places D (row_of D xs)
fitted_take zero ps xs l h = refl
fitted_take (suc D) [] xs l h = absurd (let z : ⊥ = omega arith in z)
fitted_take (suc D) (y ∷ ps) [] l h =
    let a : y ≡ pos 0 = h 0 in
    let b : take D ps ≡ places D (row_of D []) = fitted_take D ps [] (omega arith) (λ p. h (suc p)) in
    cc
fitted_take (suc D) (y ∷ ps) (x ∷ xs) l h =
    let a : y ≡ x = h 0 in
    let b : take D ps ≡ places D (row_of D xs) = fitted_take D ps xs (omega arith) (λ p. h (suc p)) in
    cc

-- fitted to one place more, a list has its next number there, or zero where it has none
fitted_next : (D : ℕ) (xs : List ℤ) → places (suc D) (row_of (suc D) xs) ≡ places D (row_of D xs) ++ get_or xs D (pos 0) ∷ []
fitted_next zero [] = refl
fitted_next zero (x ∷ xs) = refl
fitted_next (suc D) [] = ap (λ ys. pos 0 ∷ ys) (fitted_next D [])
fitted_next (suc D) (x ∷ xs) = ap (λ ys. x ∷ ys) (fitted_next D xs)

pub fitted_more : (D n : ℕ) (xs : List ℤ) → n ≡ suc D → places n (row_of n xs) ≡ places D (row_of D xs) ++ get_or xs D (pos 0) ∷ []
fitted_more D n xs e = ap (λ n. places n (row_of n xs)) e ∙ fitted_next D xs

module _ (d : ℕ) (ws : List ℕ) (k : ℕ) where
  -- the numbers in the d places from word k on, and zero past their end
  pub place_at : (p : ℕ) → p < d → get_or (places_from d ws k) p (pos 0) ≡ place_of (word_no ws (k + p))
  place_at p h = get_or-map-range_with_len (λ p. place_of (word_no ws (k + p))) 0 d p p (pos 0) h (omega arith)

  pub place_past : (p : ℕ) → d ≤ p → get_or (places_from d ws k) p (pos 0) ≡ pos 0
  place_past p h = get_or_past (places_from d ws k) p (pos 0) (let e = length-map-range_with_len (λ p. place_of (word_no ws (k + p))) 0 d in omega arith)

  -- places fitted to their own number are the same
  pub fitted_same : places d (row_of d (places_from d ws k)) ≡ places_from d ws k
  fitted_same = listed_row d (places_from d ws k) (length-map-range_with_len (λ p. place_of (word_no ws (k + p))) 0 d)

-- an array that holds the d places from word k on, and then zeros
pub fitted_places : (D d : ℕ) (ws : List ℕ) (k : ℕ) (ps : List ℤ) → D ≤ length ps → ((q : ℕ) → q < d → get_or ps q (pos 0) ≡ place_of (word_no ws (k + q))) → ((q : ℕ) → d ≤ q → get_or ps q (pos 0) ≡ pos 0) → take D ps ≡ places D (row_of D (places_from d ws k))
fitted_places D d ws k ps l read rest = fitted_take D ps (places_from d ws k) l (λ q. ⊎_elim (λ h. read q h ∙ sym (place_at d ws k q h)) (λ h. rest q h ∙ sym (place_past d ws k q h)) (cases_lt q d))

-- so a file's waits stand for what is spelled, in a measure of as many places
pub waits_same : (D d : ℕ) (ws : List ℕ) (n : ℕ) → d ≡ D → fitted_waits D d ws n ≡ first_waits D ws n
waits_same D d ws n e =
    ap (λ d. fitted_waits D d ws n) e
    ∙ (λ i. map (λ j. record { start = (wait_in D ws j).start; end = (wait_in D ws j).end; amount = fitted_same D ws (base D j + 1) i }) (range_with_len 0 n))
