-- The words of a run of bytes, by their numbers.
use Rattle.std.proofs.Common.{◌≡◌, ℕ, zero, suc, ◌+◌, ◌*◌, ◌/◌, ◌<◌, ◌≤◌, List, [], ◌∷◌, length, get_or, take, sym, refl, ap, ◌∙◌, arith}
use Rattle.std.specs.List.{enumerate_from}
use Rattle.std.proofs.lemmas.List.FromFn.{length-enumerate_from, get_or-enumerate_from}
use Rattle.file.specs.Words.{words_of, word_no}

-- four bytes on
past : (a b c d : ℕ) (xs : List ℕ) (i j : ℕ) → get_or (a ∷ (b ∷ (c ∷ (d ∷ xs)))) (4 * suc i + j) 0 ≡ get_or xs (4 * i + j) 0
past a b c d xs i j = ap (λ n. get_or (a ∷ (b ∷ (c ∷ (d ∷ xs)))) n 0) (let e : 4 * suc i + j ≡ suc (suc (suc (suc (4 * i + j)))) = omega arith in e)

past_first : (a b c d : ℕ) (xs : List ℕ) (i : ℕ) → get_or (a ∷ (b ∷ (c ∷ (d ∷ xs)))) (4 * suc i) 0 ≡ get_or xs (4 * i) 0
past_first a b c d xs i = ap (λ n. get_or (a ∷ (b ∷ (c ∷ (d ∷ xs)))) n 0) (let e : 4 * suc i ≡ suc (suc (suc (suc (4 * i)))) = omega arith in e)

-- word i is made of the four bytes from byte 4 × i on
pub word_bytes : (bs : List ℕ) (i : ℕ) → 4 * i + 4 ≤ length bs → word_no (words_of bs) i ≡ get_or bs (4 * i) 0 * 16777216 + get_or bs (4 * i + 1) 0 * 65536 + get_or bs (4 * i + 2) 0 * 256 + get_or bs (4 * i + 3) 0
word_bytes [] i h = absurd (let f : ⊥ = omega arith in f)
word_bytes (a ∷ []) i h = absurd (let f : ⊥ = omega arith in f)
word_bytes (a ∷ (b ∷ [])) i h = absurd (let f : ⊥ = omega arith in f)
word_bytes (a ∷ (b ∷ (c ∷ []))) i h = absurd (let f : ⊥ = omega arith in f)
word_bytes (a ∷ (b ∷ (c ∷ (d ∷ xs)))) zero h = refl
word_bytes (a ∷ (b ∷ (c ∷ (d ∷ xs)))) (suc i) h =
    word_bytes xs i (omega arith) ∙ sym (rw (past_first a b c d xs i, past a b c d xs i 1, past a b c d xs i 2, past a b c d xs i 3))

pub word_count : (bs : List ℕ) → length (words_of bs) ≡ length bs / 4
word_count [] = refl
word_count (a ∷ []) = refl
word_count (a ∷ (b ∷ [])) = refl
word_count (a ∷ (b ∷ (c ∷ []))) = refl
word_count (a ∷ (b ∷ (c ∷ (d ∷ xs)))) = omega (arith, word_count xs)

-- the words of the bytes before word k
pub words_before : (bs : List ℕ) (k : ℕ) → 4 * k ≤ length bs → words_of (take (4 * k) bs) ≡ take k (words_of bs)
words_before bs zero h = refl
words_before [] (suc k) h = absurd (let f : ⊥ = omega arith in f)
words_before (a ∷ []) (suc k) h = absurd (let f : ⊥ = omega arith in f)
words_before (a ∷ (b ∷ [])) (suc k) h = absurd (let f : ⊥ = omega arith in f)
words_before (a ∷ (b ∷ (c ∷ []))) (suc k) h = absurd (let f : ⊥ = omega arith in f)
words_before (a ∷ (b ∷ (c ∷ (d ∷ xs)))) (suc k) h =
    ap (λ n. words_of (take n (a ∷ (b ∷ (c ∷ (d ∷ xs)))))) (let e : 4 * suc k ≡ suc (suc (suc (suc (4 * k)))) = omega arith in e)
    ∙ ap (λ (ws : List ℕ). (a * 16777216 + b * 65536 + c * 256 + d) ∷ ws) (words_before xs k (omega arith))

-- item n of the words with their numbers
pub enumerated : (ws : List ℕ) (n k w : ℕ) → (n < length (enumerate_from 0 ws)) × ((k, w) ≡ get_or (enumerate_from 0 ws) n (k, w)) → (n < length ws) × (k ≡ n) × (w ≡ word_no ws n)
enumerated ws n k w h =
    let l : n < length ws = omega (arith, h.0, length-enumerate_from 0 ws) in
    let e = h.1 ∙ get_or-enumerate_from 0 ws n (k, w) l in
    (l, ap (λ p. p.0) e ∙ omega arith, ap (λ p. p.1) e ∙ same ws n l w)
  where
    same : (ws : List ℕ) (n : ℕ) → n < length ws → (d : ℕ) → get_or ws n d ≡ get_or ws n 0
    same [] n l d = absurd (let f : ⊥ = omega arith in f)
    same (x ∷ ws) zero l d = refl
    same (x ∷ ws) (suc n) l d = same ws n (omega arith) d
