-- What a right word shows in its role, and which words are right there.
use Rattle.std.proofs.Common.{◌≡◌, ℕ, ◌<◌, ◌≤◌, Bool, true, false, unsigned_abs, arith}
use Rattle.std.proofs.lemmas.Bool.Decides.{nat_tests}
use Rattle.std.proofs.lemmas.Int.{ints}
use Rattle.file.specs.Words.{kind_bits, field, upper, middle, lower, place_of}
use Rattle.file.specs.Layout.{heading, item, place, reach, beyond, fault_in}

-- the fields of a heading for measure m
abbrev pub HeadingFields : ℕ → ℕ → Type 0
HeadingFields m w = (kind_bits w ≡ 1) × (middle w ≡ 0) × (upper w ≡ m) × (1 ≤ lower w) × (lower w ≤ 1000)

pub heading_shows : (m n w : ℕ) → fault_in m n heading w ≡ 0 → HeadingFields m w
heading_shows m n w e = grind (arith, nat_tests)

pub heading_right : (m n w : ℕ) → HeadingFields m w → fault_in m n heading w ≡ 0
heading_right m n w h = grind (arith, nat_tests)

-- after a claim only the closing word is right
pub after_claim_lem : (m n j w : ℕ) → fault_in m n (item j true) w ≡ 0 → kind_bits w ≡ 5
after_claim_lem m n j w e = grind (arith, nat_tests)

-- the fields of the first word of wait j, beside n events
abbrev pub WaitFields : ℕ → ℕ → ℕ → Type 0
WaitFields n j w = (kind_bits w ≡ 2) × (upper w ≡ 0) × (j < 20000) × (middle w < n) × (lower w < n)

pub wait_shows : (m n j : ℕ) (c : Bool) (w : ℕ) → fault_in m n (item j c) w ≡ 0 → (kind_bits w ≡ 5 → ⊥) → (kind_bits w ≡ 4 → ⊥) → WaitFields n j w
wait_shows m n j true w e n5 n4 = absurd (n5 (after_claim_lem m n j w e))
wait_shows m n j false w e n5 n4 = grind (arith, nat_tests)

pub wait_right : (m n j w : ℕ) → WaitFields n j w → fault_in m n (item j false) w ≡ 0
wait_right m n j w h = grind (arith, nat_tests)

-- the fields of the first word of a claim
abbrev pub ClaimFields : ℕ → Type 0
ClaimFields w = (field w 12 16 ≡ 0) × (1 ≤ lower w) × (lower w ≤ 1000)

pub claim_shows : (m n j : ℕ) (c : Bool) (w : ℕ) → fault_in m n (item j c) w ≡ 0 → kind_bits w ≡ 4 → ClaimFields w
claim_shows m n j true w e k = let f = after_claim_lem m n j w e in absurd (let z : ⊥ = omega arith in z)
claim_shows m n j false w e k = grind (arith, nat_tests)

pub claim_right : (m n j w : ℕ) → kind_bits w ≡ 4 → ClaimFields w → fault_in m n (item j false) w ≡ 0
claim_right m n j w k h = grind (arith, nat_tests)

-- a place of a wait, or of a claim
abbrev pub PlaceFields : Bool → ℕ → Type 0
PlaceFields c w = (kind_bits w ≡ 3) × (beyond (reach (place c)) (place_of w) ≡ false)

pub place_shows : (m n : ℕ) (c : Bool) (w : ℕ) → fault_in m n (place c) w ≡ 0 → PlaceFields c w
place_shows m n true w e = grind (arith, nat_tests)
place_shows m n false w e = grind (arith, nat_tests)

pub place_right : (m n : ℕ) (c : Bool) (w : ℕ) → PlaceFields c w → fault_in m n (place c) w ≡ 0
place_right m n true w h = grind (arith, nat_tests)
place_right m n false w h = grind (arith, nat_tests)

-- by how far from zero it lies
pub place_within : (m n : ℕ) (c : Bool) (w : ℕ) → kind_bits w ≡ 3 → unsigned_abs (place_of w) ≤ reach (place c) → fault_in m n (place c) w ≡ 0
place_within m n true w k h = grind (arith, ints, nat_tests)
place_within m n false w k h = grind (arith, ints, nat_tests)

pub place_beyond : (m n : ℕ) (c : Bool) (w : ℕ) → kind_bits w ≡ 3 → reach (place c) < unsigned_abs (place_of w) → fault_in m n (place c) w ≡ 9
place_beyond m n true w k h = grind (arith, ints, nat_tests)
place_beyond m n false w k h = grind (arith, ints, nat_tests)

pub closing_right : (m n j : ℕ) (c : Bool) (w : ℕ) → kind_bits w ≡ 5 → fault_in m n (item j c) w ≡ 0
closing_right m n j true w k = grind (arith, nat_tests)
closing_right m n j false w k = grind (arith, nat_tests)
