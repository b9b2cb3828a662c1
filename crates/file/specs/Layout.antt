-- The layout of a file for a measure of d places: a heading, then items of one word and d places each, then the closing word.
-- An item is a wait or a claim, and after a claim only the closing word may come.
use Rattle.std.specs.Prelude.{◌≡◌, ℕ, zero, suc, ◌+◌, ◌*◌, ◌/◌, ◌%◌, ◌<◌, Bool, true, false, cond, not, List, [], ◌∷◌, ℤ, pos, neg_ℤ, ◌==◌, ◌≢◌, int_lt, nat_lt}
use Rattle.file.specs.Words.{word_no, kind_bits, field, upper, middle, lower, place_of}

-- the number of the word that item j begins with
abbrev pub base : ℕ → ℕ → ℕ
base d j = 1 + j * (1 + d)

-- whether item j is a claim
abbrev pub is_claim : ℕ → List ℕ → ℕ → Bool
is_claim d ws j = kind_bits (word_no ws (base d j)) == 4

-- whether the item before item j is a claim
abbrev pub after_claim : ℕ → List ℕ → ℕ → Bool
after_claim d ws zero = false
after_claim d ws (suc j) = is_claim d ws j

-- what a word is due to be by its position: the heading; the beginning of item j, where a claim may have come before; or
-- one of the places of an item, which may be a claim
pub data Role : Type 0 where
  heading : Role
  item : ℕ → Bool → Role
  place : Bool → Role

-- the role of the word that stands p words after the beginning of item j
abbrev pub in_item : ℕ → List ℕ → ℕ → ℕ → Role
in_item d ws j zero = item j (after_claim d ws j)
in_item d ws j (suc p) = place (is_claim d ws j)

-- the role of word k
abbrev pub role_at : ℕ → List ℕ → ℕ → Role
role_at d ws zero = heading
role_at d ws (suc k) = in_item d ws (k / (1 + d)) (k % (1 + d))

-- the kinds that a role allows: 1 heading, 2 wait, 3 place, 4 claim, 5 closing word
abbrev pub allowed : Role → ℕ → Bool
allowed heading k = k == 1
allowed (item j false) k = cond (k == 2) true (cond (k == 4) true (k == 5))
allowed (item j true) k = k == 5
allowed (place c) k = k == 3

-- the bits due to be zero in a word of kind k: 23-12 of a heading, 27-24 of a wait, 27-12 of a claim
abbrev pub spare : ℕ → ℕ → ℕ
spare k w = cond (k == 1) (middle w) (cond (k == 2) (upper w) (cond (k == 4) (field w 12 16) 0))

-- how many waits come before an item in this role
abbrev pub waits_before : Role → ℕ
waits_before heading = 0
waits_before (item j c) = j
waits_before (place c) = 0

-- a count is 1 to 1,000
abbrev pub bad_count : ℕ → Bool
bad_count c = cond (c == 0) true (nat_lt 1000 c)

-- how far from zero a place may lie: of a wait, and of a claim
abbrev pub reach : Role → ℕ
reach heading = 0
reach (item j c) = 0
reach (place false) = 86400
reach (place true) = 86400000

abbrev pub beyond : ℕ → ℤ → Bool
beyond b z = cond (int_lt z (neg_ℤ (pos b))) true (int_lt (pos b) z)

-- the number of the first test that finds a fault, or 0
abbrev pub first_of : List (Bool × ℕ) → ℕ
first_of [] = 0
first_of (t ∷ ts) = cond t.0 t.1 (first_of ts)

-- the number of the refusal that a word w of kind k earns in its role, or 0 if it is right.
-- m is the measure asked for, n the event count that the heading states
abbrev pub fault_of : ℕ → ℕ → Role → ℕ → ℕ → ℕ
fault_of m n r k w = first_of (
    (not (allowed r k), 2)
    ∷ ((not (spare k w == 0), 3)
    ∷ ((cond (k == 1) (not (upper w == m)) false, 7)
    ∷ ((cond (k == 2) (not (nat_lt (waits_before r) 20000)) false, 10)
    ∷ ((cond (k == 2) (cond (nat_lt (middle w) n) (not (nat_lt (lower w) n)) true) false, 8)
    ∷ ((cond (k == 1) (bad_count (lower w)) (cond (k == 4) (bad_count (lower w)) false), 15)
    ∷ ((cond (k == 3) (beyond (reach r) (place_of w)) false, 9)
    ∷ [])))))))

abbrev pub fault_in : ℕ → ℕ → Role → ℕ → ℕ
fault_in m n r w = fault_of m n r (kind_bits w) w

-- the event count that the heading states
abbrev pub stated_events : List ℕ → ℕ
stated_events ws = lower (word_no ws 0)

-- the number of the refusal that word k earns, or 0 if it is right
abbrev pub fault_at : ℕ → ℕ → List ℕ → ℕ → ℕ
fault_at m d ws k = fault_in m (stated_events ws) (role_at d ws k) (word_no ws k)

-- word k is right and is not the closing word
abbrev pub Right : ℕ → ℕ → List ℕ → ℕ → Type 0
Right m d ws k = (fault_at m d ws k ≡ 0) × (kind_bits (word_no ws k) ≢ 5)

-- so is every word before word k
abbrev pub RightTo : ℕ → ℕ → List ℕ → ℕ → Type 0
RightTo m d ws k = (i : ℕ) → i < k → Right m d ws i

-- the first closing word is word k, and no word up to it is at fault
pub record ClosedAt (m d : ℕ) (ws : List ℕ) (k : ℕ) : Type 0 where
  pub before : RightTo m d ws k
  pub right : fault_at m d ws k ≡ 0
  pub closing : kind_bits (word_no ws k) ≡ 5
