-- When a run of bytes opens for measure m, whose rows have d places, and by which refusal it does not.
use Rattle.std.specs.Prelude.{◌≡◌, ℕ, ◌+◌, ◌%◌, ◌<◌, List, length, take, Ok, Err, Result, ◌≢◌}
use Rattle.file.specs.Words.{words_of, word_no}
use Rattle.file.specs.Columns.{Agrees}
use Rattle.file.specs.Layout.{fault_at, RightTo, ClosedAt}
use Rattle.file.specs.Contents.{Contents, contents}
use Rattle.file.specs.Spelling.{Fileable, Spelled}
use Rattle.file.specs.Faults.{told}
use Rattle.file.specs.declared.fault.FileFault.{FileFault}

-- the bytes are words, and at least one
pub record Whole (bs : List ℕ) : Type 0 where
  pub words : length bs % 4 ≡ 0
  pub some : 0 < length bs

-- the columns of word k agree with the words before it
abbrev pub Checked : List ℕ → ℕ → Type 0
Checked ws k = Agrees (take k ws) (word_no ws k)

-- the bytes keep the layout: every word is right, the last is the first closing word, and its columns agree
pub record Opens (m d : ℕ) (bs : List ℕ) : Type 0 where
  pub whole : Whole bs
  pub last : ℕ
  pub ends : last + 1 ≡ length (words_of bs)
  pub closed : ClosedAt m d (words_of bs) last
  pub checked : Checked (words_of bs) last

-- the bytes are refused by number x at place p
pub data Refused (m d : ℕ) (bs : List ℕ) (x p : ℕ) : Type 0 where
  -- they are no whole number of words, or none
  torn : (Whole bs → ⊥) → x ≡ 1 → p ≡ length bs → Refused m d bs x p
  -- word p is the first at fault, and comes before any closing word or is it
  faulty : Whole bs → RightTo m d (words_of bs) p → p < length (words_of bs) → x ≡ fault_at m d (words_of bs) p → (x ≢ 0) → Refused m d bs x p
  -- every word is right, and none is the closing word
  unclosed : Whole bs → RightTo m d (words_of bs) p → x ≡ 4 → p ≡ length (words_of bs) → Refused m d bs x p
  -- words follow the closing word k
  trailed : Whole bs → (k : ℕ) → ClosedAt m d (words_of bs) k → x ≡ 5 → p ≡ k + 1 → p < length (words_of bs) → Refused m d bs x p
  -- the closing word is the last word, and its columns disagree
  unchecked : Whole bs → ClosedAt m d (words_of bs) p → p + 1 ≡ length (words_of bs) → (Checked (words_of bs) p → ⊥) → x ≡ 6 → Refused m d bs x p

-- what these say together: what opens is not refused; a refusal is by one number at one place; and bytes open exactly when they
-- are whole words that spell contents which a file can hold, and those are then the contents
pub record Decided (m d : ℕ) (bs : List ℕ) : Type 0 where
  pub apart : (x p : ℕ) → Opens m d bs → Refused m d bs x p → ⊥
  pub single : (x p y q : ℕ) → Refused m d bs x p → Refused m d bs y q → (x ≡ y) × (p ≡ q)
  pub spelled : Opens m d bs → Fileable m d (contents d (words_of bs)) × Spelled m (contents d (words_of bs)) (words_of bs)
  pub opens : (c : Contents) → Whole bs → Fileable m d c → Spelled m c (words_of bs) → Opens m d bs × (contents d (words_of bs) ≡ c)

-- what opening answers: a value that stands for just what the words spell, if the bytes keep the layout, or else their refusal
abbrev pub Answered : {O : Type 0} → ℕ → ℕ → List ℕ → (O → Contents) → Result O FileFault → Type 0
Answered m d bs meaning (Ok o) = Opens m d bs × (meaning o ≡ contents d (words_of bs))
Answered m d bs meaning (Err f) = Refused m d bs (told f).number (told f).place
