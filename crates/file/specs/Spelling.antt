-- The words that spell given contents for measure m.
use Rattle.std.specs.Prelude.{◌≡◌, ℕ, suc, ◌+◌, ◌-◌, ◌*◌, ◌^◌, ◌<◌, ◌≤◌, List, [], ◌∷◌, ◌++◌, map, length, ℤ, pos, negsuc, IfSome, Some, None, Option}
use Rattle.network.specs.declared.Period.{Period}
use Rattle.network.specs.Networks.{PlainWait, wait_at, AllWithin}
use Rattle.file.specs.Words.{kind_bits}
use Rattle.file.specs.Columns.{Agrees}
use Rattle.file.specs.Contents.{Contents}

-- the 28 bits of a whole number by two's complement
abbrev pub place_bits : ℤ → ℕ
place_bits (pos n) = n
place_bits (negsuc n) = 2 ^ 28 - suc n

abbrev pub place_word : ℤ → ℕ
place_word z = 3 * 2 ^ 28 + place_bits z

-- a wait or a claim is one word and its places
abbrev pub wait_words : PlainWait → List ℕ
wait_words w = (2 * 2 ^ 28 + w.start * 2 ^ 12 + w.end) ∷ map place_word w.amount

abbrev pub waits_words : List PlainWait → List ℕ
waits_words [] = []
waits_words (w ∷ ws) = wait_words w ++ waits_words ws

abbrev pub claim_words : Option (Period (List ℤ)) → List ℕ
claim_words None = []
claim_words (Some p) = (4 * 2 ^ 28 + p.count) ∷ map place_word p.total

-- every word but the closing word
abbrev pub spelling : ℕ → Contents → List ℕ
spelling m c = (1 * 2 ^ 28 + m * 2 ^ 24 + c.events) ∷ (waits_words c.waits ++ claim_words c.claim)

-- a wait that a file for a measure of d places can hold, beside n events
pub record FileableWait (d n : ℕ) (w : PlainWait) : Type 0 where
  pub starts : w.start < n
  pub ends : w.end < n
  pub places : length w.amount ≡ d
  pub near : AllWithin 86400 w.amount

-- a claim, if there is one, that it can hold
pub record FileableClaim (d : ℕ) (p : Period (List ℤ)) : Type 0 where
  pub some : 1 ≤ p.count
  pub few : p.count ≤ 1000
  pub places : length p.total ≡ d
  pub near : AllWithin 86400000 p.total

-- contents that a file for measure m of d places can hold
pub record Fileable (m d : ℕ) (c : Contents) : Type 0 where
  pub measure : m < 16
  pub some : 1 ≤ c.events
  pub few : c.events ≤ 1000
  pub short : length c.waits ≤ 20000
  pub waits : (j : ℕ) → j < length c.waits → FileableWait d c.events (wait_at c.waits j)
  pub claim : IfSome c.claim (FileableClaim d)

-- the words are those that spell the contents, and a closing word whose columns agree with them
pub record Spelled (m : ℕ) (c : Contents) (ws : List ℕ) : Type 0 where
  pub closing : ℕ
  pub words : ws ≡ spelling m c ++ (closing ∷ [])
  pub kind : kind_bits closing ≡ 5
  pub agrees : Agrees (spelling m c) closing
