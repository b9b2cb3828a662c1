-- The words of a file, and what the bits of a word say.
use Rattle.std.specs.Prelude.{ℕ, ◌+◌, ◌*◌, ◌/◌, ◌%◌, ◌^◌, cond, List, [], ◌∷◌, ℤ, pos, ◌-ℤ◌, nat_lt, slice_index}

-- the 32-bit words of a run of bytes, the high byte first; bytes left over at the end make no word
abbrev pub words_of : List ℕ → List ℕ
words_of [] = []
words_of (a ∷ []) = []
words_of (a ∷ (b ∷ [])) = []
words_of (a ∷ (b ∷ (c ∷ []))) = []
words_of (a ∷ (b ∷ (c ∷ (d ∷ rest)))) = (a * 16777216 + b * 65536 + c * 256 + d) ∷ words_of rest

-- word k; 0 past the end, where nothing asks for one
abbrev pub word_no : List ℕ → ℕ → ℕ
word_no ws k = slice_index ws k

-- the number in the bits from `low` up, `wide` of them
abbrev pub field : ℕ → ℕ → ℕ → ℕ
field w low wide = w / 2 ^ low % 2 ^ wide

-- the kind: the top four bits
abbrev pub kind_bits : ℕ → ℕ
kind_bits w = w / 2 ^ 28

-- bits 27-24, 23-12 and 11-0
abbrev pub upper : ℕ → ℕ
upper w = field w 24 4

abbrev pub middle : ℕ → ℕ
middle w = field w 12 12

abbrev pub lower : ℕ → ℕ
lower w = field w 0 12

-- a place: the low 28 bits, signed by two's complement
abbrev pub place_of : ℕ → ℤ
place_of w = cond (nat_lt (w % 2 ^ 28) (2 ^ 27)) (pos (w % 2 ^ 28)) (pos (w % 2 ^ 28) -ℤ pos (2 ^ 28))
