-- The kinds of words by their numbers.
use Rattle.std.specs.Prelude.{◌≡◌, ℕ, ◌≢◌, Result, Ok, Err}
use Rattle.file.specs.Words.{kind_bits}
use Rattle.file.specs.declared.kind.Kind.{Kind}
use Rattle.file.specs.declared.kind.Kind.TheVariants.{Heading, Wait, Place, Claim, Closing}
use Rattle.file.specs.declared.kind.NoKind.{NoKind}

abbrev pub number_of : Kind → ℕ
number_of Heading = 1
number_of Wait = 2
number_of Place = 3
number_of Claim = 4
number_of Closing = 5

-- a word has the number of the kind found; where none is found, its number is that of no kind
abbrev pub HasKind : ℕ → Result Kind NoKind → Type 0
HasKind w (Ok k) = kind_bits w ≡ number_of k
HasKind w (Err e) = (kind_bits w ≢ 1) × (kind_bits w ≢ 2) × (kind_bits w ≢ 3) × (kind_bits w ≢ 4) × (kind_bits w ≢ 5)
