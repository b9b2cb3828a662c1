-- The numbers of the measures in a file's heading.
use Rattle.std.specs.Prelude.{◌≡◌, ◌≢◌, ℕ, Ok, Err, Result}
use Rattle.amount.specs.declared.filed.FiledMeasure.{FiledMeasure}
use Rattle.amount.specs.declared.filed.FiledMeasure.TheVariants.{Seconds, SecondsMetres, ReversedSeconds}
use Rattle.amount.specs.declared.filed.UnknownMeasure.{UnknownMeasure}

-- the measure of a number, or that there is none and the number
abbrev pub Numbered : ℕ → Result FiledMeasure UnknownMeasure → Type 0
Numbered n (Ok Seconds) = n ≡ 1
Numbered n (Ok SecondsMetres) = n ≡ 2
Numbered n (Ok ReversedSeconds) = n ≡ 3
Numbered n (Err e) = (n ≢ 1) × (n ≢ 2) × (n ≢ 3) × (e.0 ≡ n)
