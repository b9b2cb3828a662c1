-- How far from zero what the engine computes with lies.
use Rattle.std.specs.Prelude.{ℕ}

-- an entry: a thousand waits at most, each in its span
abbrev pub entry_span : ℕ
entry_span = 86400000

-- a turn's total, the difference of two entries
abbrev pub turn_span : ℕ
turn_span = 172800000
