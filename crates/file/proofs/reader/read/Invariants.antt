use Rattle.std.proofs.Common.{◌≡◌, length}
use Rattle.file.specs.Words.{words_of}
use Rattle.file.proofs.Steps.{CameTo}
use Rattle.file.proofs.reader.read.Given as goal

abbrev pub invariant-loop-at : goal.invariant-loop-at
invariant-loop-at l = (l.reader.measure ≡ l.measure) × (l.reader.places ≡ l.places) × CameTo (words_of l.bytes) (length l.yielded) l.reader
