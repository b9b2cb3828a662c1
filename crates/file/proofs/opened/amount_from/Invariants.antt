use Rattle.std.proofs.Common.{◌≡◌, take}
use Rattle.amount.specs.Rows.{places, row_of}
use Rattle.file.specs.Words.{words_of}
use Rattle.file.specs.Contents.{places_from}
use Rattle.file.proofs.opened.amount_from.Given as goal

abbrev pub invariant-loop-p : goal.invariant-loop-p
invariant-loop-p g l = take l.p l.places ≡ places l.p (row_of l.p (places_from l.count (words_of l.bytes) l.k))
