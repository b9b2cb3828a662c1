-- What is printed where there is no report.
use Rattle.std.proofs.Common.{◌≡◌, ℕ, List, Ok, Err, Result, ap}
use Rattle.std.specs.Result.{IsErrAnd}
use Rattle.refusal.specs.declared.Refusal.{Refusal}
use Rattle.report.specs.Lines.{refusal_line}
use Rattle.report.specs.Reported.{text_of}

pub declined_text : (page : List ℕ) (r : Result (Unit {0}) Refusal) (x : Refusal) → IsErrAnd r (λ e. e ≡ x) → text_of page r ≡ refusal_line x
declined_text page (Ok done) x h = absurd h
declined_text page (Err refusal) x h = ap refusal_line h
