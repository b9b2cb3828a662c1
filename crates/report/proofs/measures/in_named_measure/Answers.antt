use Rattle.std.proofs.Common.{◌≡◌, ◌≢◌, ℕ, zero, suc, List, Some, None, Option, Ok, Err, Result, unwrap_or, sym, refl, ap, ◌∙◌, subst, arith}
use Rattle.std.specs.Result.{result_unwrap_or}
use Rattle.amount.specs.Lawful.{lex_laws, reverse_laws}
use Rattle.amount.specs.declared.filed.FiledMeasure.{FiledMeasure}
use Rattle.amount.specs.declared.filed.FiledMeasure.TheVariants.{Seconds, SecondsMetres, ReversedSeconds}
use Rattle.amount.specs.declared.filed.UnknownMeasure.{UnknownMeasure}
use Rattle.amount.specs.Measures.{Numbered}
use Rattle.report.specs.Reported.{measure_of, MeasuredText, OpenedText}
use Rattle.report.proofs.measures.in_named_measure.Goals as goal

-- the text of the report in one of the three measures
abbrev TextIn : FiledMeasure → List ℕ → List ℕ → Type 0
TextIn Seconds = OpenedText (lex_laws 1) 1
TextIn SecondsMetres = OpenedText (lex_laws 2) 2
TextIn ReversedSeconds = OpenedText (reverse_laws 1) 3

-- that of the number n, where it is seconds, or none of the three
in_seconds : (n : ℕ) (bytes t : List ℕ) → n ≢ 2 → n ≢ 3 → TextIn Seconds bytes t → MeasuredText n bytes t
in_seconds zero bytes t a b h = h
in_seconds (suc zero) bytes t a b h = h
in_seconds (suc (suc zero)) bytes t a b h = absurd (a (omega arith))
in_seconds (suc (suc (suc zero))) bytes t a b h = absurd (b (omega arith))
in_seconds (suc (suc (suc (suc m)))) bytes t a b h = h

in_numbered : (n : ℕ) (r : Result FiledMeasure UnknownMeasure) (bytes t : List ℕ) → Numbered n r → TextIn (result_unwrap_or r Seconds) bytes t → MeasuredText n bytes t
in_numbered n (Ok Seconds) bytes t e h = in_seconds n bytes t (λ f. omega arith) (λ f. omega arith) h
in_numbered n (Ok SecondsMetres) bytes t e h = subst (λ i. MeasuredText i bytes t) (sym e) h
in_numbered n (Ok ReversedSeconds) bytes t e h = subst (λ i. MeasuredText i bytes t) (sym e) h
in_numbered n (Err f) bytes t e h = in_seconds n bytes t e.1 e.2 h

-- a heading that names no measure is read as number 1
read_number : (named : Option ℕ) → unwrap_or named 1 ≡ measure_of named
read_number None = refl
read_number (Some n) = refl

-- that of the measure k, read as number n, in the words of the heading
in_named : (named read : Option ℕ) (n : ℕ) (r : Result FiledMeasure UnknownMeasure) (k : FiledMeasure) (bytes t : List ℕ)
    → read ≡ named → n ≡ unwrap_or read 1 → Numbered n r → k ≡ result_unwrap_or r Seconds → TextIn k bytes t → MeasuredText (measure_of named) bytes t
in_named named read n r k bytes t e f s m h =
    subst (λ i. MeasuredText i bytes t) (f ∙ ap (λ o. unwrap_or o 1) e ∙ read_number named) (in_numbered n r bytes t s (subst (λ j. TextIn j bytes t) m h))

pub returns-in-Seconds : goal.returns-in-Seconds
returns-in-Seconds c = in_named _ _ _ c.try_from.result Seconds _ _ c.named_measure.ensures c.unwrap_or-number.ensures c.try_from.ensures c.in-Seconds.ensures c.in_measure.ensures

pub returns-in-SecondsMetres : goal.returns-in-SecondsMetres
returns-in-SecondsMetres c = in_named _ _ _ c.try_from.result SecondsMetres _ _ c.named_measure.ensures c.unwrap_or-number.ensures c.try_from.ensures c.in-SecondsMetres.ensures c.in_measure-in-SecondsMetres.ensures

pub returns-in-ReversedSeconds : goal.returns-in-ReversedSeconds
returns-in-ReversedSeconds c = in_named _ _ _ c.try_from.result ReversedSeconds _ _ c.named_measure.ensures c.unwrap_or-number.ensures c.try_from.ensures c.in-ReversedSeconds.ensures c.in_measure-in-ReversedSeconds.ensures
