-- Which text a report is: of a network, of a file, and in the space lent to the entry.
use Rattle.std.specs.Prelude.{◌≡◌, ℕ, zero, suc, ◌<◌, ◌≤◌, Bool, List, map, length, ℤ, pos, negsuc, Some, None, Option, Ok, Err, Result}
use Rattle.std.specs.List.{range_with_len}
use Rattle.refusal.specs.declared.Refusal.{Refusal}
use Rattle.refusal.specs.declared.Layer.TheVariants.{Report}
use Rattle.amount.specs.Rows.{Row, places, row_of, OrderLaws}
use Rattle.amount.specs.Lawful.{lex_laws, reverse_laws}
use Rattle.amount.specs.Groups.{row_group}
use Rattle.network.specs.declared.Period.{Period}
use Rattle.network.specs.Networks.{Graph, graph}
use Rattle.network.specs.Walks.{net, NoClosed}
use Rattle.network.specs.Walks.{Period as IsPeriod}
use Rattle.engine.specs.Faults.{told}
use Rattle.engine.specs.declared.EngineFault.TheVariants.{NoLoop}
use Rattle.file.specs.Words.{words_of}
use Rattle.file.specs.Contents.{contents, named_measure}
use Rattle.file.specs.Opening.{Opens, Refused}
use Rattle.file.specs.Faults.{told as file_told}
use Rattle.file.specs.declared.fault.FileFault.{FileFault}
use Rattle.report.specs.declared.verdict.Verdict.{Verdict}
use Rattle.report.specs.Verdicts.{Judged}
use Rattle.report.specs.Writing.{Written}
use Rattle.report.specs.Lines.{refusal_line, starts_of}
use Rattle.report.specs.Reports.{content, ReportOf}

-- refused as too big, with the number that is
abbrev pub too_big : ℕ → Refusal
too_big n = record { number = 14; layer = Report; place = n }

-- what is printed of a report: its text, which its page then has, or the line of its refusal
abbrev pub text_of : List ℕ → Result (Unit {0}) Refusal → List ℕ
text_of page (Ok done) = page
text_of page (Err refusal) = refusal_line refusal

module _ {d : ℕ} {le : Row d → Row d → Bool} (order : OrderLaws d le) where
  -- there is a verdict on the period p over q exactly where there is a claim, and it is right
  abbrev pub VerdictOn : Row d → ℕ → Option (Period (List ℤ)) → Option Verdict → Type 0
  VerdictOn p q None None = Unit {0}
  VerdictOn p q None (Some v) = ⊥
  VerdictOn p q (Some c) None = ⊥
  VerdictOn p q (Some c) (Some v) = Judged (row_group order) p q (row_of d c.total) c.count v

  -- t is the report of a period, a loop and departures that are right for this network, in the measure of this number, with
  -- the verdict on the claim
  pub record Solution (number : ℕ) (g : Graph) (claim : Option (Period (List ℤ))) (t : List ℕ) : Type 0 where
    pub p : Row d
    pub q : ℕ
    pub loop : List ℕ
    pub departure : ℕ → Row d
    pub verdict : Option Verdict
    pub right : IsPeriod (row_group order) (net d g) p q loop departure
    pub judged : VerdictOn p q claim verdict
    pub report : ReportOf (content number (places d p) q (starts_of g.waits loop) (map (λ v. places d (departure v)) (range_with_len 0 g.events)) verdict) t

  -- the text of the report on a network and a claim: too big, without a loop, or solved
  pub data NetworkText (number : ℕ) (g : Graph) (claim : Option (Period (List ℤ))) (t : List ℕ) : Type 0 where
    big : 60 < g.events → t ≡ refusal_line (too_big g.events) → NetworkText number g claim t
    loopless : g.events ≤ 60 → NoClosed (net d g) → t ≡ refusal_line (told (NoLoop g.events)) → NetworkText number g claim t
    solved : g.events ≤ 60 → Solution number g claim t → NetworkText number g claim t

  -- the text of the report on the bytes of a file, opened for the measure of this number: the file's refusal, or the report on
  -- what its words spell
  pub data OpenedText (number : ℕ) (bytes t : List ℕ) : Type 0 where
    refused : (f : FileFault) → Refused number d bytes (file_told f).number (file_told f).place → t ≡ refusal_line (file_told f) → OpenedText number bytes t
    opened : Opens number d bytes → NetworkText number (graph (contents d (words_of bytes)).events (contents d (words_of bytes)).waits) (contents d (words_of bytes)).claim t → OpenedText number bytes t

-- the text of the report on the bytes of a file in measure 1, 2 or 3; in any other as in measure 1
abbrev pub MeasuredText : ℕ → List ℕ → List ℕ → Type 0
MeasuredText zero = OpenedText (lex_laws 1) 1
MeasuredText (suc zero) = OpenedText (lex_laws 1) 1
MeasuredText (suc (suc zero)) = OpenedText (lex_laws 2) 2
MeasuredText (suc (suc (suc zero))) = OpenedText (reverse_laws 1) 3
MeasuredText (suc (suc (suc (suc m)))) = OpenedText (lex_laws 1) 1

-- the measure that the first word names; measure 1 if there is no word
abbrev pub measure_of : Option ℕ → ℕ
measure_of None = 1
measure_of (Some m) = m

-- the text of the report on the bytes of a file: too big, or read in the measure that it names
pub data FileText (bytes t : List ℕ) : Type 0 where
  long : 60000 < length bytes → t ≡ refusal_line (too_big 60000) → FileText bytes t
  read : length bytes ≤ 60000 → MeasuredText (measure_of (named_measure (words_of bytes))) bytes t → FileText bytes t

-- what the entry answers and leaves in the text space, for the bytes of a file
pub record Reported (file old new : List ℕ) (answer : ℤ) : Type 0 where
  -- in a space below 4,096 bytes nothing is written, and the answer is -17
  pub small : length old < 4096 → (answer ≡ negsuc 16) × (new ≡ old)
  -- else the report's text is written from the front on, the rest stays, and the answer is how many bytes the text has
  pub large : 4096 ≤ length old → (n : ℕ) × (answer ≡ pos n) × Written (FileText file) old new n
