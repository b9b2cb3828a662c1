-- The text of a whole report.
use Rattle.std.specs.Prelude.{◌≡◌, ℕ, suc, cond, List, [], ◌∷◌, ◌++◌, map, ℤ, pos, Some, None, Option, ◌==◌}
use Rattle.amount.specs.Scales.{Scale}
use Rattle.network.specs.declared.Period.{Period}
use Rattle.network.specs.Networks.{Graph}
use Rattle.report.specs.declared.verdict.Verdict.{Verdict}
use Rattle.report.specs.Headways.{Headway}
use Rattle.report.specs.Lines.{places_of, starts_of, period_line, headway_line, loop_line, leaves_line, claim_line}

-- the first place of a row
abbrev pub first_of : List ℤ → ℤ
first_of [] = pos 0
first_of (z ∷ zs) = z

-- the rows that amounts stand for, each by its places
abbrev pub rows_of : {X : Type 0} → Scale X → List X → List (List ℤ)
rows_of m xs = map (places_of m) xs

-- a line for every departure, from event v on
abbrev pub leaves_lines : ℕ → List (List ℤ) → List ℕ
leaves_lines v [] = []
leaves_lines v (r ∷ rs) = leaves_line v r ++ leaves_lines (suc v) rs

-- the headway's line, which measure 3 has not
abbrev pub headway_text : ℕ → ℤ → List ℕ
headway_text number h = cond (number == 3) [] (headway_line h)

-- the claim's line, where there is a verdict
abbrev pub claim_text : Option Verdict → List ℕ
claim_text (Some v) = claim_line v
claim_text None = []

-- what a report shows: the number of the measure, the period's total by its places and its count,
-- the start events of the loop's waits, the departures by their places, and the verdict on a claim
pub record Content : Type 0 where
  pub number : ℕ
  pub total : List ℤ
  pub count : ℕ
  pub events : List ℕ
  pub departures : List (List ℤ)
  pub verdict : Option Verdict

abbrev pub content : ℕ → List ℤ → ℕ → List ℕ → List (List ℤ) → Option Verdict → Content
content number total count events departures verdict =
    record { number = number; total = total; count = count; events = events; departures = departures; verdict = verdict }

-- what it shows of a network in a measure: its period, the waits of its loop, and its departures
abbrev pub content_of : {X : Type 0} → Scale X → ℕ → Graph → Period X → List ℕ → List X → Option Verdict → Content
content_of m number g p waits departures verdict = content number (places_of m p.total) p.count (starts_of g.waits waits) (rows_of m departures) verdict

-- the report's text, with the headway h
abbrev pub report_text : Content → ℤ → List ℕ
report_text s h =
    period_line s.total s.count ++ (headway_text s.number h ++ (loop_line s.events ++ (leaves_lines 0 s.departures ++ claim_text s.verdict)))

-- these bytes are the report of s: its text with the headway of its period
pub record ReportOf (s : Content) (bytes : List ℕ) : Type 0 where
  pub h : ℤ
  pub headway : Headway (first_of s.total) s.count h
  pub text : bytes ≡ report_text s h
