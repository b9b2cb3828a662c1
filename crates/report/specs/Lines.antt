-- The bytes of each line of a report.
use Rattle.std.specs.Prelude.{ℕ, List, [], ◌∷◌, ◌++◌, map, ℤ, codes, decimal}
use Rattle.std.specs.Fmt.{signed_decimal}
use Rattle.std.specs.List.{flat_map}
use Rattle.amount.specs.Rows.{places}
use Rattle.amount.specs.Scales.{Scale}
use Rattle.refusal.specs.declared.Refusal.{Refusal}
use Rattle.refusal.specs.Texts.{refusal_text}
use Rattle.network.specs.Networks.{PlainWait, wait_at}
use Rattle.report.specs.declared.verdict.Verdict.{Verdict}
use Rattle.report.specs.declared.verdict.Verdict.TheVariants.{Right, Short, Long}

-- the places of the row that an amount stands for
abbrev pub places_of : {X : Type 0} → Scale X → X → List ℤ
places_of m x = places m.places (m.row x)

-- a further place of a row
abbrev pub next_place : ℤ → List ℕ
next_place z = codes "," ++ signed_decimal z

-- the places of a row, joined by commas
abbrev pub row_text : List ℤ → List ℕ
row_text [] = []
row_text (z ∷ zs) = signed_decimal z ++ flat_map next_place zs

-- a refusal, as it reads, on a line
abbrev pub refusal_line : Refusal → List ℕ
refusal_line r = refusal_text r ++ codes "\n"

-- the period: its total and its count
abbrev pub period_line : List ℤ → ℕ → List ℕ
period_line total count = codes "period " ++ (row_text total ++ (codes " / " ++ (decimal count ++ codes "\n")))

-- the headway
abbrev pub headway_line : ℤ → List ℕ
headway_line h = codes "headway " ++ (signed_decimal h ++ codes "\n")

-- a further event of a loop
abbrev pub next_event : ℕ → List ℕ
next_event v = codes " " ++ decimal v

-- the loop: the start events of its waits
abbrev pub loop_line : List ℕ → List ℕ
loop_line vs = codes "loop" ++ (flat_map next_event vs ++ codes "\n")

-- the start events of the waits of these numbers
abbrev pub starts_of : List PlainWait → List ℕ → List ℕ
starts_of ws es = map (λ e. (wait_at ws e).start) es

-- the departure of event v
abbrev pub leaves_line : ℕ → List ℤ → List ℕ
leaves_line v row = codes "leaves " ++ (decimal v ++ (codes " " ++ (row_text row ++ codes "\n")))

-- the word for a verdict
abbrev pub verdict_word : Verdict → List ℕ
verdict_word Right = codes "right"
verdict_word Short = codes "short"
verdict_word Long = codes "long"

-- the verdict on a claim
abbrev pub claim_line : Verdict → List ℕ
claim_line v = codes "claim " ++ (verdict_word v ++ codes "\n")
