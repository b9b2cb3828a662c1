-- The lines of a report are ASCII.
use Rattle.std.proofs.Common.{◌≡◌, ℕ, ◌<◌, Bool, true, false, cond, true≢false, nat_lt, ◌==◌, List, [], ◌∷◌, ◌++◌, ℤ, Some, None, Option, codes, IsAscii, refl, sym, subst, arith}
use Rattle.std.specs.Fmt.{signed_decimal}
use Rattle.std.proofs.lemmas.Str.Ascii.{IsAscii-nil, IsAscii-cons}
use Rattle.std.proofs.lemmas.Str.{IsAscii-append}
use Rattle.refusal.specs.declared.Layer.{Layer}
use Rattle.refusal.specs.declared.Layer.TheVariants.{File, Plan, Engine, Report}
use Rattle.refusal.specs.Texts.{layer_word}
use Rattle.report.specs.declared.verdict.Verdict.{Verdict}
use Rattle.report.specs.declared.verdict.Verdict.TheVariants.{Right, Short, Long}
use Rattle.report.specs.Lines.{headway_line, verdict_word}
use Rattle.report.specs.Reports.{headway_text, claim_text}

-- whether each byte is below 128
abbrev pub small : List ℕ → Bool
small [] = true
small (b ∷ bs) = cond (nat_lt b 128) (small bs) false

one_more : (b : ℕ) (bs : List ℕ) (t : Bool) → nat_lt b 128 ≡ t → (small bs ≡ true → IsAscii bs) → cond t (small bs) false ≡ true → IsAscii (b ∷ bs)
one_more b bs true l rest e = let below : b < 128 = grind arith in IsAscii-cons b bs below (rest e)
one_more b bs false l rest e = absurd (true≢false (sym e))

-- a text that is written out
pub literal : (bs : List ℕ) → small bs ≡ true → IsAscii bs
literal [] e = IsAscii-nil
literal (b ∷ bs) e = one_more b bs (nat_lt b 128) refl (literal bs) e

-- one text after another
pub joined : (t xs u : List ℕ) → IsAscii t → IsAscii xs → u ≡ t ++ xs → IsAscii u
joined t xs u a b e = subst IsAscii (sym e) (IsAscii-append t xs a b)

-- the same, of a piece that is written out
pub pushed : (t xs u : List ℕ) → u ≡ t ++ xs → IsAscii t → small xs ≡ true → IsAscii u
pushed t xs u e a s = joined t xs u a (literal xs s) e

pub layer_ascii : (layer : Layer) → IsAscii (layer_word layer)
layer_ascii File = literal (codes "file") refl
layer_ascii Plan = literal (codes "plan") refl
layer_ascii Engine = literal (codes "engine") refl
layer_ascii Report = literal (codes "report") refl

pub verdict_ascii : (v : Verdict) → IsAscii (verdict_word v)
verdict_ascii Right = literal (codes "right") refl
verdict_ascii Short = literal (codes "short") refl
verdict_ascii Long = literal (codes "long") refl

pub claim_ascii : (v : Option Verdict) → IsAscii (claim_text v)
claim_ascii None = IsAscii-nil
claim_ascii (Some v) = IsAscii-append (codes "claim ") (verdict_word v ++ codes "\n") (literal (codes "claim ") refl) (IsAscii-append (verdict_word v) (codes "\n") (verdict_ascii v) (literal (codes "\n") refl))

pub headway_ascii : (number : ℕ) (h : ℤ) → IsAscii (signed_decimal h) → IsAscii (headway_text number h)
headway_ascii number h a = by_cases (number == 3)
  where
    by_cases : (t : Bool) → IsAscii (cond t [] (headway_line h))
    by_cases true = IsAscii-nil
    by_cases false = IsAscii-append (codes "headway ") (signed_decimal h ++ codes "\n") (literal (codes "headway ") refl) (IsAscii-append (signed_decimal h) (codes "\n") a (literal (codes "\n") refl))
