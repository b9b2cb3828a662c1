use Rattle.std.proofs.Common.{◌≡◌, ℕ, T, sym, ap, ◌∙◌, subst, arith}
use Rattle.std.specs.Cmp.{IsTotalOrder}
use Rattle.std.specs.declared.cmp.Ordering.{Ordering}
use Rattle.std.specs.declared.cmp.Ordering.TheVariants.{Less, Equal, Greater}
use Rattle.std.specs.Ordering.{is_le, ordering_reverse}
use Rattle.amount.specs.Scales.{Scale, Compares, many_of}
use Rattle.amount.specs.Groups.{row_group, times}
use Rattle.amount.proofs.Multiples.{times_row_lem}
use Rattle.engine.proofs.Reading.{can_take}
use Rattle.report.specs.declared.verdict.Verdict.{Verdict}
use Rattle.report.specs.declared.verdict.Verdict.TheVariants.{Right, Short, Long}
use Rattle.report.specs.Verdicts.{Judged}
use Rattle.report.proofs.verdict.judge.Goals as goal

pub mul-shown-requires : goal.mul-shown-requires
mul-shown-requires g c = g.met.X.Measure.multiplies.can _ _ (can_take g.X.Scaled.scale _ 86400000 _ c.requires.claimed.few (omega arith) c.requires.shown.near)

pub mul-claimed-requires : goal.mul-claimed-requires
mul-claimed-requires g c = g.met.X.Measure.multiplies.can _ _ (can_take g.X.Scaled.scale _ 86400000 _ c.requires.shown.few (omega arith) c.requires.claimed.near)

-- the verdict by what `cmp` answers
abbrev verdict_by : Ordering → Verdict
verdict_by Less = Long
verdict_by Equal = Right
verdict_by Greater = Short

-- the total p taken c times and the claimed total t taken q times compare as the means do
module _ {X : Type 0} (m : Scale X) {cmp : X → X → Ordering} (total : IsTotalOrder cmp) (compares : Compares m cmp) (p t : X) (q c : ℕ) (shown claimed : X) (first : m.row shown ≡ many_of m p c) (second : m.row claimed ≡ many_of m t q) where
  below : is_le (cmp shown claimed) ≡ m.at_most (times (row_group m.order) c (m.row p)) (times (row_group m.order) q (m.row t))
  below = compares shown claimed ∙ (λ i. m.at_most ((first ∙ times_row_lem m.order c (m.row p)) i) ((second ∙ times_row_lem m.order q (m.row t)) i))

  above : is_le (ordering_reverse (cmp shown claimed)) ≡ m.at_most (times (row_group m.order) q (m.row t)) (times (row_group m.order) c (m.row p))
  above = sym (ap is_le (total.antisymm claimed shown)) ∙ compares claimed shown ∙ (λ i. m.at_most ((second ∙ times_row_lem m.order q (m.row t)) i) ((first ∙ times_row_lem m.order c (m.row p)) i))

  judged : (o : Ordering) → cmp shown claimed ≡ o → Judged (row_group m.order) (m.row p) q (m.row t) c (verdict_by o)
  judged Less e = λ h. subst T (sym above ∙ ap (λ x. is_le (ordering_reverse x)) e) h
  judged Equal e = m.order.same _ _ (subst T (sym (ap (λ x. is_le (ordering_reverse x)) e) ∙ above) tt) (subst T (sym (ap is_le e) ∙ below) tt)
  judged Greater e = λ h. subst T (sym below ∙ ap is_le e) h

pub returns-in-Greater : goal.returns-in-Greater
returns-in-Greater g c = judged g.X.Scaled.scale g.met.X.Ord.total g.met.X.Measure.compares _ _ _ _ _ _ (g.met.X.Measure.multiplies.gives _ _ _ c.mul-shown.ensures) (g.met.X.Measure.multiplies.gives _ _ _ c.mul-claimed.ensures) Greater (sym c.in-Greater.ensures)

pub returns-in-Less : goal.returns-in-Less
returns-in-Less g c = judged g.X.Scaled.scale g.met.X.Ord.total g.met.X.Measure.compares _ _ _ _ _ _ (g.met.X.Measure.multiplies.gives _ _ _ c.mul-shown.ensures) (g.met.X.Measure.multiplies.gives _ _ _ c.mul-claimed.ensures) Less (sym c.in-Less.ensures)

pub returns-in-Equal : goal.returns-in-Equal
returns-in-Equal g c = judged g.X.Scaled.scale g.met.X.Ord.total g.met.X.Measure.compares _ _ _ _ _ _ (g.met.X.Measure.multiplies.gives _ _ _ c.mul-shown.ensures) (g.met.X.Measure.multiplies.gives _ _ _ c.mul-claimed.ensures) Equal (sym c.in-Equal.ensures)
