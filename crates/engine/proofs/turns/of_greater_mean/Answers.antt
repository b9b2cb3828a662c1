use Rattle.std.proofs.Common.{refl, ◌∙◌, inl, inr, arith}
use Rattle.amount.proofs.Compared.{le_rows}
use Rattle.engine.specs.Spans.{turn_span}
use Rattle.engine.proofs.Reading.{can_take}
use Rattle.engine.proofs.Limited.{mean_at_most, mean_above}
use Rattle.engine.proofs.turns.of_greater_mean.Goals as goal

pub mul-new-requires : goal.mul-new-requires
mul-new-requires g c = g.met.X.Measure.multiplies.can _ _ (can_take g.X.Scaled.scale _ turn_span _ c.args.held.few (omega arith) c.args.turn.near)

pub mul-old-requires : goal.mul-old-requires
mul-old-requires g c = g.met.X.Measure.multiplies.can _ _ (can_take g.X.Scaled.scale _ turn_span _ c.args.turn.few (omega arith) c.args.held.near)

pub returns-then-le : goal.returns-then-le
returns-then-le g c =
    let x = g.met.X.Measure in
    inl (refl, mean_at_most g.X.Scaled.scale.order _ _ _ _ _ _ (x.multiplies.gives _ _ _ c.mul-new.ensures) (x.multiplies.gives _ _ _ c.mul-old.ensures) (c.if-le.ensures ∙ le_rows g.X.Scaled.scale g.met.X.Ord.matches_partial_cmp x.compares _ _))

pub returns-else-le : goal.returns-else-le
returns-else-le g c =
    let x = g.met.X.Measure in
    inr (refl, mean_above g.X.Scaled.scale.order _ _ _ _ _ _ (x.multiplies.gives _ _ _ c.mul-new.ensures) (x.multiplies.gives _ _ _ c.mul-old.ensures) (c.if-le.ensures ∙ le_rows g.X.Scaled.scale g.met.X.Ord.matches_partial_cmp x.compares _ _))
