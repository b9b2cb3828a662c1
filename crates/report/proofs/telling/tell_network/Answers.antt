use Rattle.std.proofs.Common.{ℕ, ◌+◌, ◌*◌, ◌≤◌, List, ℤ, Err, Option, ap, mul-le-mul, arith}
use Rattle.amount.specs.Scales.{Scale}
use Rattle.network.specs.declared.Period.{Period}
use Rattle.network.specs.Networks.{Graph}
use Rattle.engine.specs.declared.EngineFault.{EngineFault}
use Rattle.engine.specs.declared.EngineFault.TheVariants.{ShortTable, NoLoop}
use Rattle.engine.specs.Faults.{told}
use Rattle.engine.specs.Solved.{Memory, Enough, Solved}
use Rattle.report.specs.Lines.{refusal_line}
use Rattle.report.specs.Reported.{NetworkText, loopless}
use Rattle.report.proofs.Declined.{declined_text}
use Rattle.report.proofs.telling.tell_network.Goals as goal

-- memory for 60 events does for fewer
enough : {X : Type 0} (n : ℕ) (m : Memory X) → n ≤ 60 → Enough 60 m → Enough n m
enough n m h e =
    let l : n + 1 ≤ 61 = omega arith in
    let k : (n + 1) * n ≤ 61 * 60 = mul-le-mul l h in
    record { rows = omega (arith, e.rows); marks = omega (arith, e.marks); leaves = omega (arith, e.leaves); loop = omega (arith, e.loop) }

-- where the memory is enough, the engine declines only for want of a loop
declined : {X : Type 0} (m : Scale X) (number : ℕ) (g : Graph) (claim : Option (Period (List ℤ))) (fault : EngineFault) (old new : Memory X)
    → g.events ≤ 60 → Enough 60 old → Solved m g (Err fault) old new → NetworkText m.order number g claim (refusal_line (told fault))
declined m number g claim (ShortTable k) old new h e s = absurd (s.short (enough g.events old h e))
declined m number g claim (NoLoop k) old new h e s = loopless h s.none (ap (λ j. refusal_line (told (NoLoop j))) s.place)

pub returns-in_err-period : goal.returns-in_err-period
returns-in_err-period g c =
    let f = c.in_err-period.field-0.0 in
    rw (declined_text _ c.from_residual.result (told f) c.from_residual.ensures.1)
    (declined g.X.Scaled.scale _ _ _ f _ _ (omega arith) c.requires.enough c.in_err-period.ensures.solved)
