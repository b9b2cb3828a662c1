use Rattle.std.proofs.Common.{ℕ, zero, suc, ◌≤ℤ◌, pos, sym, ◌∙◌, subst, arith, w64, SFits, rules}
use Rattle.std.proofs.lemmas.Int.{ints, to_z-of_z}
use Rattle.amount.specs.Rows.{Row, Within, places}
use Rattle.report.specs.Reports.{first_of}
use Rattle.report.proofs.page.headway_of.Goals as goal

-- the first place lies where all do
first_within : (d b : ℕ) (r : Row d) → Within d b r → first_of (places d r) ≤ℤ pos b
first_within zero b r w = omega (arith, ints)
first_within (suc d) b r w = w.1

pub headway-requires-clause-near : goal.headway-requires-clause-near
headway-requires-clause-near g c =
    let z = c.first_place.result in
    let f : SFits w64 z = search rules in
    subst (λ x. x ≤ℤ pos 1000000000000) (sym (to_z-of_z w64 z f ∙ c.first_place.ensures)) (first_within g.X.Scaled.scale.places 1000000000000 (g.X.Scaled.scale.row c.args.period.total) c.requires.near)
