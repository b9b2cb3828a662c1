use Rattle.std.proofs.Common.{◌≡◌, pos, ◌+ℤ◌, ◌*ℤ◌, subst, arith, w64, SFits, to_z, of_z, rules}
use Rattle.std.proofs.lemmas.Int.{ints, to_z-of_z}
use Rattle.report.specs.Headways.{Headway}
use Rattle.report.proofs.Multiples.{times_up, above, at_least}
use Rattle.report.proofs.division.headway.Goals as goal

pub returns-then-rest-eq0 : goal.returns-then-rest-eq0
returns-then-rest-eq0 c =
    let q = c.divided-whole.result.0 in
    let t = c.args.total in
    let n = c.args.count in
    let fq : SFits w64 q = search rules in
    let e : t ≡ (pos n *ℤ q) = omega (arith, ints) in
    let b : q ≡ to_z w64 (of_z w64 q) = search (rules, to_z-of_z) in
    subst (Headway t n) b (record {
      enough = omega (arith, ints);
      least = at_least t q n e (omega arith);
    })

pub returns-else-rest-eq0 : goal.returns-else-rest-eq0
returns-else-rest-eq0 c =
    let q = c.divided-whole.result.0 in
    let t = c.args.total in
    let n = c.args.count in
    let fq : SFits w64 q = search rules in
    let b : (q +ℤ pos 1) ≡ to_z w64 (of_z w64 (to_z w64 (of_z w64 q) +ℤ pos 1)) = search (rules, to_z-of_z) in
    let u = times_up n q in
    subst (Headway t n) b (record {
      enough = omega (arith, ints);
      least = above t q n (omega (arith, ints));
    })
