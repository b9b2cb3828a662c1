use Rattle.std.proofs.Common.{◌≡◌, Some, None, Option, IsSomeAnd, MatchOption, sym, subst, rules}
use Rattle.amount.specs.Scales.{Scale}
use Rattle.amount.specs.Groups.{row_group}
use Rattle.amount.proofs.PlaceLists.{row_listed}
use Rattle.network.specs.declared.Period.{Period}
use Rattle.file.specs.Contents.{plain_claim}
use Rattle.report.specs.declared.verdict.Verdict.{Verdict}
use Rattle.report.specs.Verdicts.{Judged}
use Rattle.report.specs.Reported.{VerdictOn}
use Rattle.report.proofs.telling.judged.Goals as goal

-- a verdict on the claim is one on its places
verdict_on : {X : Type 0} (m : Scale X) (p : Period X) (claim : Option (Period X)) (v : Option Verdict) {Says : Period X → Verdict → Type 0}
    → ((c : Period X) (w : Verdict) → Says c w → Judged (row_group m.order) (m.row p.total) p.count (m.row c.total) c.count w)
    → MatchOption claim (v ≡ None) (λ c. IsSomeAnd v (Says c)) → VerdictOn m.order (m.row p.total) p.count (plain_claim m claim) v
verdict_on m p None None told h = tt
verdict_on m p None (Some v) told h = cc
verdict_on m p (Some c) None told h = h
verdict_on m p (Some c) (Some v) told h = subst (λ r. Judged (row_group m.order) (m.row p.total) p.count r c.count v) (sym (row_listed m.places (m.row c.total))) (told c v h)

pub returns : goal.returns
returns g c = verdict_on g.X.Scaled.scale c.args.period c.args.claim c.map.result (λ x v h. search rules) c.map.ensures.cases
