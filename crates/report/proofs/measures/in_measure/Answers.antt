use Rattle.std.proofs.Common.{◌≡◌, ℕ, List, Option, sym, ap, ◌∙◌, subst}
use Rattle.std.specs.Option.{ForSome}
use Rattle.amount.specs.Scales.{Scale}
use Rattle.network.specs.declared.Period.{Period}
use Rattle.network.specs.Networks.{Graph, graph}
use Rattle.file.specs.Words.{words_of}
use Rattle.file.specs.Contents.{Contents, contents, meant, plain_claim}
use Rattle.file.specs.Opening.{Opens}
use Rattle.file.specs.Faults.{told}
use Rattle.file.proofs.Claims.{claim_right, row_within}
use Rattle.report.specs.Reported.{NetworkText, refused, opened, text_of}
use Rattle.report.specs.Verdicts.{Modest}
use Rattle.report.proofs.Declined.{declined_text}
use Rattle.report.proofs.measures.in_measure.Goals as goal

-- the claim of a file that opens stays exact when it is compared
modest : {X : Type 0} (m : Scale X) (number : ℕ) (bytes : List ℕ) (claim : Option (Period X)) → Opens number m.places bytes → plain_claim m claim ≡ (contents m.places (words_of bytes)).claim → ForSome claim (Modest m)
modest m number bytes claim o e x is =
    let r = claim_right number m.places bytes o _ (sym e ∙ ap (plain_claim m) is) in
    record { few = r.0; near = row_within m.places 86400000 (m.row x.total) r.1 }

pub tell_network-requires-clause-claimed : goal.tell_network-requires-clause-claimed
tell_network-requires-clause-claimed g c =
    let m = g.X.Scaled.scale in
    let a = c.in_ok-opened.ensures.answered in
    modest m g.X.Filed.NUMBER c.args.file.now c.claim.result a.0 (ap (plain_claim m) c.claim.ensures ∙ ap (λ (x : Contents). x.claim) a.1)

-- the report on the network and the claim of an opened file is that on what its words spell
spelled : {X : Type 0} (m : Scale X) (number : ℕ) (g : Graph) (claim answer : Option (Period X)) (c : Contents) (t : List ℕ)
    → answer ≡ claim → meant g (plain_claim m claim) ≡ c → NetworkText m.order number g (plain_claim m answer) t → NetworkText m.order number (graph c.events c.waits) c.claim t
spelled m number g claim answer c t same e h =
    subst (λ (x : Contents). NetworkText m.order number (graph x.events x.waits) x.claim t) e (subst (λ x. NetworkText m.order number g (plain_claim m x) t) same h)

pub returns : goal.returns
returns g c =
    let m = g.X.Scaled.scale in
    let a = c.in_ok-opened.ensures.answered in
    opened a.0 (spelled m g.X.Filed.NUMBER _ c.in_ok-opened.opened.claim c.claim.result (contents m.places (words_of c.args.file.now)) (text_of c.tell_network.new.page.bytes c.tell_network.result) c.claim.ensures a.1 c.tell_network.ensures)

pub returns-in_err-opened : goal.returns-in_err-opened
returns-in_err-opened g c = refused c.in_err-opened.field-0.0 c.in_err-opened.ensures.answered (declined_text _ c.from_residual.result (told c.in_err-opened.field-0.0) c.from_residual.ensures.1)
