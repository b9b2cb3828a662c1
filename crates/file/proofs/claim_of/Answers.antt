use Rattle.std.proofs.Common.{Some, ◌+◌, sym, ap, ◌∙◌, arith, rules}
use Rattle.amount.specs.Rows.{places, row_of}
use Rattle.file.specs.Words.{words_of, lower}
use Rattle.file.specs.Contents.{places_from}
use Rattle.file.proofs.FittedRows.{fitted_same}
use Rattle.file.proofs.WordLists.{word_count}
use Rattle.file.proofs.Kept.{claim_none, claim_some, claim_room}
use Rattle.file.proofs.claim_of.Goals as goal

pub returns-in_err-at : goal.returns-in_err-at
returns-in_err-at g c = let n = claim_none g.X.Scaled.scale.places (words_of c.args.bytes.now) c.args.outline c.requires in search (rules, n)

pub amount_from-requires : goal.amount_from-requires
amount_from-requires g c =
    omega (arith, c.PLACES.ensures, g.met.X.Filed.placed, word_count c.args.bytes.now, claim_room g.X.Scaled.scale.places (words_of c.args.bytes.now) c.args.outline c.requires c.in_ok-at.at c.in_ok-at.was)

pub word-requires : goal.word-requires
word-requires g c = omega (arith, word_count c.args.bytes.now, claim_room g.X.Scaled.scale.places (words_of c.args.bytes.now) c.args.outline c.requires c.in_ok-at.at c.in_ok-at.was)

pub returns : goal.returns
returns g c =
    let D = g.X.Scaled.scale.places in
    let ws = words_of c.args.bytes.now in
    let at = c.in_ok-at.at in
    let same = c.PLACES.ensures ∙ g.met.X.Filed.placed in
    let t = c.amount_from.ensures ∙ ap (λ d. places D (row_of D (places_from d ws (at + 1)))) same ∙ fitted_same D ws (at + 1) in
    let n = c.lower.ensures ∙ ap lower c.word.ensures in
    (λ i. Some (record { total = t i; count = n i }))
    ∙ sym (claim_some D ws c.args.outline c.requires at c.in_ok-at.was)
