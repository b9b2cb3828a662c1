use Rattle.std.proofs.Common.{◌+◌, refl, sym, subst, rules}
use Rattle.std.proofs.lemmas.List.Elements.{All-push}
use Rattle.std.proofs.lemmas.Result.{err_from_is_err_and}
use Rattle.network.specs.Networks.{PlainWait}
use Rattle.plan.specs.Records.{Between, recorded}
use Rattle.plan.proofs.Lists.{meant_length, put_edits, all_edited, edit_changes}
use Rattle.plan.proofs.Meant.{added_list}
use Rattle.plan.proofs.Draft.put.Goals as goal

pub returns-in_err-record-clause-rule : goal.returns-in_err-record-clause-rule
returns-in_err-record-clause-rule g c =
    let p = err_from_is_err_and c.from_residual.result c.from_residual.ensures.1 in
    rw (p.1, p.2) (refl, ((search rules, search rules), c.in_err-record.ensures))

pub returns-then-at-room-clause-rule : goal.returns-then-at-room-clause-rule
returns-then-at-room-clause-rule g c =
    let list = c.args.self.now.list in
    let n = meant_length recorded list.count list.memory.now list.fits in
    (refl, ((search rules, search rules), c.in_ok-record.ensures.1, search rules, sym n))

pub invariant_of-list-2-clause-known : goal.invariant_of-list-2-clause-known
invariant_of-list-2-clause-known g c =
    let list = c.args.self.now.list in
    let between : Between list.events c.in_ok-record.record = subst (λ (w : PlainWait). Between list.events w) (sym c.in_ok-record.ensures.0) (search rules, search rules) in
    all_edited (Between list.events) (put_edits list.memory.now list.count _ (search rules)) (All-push (Between list.events) _ _ list.known between)

pub returns-clause-rule : goal.returns-clause-rule
returns-clause-rule g c =
    let list = c.args.self.now.list in
    let n = meant_length recorded list.count list.memory.now list.fits in
    record {
      known = (search rules, search rules);
      span = c.in_ok-record.ensures.1;
      space = search rules;
      number = sym n;
      after = edit_changes recorded list.events list.count (list.count + 1) (put_edits list.memory.now list.count _ (search rules))
          (added_list recorded list.count list.memory.now _ _ c.in_ok-record.ensures.0);
    }
