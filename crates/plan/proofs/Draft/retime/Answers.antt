use Rattle.std.proofs.Common.{◌<◌, ap, rules}
use Rattle.amount.specs.Rows.{places}
use Rattle.plan.specs.Records.{recorded}
use Rattle.plan.proofs.Lists.{meant_length, retime_edits, edit_changes}
use Rattle.plan.proofs.Meant.{retimed_list}
use Rattle.plan.proofs.Draft.retime.Goals as goal

pub returns-clause-rule : goal.returns-clause-rule
returns-clause-rule g c =
    let list = c.args.self.now.list in
    let n = meant_length recorded list.count list.memory.now list.fits in
    let below : c.args.i < list.count = search rules in
    record {
      known = search rules;
      span = c.in_ok-amount.ensures.1;
      after = edit_changes recorded list.events list.count list.count (retime_edits list.memory.now list.count c.args.i _ below list.fits)
          (retimed_list g.X.Scaled.scale.places (λ y. g.X.Scaled.scale.row y.amount) list.count list.memory.now list.fits c.args.i _ _ _ below (ap (λ x. places g.X.Scaled.scale.places (g.X.Scaled.scale.row x)) c.in_ok-amount.ensures.0));
    }
