use Rattle.std.proofs.Common.{◌≡◌, ◌+◌, ◌<◌, ◌≤◌, [], length, sym, subst, rules}
use Rattle.std.specs.List.{All}
use Rattle.std.proofs.lemmas.List.{take_all}
use Rattle.std.proofs.lemmas.List.Elements.{All-append, All-push}
use Rattle.network.specs.Networks.{PlainWait, wait_at}
use Rattle.plan.specs.Records.{Between, recorded}
use Rattle.plan.proofs.Lists.{meant_length, put_edits, append_edits, all_edited, edit_changes}
use Rattle.plan.proofs.Meant.{written_more, appended_list}
use Rattle.plan.proofs.Near.{makes_record, record_means}
use Rattle.plan.proofs.Draft.append.Goals as goal

pub unwrap-requires : goal.unwrap-requires
unwrap-requires g c =
    let net = g.N.Network.graph c.args.net.now in
    let sound = (g.N.Network.owed c.args.net.now).sound in
    makes_record c.wait.result (wait_at net.waits c.loop-i.i) c.wait.ensures.is c.spanned.result c.spanned.ensures (sound.spans c.loop-i.i (search rules))

pub loop-i-preserved : goal.loop-i-preserved
loop-i-preserved g c =
    let net = g.N.Network.graph c.args.net.now in
    let sound = (g.N.Network.owed c.args.net.now).sound in
    let i = c.loop-i.i in
    let records = c.loop-i.records in
    let room : i < length records = search rules in
    let below : i < length net.waits = search rules in
    let means = record_means c.wait.result (wait_at net.waits i) c.wait.ensures.is c.spanned.result c.unwrap.result c.spanned.ensures c.unwrap.ensures in
    let between = subst (λ (w : PlainWait). Between net.events w) (sym means) (sound.starts i below, sound.ends i below) in
    record {
      waits = written_more recorded i records [] net.waits i c.unwrap.result room below means c.loop-i.invariant.waits;
      between = all_edited (Between net.events) (put_edits records i c.unwrap.result room) (All-push (Between net.events) _ _ c.loop-i.invariant.between between);
    }

pub invariant_of-list-clause-known : goal.invariant_of-list-clause-known
invariant_of-list-clause-known g c =
    let list = c.args.self.now.list in
    let fits : list.count + c.wait_count-more.result ≤ length list.memory.now = search rules in
    let same : (g.N.Network.graph c.args.net.now).events ≡ list.events = search rules in
    let between = subst (All (Between _)) (take_all c.loop-i.i c.loop-i.records (search rules)) c.loop-i.invariant.between in
    all_edited (Between list.events) (append_edits list.memory.now list.count c.wait_count-more.result c.loop-i.records fits c.loop-i.auto.records) (All-append (Between list.events) _ _ list.known (subst (λ n. All (Between n) c.loop-i.records) same between))

pub returns-clause-rule : goal.returns-clause-rule
returns-clause-rule g c =
    let list = c.args.self.now.list in
    let net = g.N.Network.graph c.args.net.now in
    let n = meant_length recorded list.count list.memory.now list.fits in
    let more = c.wait_count-more.result in
    let fits : list.count + more ≤ length list.memory.now = search rules in (
      search rules,
      search rules,
      search rules,
      edit_changes recorded list.events list.count (list.count + more) (append_edits list.memory.now list.count more c.loop-i.records fits c.loop-i.auto.records)
          (appended_list recorded list.count list.memory.now c.loop-i.records net.waits c.loop-i.i (search rules) (search rules) c.loop-i.invariant.waits),
    )
