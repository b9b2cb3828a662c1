use Rattle.std.proofs.Common.{◌≡◌, map, take, ap, ◌∙◌, subst, arith}
use Rattle.std.specs.List.{range_with_len}
use Rattle.std.proofs.lemmas.List.{length-take}
use Rattle.amount.specs.Rows.{places}
use Rattle.engine.specs.Solved.{row_at}
use Rattle.report.specs.Lines.{starts_of}
use Rattle.report.specs.Reports.{rows_of, content, ReportOf}
use Rattle.report.proofs.RightPeriods.{counted, some, known, brief, near, shown_rows}
use Rattle.report.proofs.telling.tell.Goals as goal

pub judged-verdict-requires-clause-shown : goal.judged-verdict-requires-clause-shown
judged-verdict-requires-clause-shown g c =
    let sound = (g.N.Network.owed c.args.net.now).sound in
    let o = g.X.Scaled.scale.order in
    let e = counted o sound c.requires.right in
    let b = brief o sound c.requires.right in
    record { few = omega arith; near = near o sound c.requires.right 60 86400000 (omega arith) (omega arith) }

pub slice_bounds-waits-end : goal.slice_bounds-waits-end
slice_bounds-waits-end g c = counted g.X.Scaled.scale.order (g.N.Network.owed c.args.net.now).sound c.requires.right

pub report_page-requires : goal.report_page-requires
report_page-requires g c =
    let sound = (g.N.Network.owed c.args.net.now).sound in
    let o = g.X.Scaled.scale.order in
    let b = brief o sound c.requires.right in
    let m = length-take c.event_count.result c.args.space.now.leaves.now in
    record {
      some = some o sound c.requires.right;
      near = near o sound c.requires.right 60 1000000000000 (omega arith) (omega arith);
      brief = omega arith;
      known = known o sound c.requires.right;
      few = omega arith;
      empty = c.requires.empty;
    }

pub returns : goal.returns
returns g c =
    let m = g.X.Scaled.scale in
    let xs = c.args.space.now.leaves.now in
    let graph = g.N.Network.graph c.args.net.now in
    let es = take c.args.period.count c.args.space.now.circle.now in
    let rows : rows_of m (take c.event_count.result xs) ≡ map (λ v. places m.places (row_at m xs v)) (range_with_len 0 graph.events) =
    ap (λ k. rows_of m (take k xs)) c.event_count.ensures ∙ shown_rows m.places m.row xs graph.events c.requires.leaves in
    record {
      p = m.row c.args.period.total;
      q = c.args.period.count;
      loop = es;
      departure = row_at m xs;
      verdict = c.judged-verdict.result;
      right = c.requires.right;
      judged = c.judged-verdict.ensures;
      report = subst (λ rs. ReportOf (content g.X.Filed.NUMBER (places m.places (m.row c.args.period.total)) c.args.period.count (starts_of graph.waits es) rs c.judged-verdict.result) c.report_page.new.page.bytes) rows c.report_page.ensures;
    }
