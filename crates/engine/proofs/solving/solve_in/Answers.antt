use Rattle.std.proofs.Common.{◌≡◌, take, drop, refl, subst}
use Rattle.amount.specs.Groups.{row_group}
use Rattle.network.specs.Walks.{net, NoClosed, Period}
use Rattle.engine.specs.Solved.{row_at}
use Rattle.engine.specs.Filled.{Tables, row_in}
use Rattle.engine.proofs.Showing.{loopless, can_walk, limit_period}
use Rattle.engine.proofs.solving.solve_in.Goals as goal

pub write_loop-requires-clause-known : goal.write_loop-requires-clause-known
write_loop-requires-clause-known g c =
    let l = c.in-Some.ensures in
    let m = g.X.Scaled.scale in
    let t = c.new-filled.result in
    let ready = c.new-filled.ensures.ready in
    can_walk m.order t ready.owed.sound (row_in m t) ready.entries l.v c.in-Some.turn _ l.turns

pub returns-in_default : goal.returns-in_default
returns-in_default g c =
    let m = g.X.Scaled.scale in
    record {
      place = c.event_count-n.ensures;
      enough = c.requires;
      none = subst (λ (t : Tables g.row.X.Denot). NoClosed (net m.places t.graph)) c.new-filled.ensures.is (loopless m c.new-filled.result c.new-filled.ensures.ready.owed.sound c.new-filled.ensures.ready.entries c.in_default.ensures);
      tables = record { entries = c.fill_tables.ensures.entries; past_rows = c.fill_tables.ensures.past_rows; past_marks = c.fill_tables.ensures.past_marks };
      kept_leaves = refl;
      kept_loop = refl;
    }

pub returns : goal.returns
returns g c =
    let m = g.X.Scaled.scale in
    let t = c.new-filled.result in
    let turn = c.in-Some.turn in
    record {
      enough = c.requires;
      tables = record { entries = c.fill_tables.ensures.entries; past_rows = c.fill_tables.ensures.past_rows; past_marks = c.fill_tables.ensures.past_marks };
      shown = record {
        period = subst (λ (u : Tables g.row.X.Denot). Period (row_group m.order) (net m.places u.graph) (m.row turn.total) turn.count (take turn.count c.write_loop.new.circle) (row_at m c.write_departures.new.leaves)) c.new-filled.ensures.is
            (limit_period m t c.new-filled.ensures.ready.owed.sound c.new-filled.ensures.ready.entries turn c.in-Some.ensures _ c.write_loop.ensures.shown c.write_departures.new.leaves c.write_departures.ensures.shown);
        past_leaves = subst (λ (u : Tables g.row.X.Denot). drop u.graph.events c.write_departures.new.leaves ≡ drop u.graph.events c.args.leaves.now) c.new-filled.ensures.is c.write_departures.ensures.past;
        past_loop = c.write_loop.ensures.past;
      };
    }
