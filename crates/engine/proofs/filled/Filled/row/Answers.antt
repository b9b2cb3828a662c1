use Rattle.std.proofs.Common.{◌≡◌, length, sym, ap, ◌∙◌, subst, arith}
use Rattle.amount.specs.Rows.{zero_row, Within}
use Rattle.engine.specs.Spans.{entry_span}
use Rattle.engine.specs.Solved.{row_at}
use Rattle.engine.specs.Filled.{Tables, Ready, row_in}
use Rattle.engine.proofs.Cells.{cell_read}
use Rattle.engine.proofs.Reading.{place_inside, entry_within}
use Rattle.engine.proofs.filled.Filled.row.Goals as goal

-- the entry that is read lies near zero, as every entry of filled tables does
pub returns-clause-near : goal.returns-clause-near
returns-clause-near g c =
    let m = g.X.Scaled.scale in
    let t = c.args.self.now in
    let ready : Ready m t = subst (Ready m) c.self.view_is c.self.invariant in
    let i = c.place.result in
    let long = place_inside t.graph.events c.args.k c.args.v c.requires.0 c.requires.1 in
    let same = ap (λ (u : Tables g.row.X.Denot). u.rows) c.self.view_is in
    let is : row_in m t c.args.k c.args.v ≡ m.row c.index-rows-place.result =
    ap (row_at m t.rows) (sym c.place.ensures) ∙ ap (λ xs. row_at m xs i) (sym same) ∙ cell_read m.row (zero_row m.places) c.self.inside.rows.now i _ (omega (arith, long, c.place.ensures, ready.rows_room, ap length same)) c.index-rows-place.is in
    subst (Within m.places entry_span) is (entry_within m.order t.graph ready.owed.sound ready.owed.few c.args.k c.args.v _ _ c.requires.0 (ready.entries c.args.k c.args.v c.requires.0 c.requires.1))
