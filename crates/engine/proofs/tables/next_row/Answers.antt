use Rattle.std.proofs.Common.{◌≡◌, ◌+◌, ◌*◌, ◌<◌, T, length, get_or, set, sym, refl, ap, ◌∙◌, subst, ap₂, subst₂, add-one, arith}
use Rattle.std.proofs.lemmas.List.{get_or-replicate}
use Rattle.std.proofs.lemmas.Bool.Decides.{not_from_Decides}
use Rattle.amount.specs.Rows.{add_row, zero_row, Within}
use Rattle.amount.specs.Scales.{exact}
use Rattle.amount.specs.Groups.{row_group}
use Rattle.amount.specs.Spans.{span}
use Rattle.amount.proofs.Bounds.{within_add, within_more}
use Rattle.network.specs.Walks.{net}
use Rattle.network.proofs.Joined.{joined}
use Rattle.network.proofs.Asked.{asked_start, asked_end, asked_amount}
use Rattle.engine.specs.Tables.{Entry, Live}
use Rattle.engine.proofs.Relaxed.{brings, part_all}
use Rattle.engine.proofs.Cells.{cell, cell_read}
use Rattle.engine.proofs.Magnitudes.{amount_near, entry_near}
use Rattle.engine.proofs.Filling.{Filling, filling_none, filling_dead, filling_keep, filling_write}
use Rattle.engine.proofs.tables.next_row.Goals as goal
use Rattle.engine.proofs.tables.next_row.Goals.{then-has_walk+then-replaces, then-has_walk+else-replaces, else-has_walk}

pub add-total-requires : goal.add-total-requires
add-total-requires g c =
    let m = g.X.Scaled.scale in
    let s = c.args.net.now in
    let graph = g.N.Network.graph s in
    let k = c.args.k in
    let w = c.wait-wait.result in
    let near = amount_near m.places graph (g.N.Network.owed s).sound in
    let here = cell_read m.row (zero_row m.places) c.args.rows.now w.start c.index-rows-start.result (omega (arith, c.wait-wait.ensures.starts, c.requires.room.0)) c.index-rows-start.is in
    let far : Within m.places (k * span) (m.row c.index-rows-start.result) = rw (sym here) (entry_near m.order (net m.places graph) span near k w.start _ _ (c.requires.done w.start c.wait-wait.ensures.starts)) in
    let step : Within m.places span (m.row w.amount) = rw (asked_amount m.places m.row graph c.loop-e.e w c.wait-wait.ensures.is) (near c.loop-e.e (omega (arith, c.wait_count-e-end.ensures, c.loop-e-test.true))) in
    g.met.X.Measure.adds.can _ _ (within_more m.places (k * span + span) exact _ (omega (arith, (g.N.Network.owed s).few, c.requires.few)) (within_add m.places (k * span) span _ _ far step))

pub loop-e-init : goal.loop-e-init
loop-e-init g c =
    let m = g.X.Scaled.scale in
    filling_none (row_group m.order) (net m.places (g.N.Network.graph c.args.net.now)) m.row c.args.k c.args.rows.now c.args.marks.now _ _
    (λ v h. (c.clear_row.ensures.rows v, ap (λ y. get_or y v 0) c.clear_row.ensures.marks ∙ get_or-replicate _ v 0 0 (omega (arith, h, c.requires.next_room.1))))

pub loop-e-preserved : goal.loop-e-preserved
loop-e-preserved g c =
    let m = g.X.Scaled.scale in
    let graph = g.N.Network.graph c.args.net.now in
    let G = row_group m.order in
    let N = net m.places graph in
    let k = c.args.k in
    let e = c.loop-e.e in
    let a = c.args.rows.now in
    let b = c.args.marks.now in
    let x = c.loop-e.next_rows in
    let y = c.loop-e.next_marks in
    let z = zero_row m.places in
    let w = c.wait-wait.result in
    let from = asked_start m.places m.row graph e w c.wait-wait.ensures.is in
    let to = asked_end m.places m.row graph e w c.wait-wait.ensures.is in
    let amount = asked_amount m.places m.row graph e w c.wait-wait.ensures.is in
    let long-x : length x ≡ N.events = omega (arith, c.loop-e.auto.next_rows, c.clear_row.auto.rows, c.requires.next_room.0) in
    let long-y : length y ≡ N.events = omega (arith, c.loop-e.auto.next_marks, c.clear_row.auto.marks, c.requires.next_room.1) in
    let there : N.to e < N.events = rw (← to) c.wait-wait.ensures.ends in
    -- what the wait brings, from the row that was read
    let total : (r t : g.row.X.Denot) → r ≡ get_or a w.start r → m.row t ≡ add_row m.places (m.row r) (m.row w.amount) → m.row t ≡ brings G N (cell m.row z a) e =
    λ r t is sum. sum ∙ ap₂ (add_row m.places) (sym (cell_read m.row z a w.start r (omega (arith, c.wait-wait.ensures.starts, c.requires.room.0)) is) ∙ ap (cell m.row z a) from) amount in
    -- what is held where it ends
    let held : (r : g.row.X.Denot) → r ≡ get_or x w.end r → m.row r ≡ cell m.row z x (N.to e) =
    λ r is. sym (cell_read m.row z x w.end r (omega (arith, c.wait-wait.ensures.ends)) is) ∙ ap (cell m.row z x) to in
    elim c.if-has_walk.branch [
      | then-has_walk+then-replaces h ↦
          let t = h.add-total.result in
          let is = total h.index-rows-start.result t h.index-rows-start.is (g.met.X.Measure.adds.gives _ _ _ h.add-total.ensures) in
          let met = held h.index-next_rows-end.result h.index-next_rows-end.is in
          let written = filling_write G N m.row k a b e x y c.loop-e.invariant t (omega (arith, there)) (omega (arith, there)) is (subst (λ i. Live k (get_or b i 0)) from (h.if-has_walk.ensures.0 refl))
          (λ pos le. h.if-replaces.ensures (subst (λ i. 0 < get_or y i 0) (sym to) pos) (subst₂ (λ p q. T (m.at_most p q)) (sym is) (sym met) le)) in
          subst₂ (Filling G N m.row k a b (e + 1)) (sym (h.next_rows-is ∙ ap (λ i. set x i t) to)) (sym (h.next_marks-is ∙ ap (λ i. set y i (e + 1)) to)) written
      | then-has_walk+else-replaces h ↦
          let is = total h.index-rows-start.result h.add-total.result h.index-rows-start.is (g.met.X.Measure.adds.gives _ _ _ h.add-total.ensures) in
          let met = held h.index-next_rows-end.result h.index-next_rows-end.is in
          let kept = h.if-replaces.ensures in
          subst₂ (Filling G N m.row k a b (e + 1)) (sym h.next_rows-is) (sym h.next_marks-is)
          (filling_keep G N m.row k a b e x y c.loop-e.invariant (subst (λ i. 0 < get_or y i 0) to kept.0) (subst₂ (λ p q. T (m.at_most p q)) is met kept.1))
      | else-has_walk h ↦
          subst₂ (Filling G N m.row k a b (e + 1)) (sym h.next_rows-is) (sym h.next_marks-is)
          (filling_dead G N m.row k a b e x y c.loop-e.invariant (subst (λ i. ¬ Live k (get_or b i 0)) from (not_from_Decides _ h.if-has_walk.ensures refl)))
    ]

pub returns : goal.returns
returns g c = λ v h.
    let m = g.X.Scaled.scale in
    let s = c.args.net.now in
    let graph = g.N.Network.graph s in
    let G = row_group m.order in
    let N = net m.places graph in
    let k = c.args.k in
    let x = c.loop-e.next_rows in
    let y = c.loop-e.next_marks in
    let all : c.loop-e.e ≡ N.waits = omega (arith, c.wait_count-e-end.ensures) in
    let full = subst (λ i. Filling G N m.row k c.args.rows.now c.args.marks.now i x y) all c.loop-e.invariant in
    subst (λ i. Entry G N i v (cell m.row (zero_row m.places) x v) (get_or y v 0)) (sym (add-one k))
    (part_all G N k (cell m.row (zero_row m.places) c.args.rows.now) (λ u. get_or c.args.marks.now u 0) v (joined m.places graph (g.N.Network.owed s).sound) c.requires.done _ _ (full v h))
