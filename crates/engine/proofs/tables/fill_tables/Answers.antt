use Rattle.std.proofs.Common.{◌≡◌, ℕ, ◌+◌, ◌-◌, ◌*◌, ◌<◌, ◌≤◌, List, ◌++◌, length, take, drop, sym, ◌∙◌, ap, subst, mul-le-mul_right, suc-mul, length-take, add-one, arith}
use Rattle.std.proofs.lemmas.Slice.{drop-append-drop}
use Rattle.amount.specs.Groups.{row_group}
use Rattle.network.specs.Walks.{net}
use Rattle.engine.specs.Solved.{table_size}
use Rattle.engine.specs.Filled.{RowDone}
use Rattle.engine.proofs.Cells.{split_past}
use Rattle.engine.proofs.Filling.{rows_read, rows_more}
use Rattle.engine.proofs.tables.fill_tables.Goals as goal

-- row k + 1 lies in a table of n + 1 rows
row_fits : (n k : ℕ) → k < n → (k + 1) * n + n ≤ table_size n
row_fits n k h = let p = mul-le-mul_right n h in let b = suc-mul n n in rw (add-one, add-one) (omega (arith, suc-mul k n))

pub next_row-requires-clause-done : goal.next_row-requires-clause-done
next_row-requires-clause-done g c =
    let m = g.X.Scaled.scale in
    let graph = g.N.Network.graph c.args.net.now in
    let e = c.event_count-n.ensures in
    let sx = c.split_at_mut-rows in
    let sy = c.split_at_mut-marks in
    let k = c.loop-k.k in
    subst (λ n. RowDone m graph k (take (length sx.result.0.now - k * n) (drop (k * n) sx.result.0.now)) (take (length sy.result.0.now - k * n) (drop (k * n) sy.result.0.now))) (sym e)
    (rows_read (row_group m.order) (net m.places graph) m.row k _ _ _ sx.ensures.value _ _ _ sy.ensures.value (sx.ensures.front_len ∙ ap (λ n. (k + 1) * n) e) (sy.ensures.front_len ∙ ap (λ n. (k + 1) * n) e) c.loop-k.invariant.0)

pub loop-k-preserved : goal.loop-k-preserved
loop-k-preserved g c =
    let m = g.X.Scaled.scale in
    let graph = g.N.Network.graph c.args.net.now in
    let e = c.event_count-n.ensures in
    let n = c.event_count-n.result in
    let k = c.loop-k.k in
    let sx = c.split_at_mut-rows in
    let sy = c.split_at_mut-marks in
    let p = c.next_row.new.next_rows in
    let q = c.next_row.new.next_marks in
    let size : length sx.result.0.now ≡ (k + 1) * graph.events = sx.ensures.front_len ∙ ap (λ i. (k + 1) * i) e in
    let size' : length sy.result.0.now ≡ (k + 1) * graph.events = sy.ensures.front_len ∙ ap (λ i. (k + 1) * i) e in
    let fits = row_fits graph.events k (omega (arith, e, c.loop-k-test.true)) in
    let long : length p ≡ n = omega (arith, c.next_row.auto.next_rows, length-take n sx.result.1.now, sx.ensures.back_len, c.loop-k.auto.rows, c.clear_row.auto.rows, c.requires.0, fits, size, e) in
    let long' : length q ≡ n = omega (arith, c.next_row.auto.next_marks, length-take n sy.result.1.now, sy.ensures.back_len, c.loop-k.auto.marks, c.clear_row.auto.marks, c.requires.1, fits, size', e) in (
      rows_more (row_group m.order) (net m.places graph) m.row k _ _ _ sx.ensures.value _ _ _ sy.ensures.value size size' p q n c.loop-k.invariant.0 c.next_row.ensures (long ∙ e) (long' ∙ e),
      split_past _ _ _ sx.ensures.value p n (table_size graph.events) long (omega (arith, size, fits, e)) ∙ c.loop-k.invariant.1,
      split_past _ _ _ sy.ensures.value q n (table_size graph.events) long' (omega (arith, size', fits, e)) ∙ c.loop-k.invariant.2,
    )

-- the first row fits too, and what lies past it stays
first_past : {X : Type 0} (xs ys : List X) (n r : ℕ) → r ≡ n → table_size n ≤ length xs → length ys ≡ length (take r xs) → drop (table_size n) (ys ++ drop r xs) ≡ drop (table_size n) xs
first_past xs ys n r e room same = drop-append-drop r xs ys (table_size n) fits (omega (arith, same, length-take r xs, fits, room))
  where
    fits : r ≤ table_size n
    fits = rw add-one (omega (arith, e, suc-mul n n))

pub returns-clause-past_rows : goal.returns-clause-past_rows
returns-clause-past_rows g c = c.loop-k.invariant.1 ∙ first_past _ _ _ _ c.event_count-n.ensures c.requires.0 c.clear_row.auto.rows

pub returns-clause-past_marks : goal.returns-clause-past_marks
returns-clause-past_marks g c = c.loop-k.invariant.2 ∙ first_past _ _ _ _ c.event_count-n.ensures c.requires.1 c.clear_row.auto.marks
