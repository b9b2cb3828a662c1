use Rattle.std.proofs.Common.{◌≡◌, ℕ, suc, ◌+◌, ◌<◌, List, [], ◌∷◌, ◌++◌, length, get_or, take, ℤ, sym, ap, ◌∙◌, append_assoc, arith}
use Rattle.std.proofs.lemmas.List.{append-nil, length-map, length-take-le, map_more}
use Rattle.amount.specs.Rows.{places}
use Rattle.amount.specs.Scales.{Scale}
use Rattle.report.specs.Lines.{leaves_line}
use Rattle.report.specs.Reports.{rows_of, leaves_lines}
use Rattle.report.proofs.page.push_departure_lines.Goals as goal

-- one more departure at the end
push : (v : ℕ) (rs : List (List ℤ)) (r : List ℤ) → leaves_lines v (rs ++ (r ∷ [])) ≡ leaves_lines v rs ++ leaves_line (v + length rs) r
push v [] r = let e : v ≡ v + 0 = omega arith in append-nil (leaves_line v r) ∙ ap (λ k. leaves_line k r) e
push v (s ∷ rs) r =
    let e : suc v + length rs ≡ v + suc (length rs) = omega arith in
    ap (λ q. leaves_line v s ++ q) (push (suc v) rs r ∙ ap (λ k. leaves_lines (suc v) rs ++ leaves_line k r) e)
    ∙ sym (append_assoc (leaves_line v s) (leaves_lines (suc v) rs) (leaves_line (v + suc (length rs)) r))

-- the line of departure i comes after those of the departures before it
further : {X : Type 0} (m : Scale X) (xs : List X) (i : ℕ) (x : X) → i < length xs → x ≡ get_or xs i x → leaves_lines 0 (rows_of m (take (i + 1) xs)) ≡ leaves_lines 0 (rows_of m (take i xs)) ++ leaves_line i (places m.places (m.row x))
further m xs i x h e =
    let rs = rows_of m (take i xs) in
    let l : 0 + length rs ≡ i = omega (arith, length-map (take i xs) (λ y. places m.places (m.row y)), length-take-le i xs (omega arith)) in
    ap (leaves_lines 0) (map_more (λ y. places m.places (m.row y)) xs i x h ∙ ap (λ y. rs ++ (places m.places (m.row y) ∷ [])) (sym e))
    ∙ push 0 rs (places m.places (m.row x)) ∙ ap (λ k. leaves_lines 0 rs ++ leaves_line k (places m.places (m.row x))) l

-- a line after others, past what the page had
grown : (initial before after line lines more : List ℕ) → before ≡ initial ++ lines → after ≡ before ++ line → more ≡ lines ++ line → after ≡ initial ++ more
grown initial before after line lines more written wrote further =
    wrote ∙ ap (λ q. q ++ line) written ∙ append_assoc initial lines line ∙ ap (λ q. initial ++ q) (sym further)

pub loop-event-preserved : goal.loop-event-preserved
loop-event-preserved g c =
    let one_more = further g.X.Scaled.scale c.args.departures.now c.loop-event.event c.index-departures-event.result (omega arith) c.index-departures-event.is in
    record { bytes = grown _ _ _ _ _ _ c.loop-event.invariant.bytes c.push_departure_line.ensures.wrote one_more; short = omega arith }
