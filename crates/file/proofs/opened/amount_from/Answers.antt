use Rattle.std.proofs.Common.{◌≡◌, ◌+◌, ◌++◌, ◌∷◌, [], get_or, pos, take, sym, ap, ◌∙◌, ap₂, arith, w64, SFits, to_z, rules}
use Rattle.std.proofs.lemmas.List.{take_all, take_more_set}
use Rattle.std.proofs.lemmas.Int.{to_z-of_z}
use Rattle.amount.specs.Rows.{places, row_of}
use Rattle.file.specs.Words.{place_of, word_no, words_of}
use Rattle.file.specs.Contents.{places_from}
use Rattle.file.proofs.FittedRows.{fitted_more, place_at, place_past}
use Rattle.file.proofs.opened.amount_from.Goals as goal
use Rattle.file.proofs.opened.amount_from.Goals.{then-p-count, else-p-count}

pub loop-p-preserved : goal.loop-p-preserved
loop-p-preserved g c =
    let ps = c.loop-p.places in
    let p = c.loop-p.p in
    let k = c.args.k in
    let d = c.args.count in
    let ws = words_of c.args.bytes.now in
    let xs = places_from d ws k in
    let v : to_z w64 c.if-p-count.place-bits ≡ get_or xs p (pos 0) = elim c.if-p-count.branch [
      | then-p-count w ↦
          let f : SFits w64 w.place.result = search rules in
          w.place-is ∙ to_z-of_z w64 _ f ∙ w.place.ensures ∙ ap place_of {y = word_no ws (k + p)} w.word.ensures ∙ sym (place_at d ws k p w.if-p-count.true)
      | else-p-count w ↦ w.place-is ∙ sym (place_past d ws k p w.if-p-count.false)
    ] in
    take_more_set ps p _ (omega arith) ∙ ap₂ (λ a b. a ++ b ∷ []) c.loop-p.invariant v ∙ sym (fitted_more p (p + 1) xs (omega arith))

pub returns : goal.returns
returns g c =
    let D = g.X.Scaled.scale.places in
    let xs = places_from c.args.count (words_of c.args.bytes.now) c.args.k in
    let few = g.X.Scaled.scale.few in
    let all : take c.loop-p.p c.loop-p.places ≡ c.loop-p.places = take_all _ _ (omega (arith, c.loop-p.auto.places, c.loop-p-test.false)) in
    let n : c.loop-p.p ≡ D = search rules in
    c.from_places.ensures ∙ sym all ∙ c.loop-p.invariant ∙ ap (λ n. places n (row_of n xs)) n
