use Rattle.std.proofs.Common.{◌≡◌, ℕ, ◌+◌, ◌*◌, ◌/◌, ◌<◌, List, ◌++◌, ◌∷◌, [], length, take, length-take, sym, refl, ap, ◌∙◌, subst, subst₂, arith, rules}
use Rattle.std.proofs.lemmas.Bool.Decides.{not_from_Decides}
use Rattle.std.proofs.lemmas.Iterator.Consumers.{YieldsList-turn, YieldsList-end, YieldsList-from_enumerate, YieldsList-from_first}
use Rattle.std.proofs.lemmas.List.{length_push}
use Rattle.std.proofs.lemmas.List.FromFn.{length-enumerate_from}
use Rattle.std.proofs.lemmas.Result.{err_from_is_err_and}
use Rattle.file.specs.Words.{words_of, word_no}
use Rattle.file.specs.Columns.{Agrees}
use Rattle.file.specs.Layout.{RightTo, ClosedAt}
use Rattle.file.specs.Faults.{told}
use Rattle.file.specs.Opening.{Whole, Refused, faulty, unclosed, trailed, unchecked}
use Rattle.file.specs.Reading.{Outlined}
use Rattle.file.proofs.WordLists.{word_count, words_before, enumerated}
use Rattle.file.proofs.Steps.{CameTo, fault_found, kept, came_on, closed, going, numbered}
use Rattle.file.proofs.reader.read.Goals as goal
use Rattle.file.proofs.reader.read.Goals.{In-Some, Else-not-is_multiple_of, Then-eq}

-- past the first tests the bytes are whole words
whole : (c : Else-not-is_multiple_of) → Whole c.args.bytes.now
whole c = record { words = c.if-not-is_multiple_of.ensures.0 refl; some = omega arith }

-- the word that the loop takes is the next word, by its number
abbrev Next : List ℕ → ℕ → ℕ → ℕ → Type 0
Next ws n at bits = (n < length ws) × (at ≡ n) × (bits ≡ word_no ws n)

next : (c : In-Some) → Next (words_of c.args.bytes.now) (length c.loop-at.yielded) c.in-Some.at c.in-Some.bits
next c =
    let ws = words_of c.args.bytes.now in
    let i = c.into_iter-at-iterator.ensures.into_iter_gives in
    let from = ap (λ e. words_of e.iter.0.now) i ∙ ap (λ s. words_of s.0.now) c.enumerate-at-items.ensures.source in
    let zero = ap (λ e. e.count) i ∙ c.enumerate-at-items.ensures.count in
    enumerated ws _ _ _ (YieldsList-turn (YieldsList-from_enumerate {s = c.into_iter-at-iterator.result} (YieldsList-from_first (λ x. x) (λ s. words_of s.0.now) ws from) zero) c.loop-at.yielded c.loop-at.at-iterator c.loop-at.yielded_by c.next.result c.next.new.self (c.in-Some.at, c.in-Some.bits) c.in-Some.is c.next.ensures.steps)

-- at the closing word
at_closing : (c : Then-eq) → Next (words_of c.args.bytes.now) (length c.loop-at.yielded) c.in-Some.at c.in-Some.bits → ClosedAt c.args.measure c.args.places (words_of c.args.bytes.now) (length c.loop-at.yielded)
    × (length c.loop-at.yielded + 1 ≡ length (words_of c.args.bytes.now) → Outlined c.args.places (words_of c.args.bytes.now) (record { events = c.in_ok-reader.reader.events; waits = c.in_ok-reader.reader.waits; claim = c.in_ok-reader.reader.claim }))
at_closing c t =
    let ws = words_of c.args.bytes.now in
    let n = length c.loop-at.yielded in
    let s = c.in_ok-reader.reader in
    let h = c.loop-at.invariant in
    let e = c.in_ok-reader.ensures in
    let f = closed ws n (record { at = c.in-Some.at; bits = c.in-Some.bits }) c.loop-at.reader s h.2 t.1 t.2 e.0 e.1 (search rules) in
    (subst₂ (λ m d. ClosedAt m d ws n) h.0 h.1 f.0, λ q. subst (λ d. Outlined d ws (record { events = s.events; waits = s.waits; claim = s.claim })) h.1 (f.1 q))

pub loop-at-init-derived : goal.loop-at-init-derived
loop-at-init-derived c = let n = word_count c.args.bytes.now in search rules

pub returns-in_err-reader : goal.returns-in_err-reader
returns-in_err-reader c =
    let p = err_from_is_err_and c.from_residual.result c.from_residual.ensures.1 in
    let bs = c.args.bytes.now in
    let t = next (goal.at.returns-in_err-reader c).In-Some in
    let r = c.loop-at.reader in
    let h = c.loop-at.invariant in
    let f = c.in_err-reader.field-0.0 in
    let a = c.in_err-reader.ensures in
    rw (p.1, p.2)
    (subst (Refused c.args.measure c.args.places bs (told f).number) (sym (a.1 ∙ t.1))
    (subst₂ (λ m d. Refused m d bs (told f).number (length c.loop-at.yielded)) h.0 h.1
    (faulty (whole (goal.at.returns-in_err-reader c).Else-not-is_multiple_of) h.2.before t.0 (a.0 ∙ sym (fault_found (words_of bs) (length c.loop-at.yielded) r c.in-Some.bits h.2.stands t.2)) (numbered f))))

pub overflow_mul-at : goal.overflow_mul-at
overflow_mul-at c =
    let t = next (goal.at.overflow_mul-at c).In-Some in
    omega (arith, t, word_count c.args.bytes.now)

pub slice_bounds-closes-end : goal.slice_bounds-closes-end
slice_bounds-closes-end c =
    let t = next (goal.at.slice_bounds-closes-end c).In-Some in
    omega (arith, t, word_count c.args.bytes.now, length-take (4 * c.in-Some.at) c.args.bytes.now)

pub returns-then-at-count : goal.returns-then-at-count
returns-then-at-count c =
    let t = next (goal.at.returns-then-at-count c).In-Some in
    let a = at_closing (goal.at.returns-then-at-count c).Then-eq t in
    trailed (whole (goal.at.returns-then-at-count c).Else-not-is_multiple_of) (length c.loop-at.yielded) a.0 refl (ap (λ k. k + 1) t.1) (omega (arith, word_count c.args.bytes.now))

pub returns-then-not-closes : goal.returns-then-not-closes
returns-then-not-closes c =
    let t = next (goal.at.returns-then-not-closes c).In-Some in
    let a = at_closing (goal.at.returns-then-not-closes c).Then-eq t in
    let bs = c.args.bytes.now in
    let e = words_before bs c.in-Some.at (omega (arith, t, word_count bs)) ∙ ap (λ n. take n (words_of bs)) t.1 in
    subst (Refused c.args.measure c.args.places bs 6) (sym t.1)
    (unchecked (whole (goal.at.returns-then-not-closes c).Else-not-is_multiple_of) a.0 (omega (arith, t, word_count bs)) (λ q. not_from_Decides c.closes.result c.closes.ensures c.if-not-closes.true (subst₂ Agrees (sym e) (sym t.2) q)) refl)

pub returns-then-eq : goal.returns-then-eq
returns-then-eq c =
    let t = next (goal.at.returns-then-eq c).In-Some in
    let a = at_closing (goal.at.returns-then-eq c).Then-eq t in
    let bs = c.args.bytes.now in
    let k = length c.loop-at.yielded in
    let n : k + 1 ≡ length (words_of bs) = omega (arith, t, word_count bs) in
    let e = words_before bs c.in-Some.at (omega (arith, t, word_count bs)) ∙ ap (λ n. take n (words_of bs)) t.1 in
    (record { whole = whole (goal.at.returns-then-eq c).Else-not-is_multiple_of; last = k; ends = n; closed = a.0; checked = subst₂ Agrees e t.2 (c.closes.ensures.0 c.if-not-closes.false) }, a.1 n)

pub loop-at-preserved : goal.loop-at-preserved
loop-at-preserved c =
    let t = next (goal.at.loop-at-preserved c).In-Some in
    let h = c.loop-at.invariant in
    let e = c.in_ok-reader.ensures in
    let s = c.in_ok-reader.reader in
    let k = kept (record { at = c.in-Some.at; bits = c.in-Some.bits }) c.loop-at.reader s e.1 in
    let more : length c.loop-at.yielded + 1 ≡ length (c.loop-at.yielded ++ (c.in-Some.at, c.in-Some.bits) ∷ []) = omega (arith, length_push c.loop-at.yielded (c.in-Some.at, c.in-Some.bits)) in
    (k.0 ∙ h.0, k.1 ∙ h.1, subst (λ n. CameTo (words_of c.args.bytes.now) n s) more (came_on (words_of c.args.bytes.now) (length c.loop-at.yielded) (record { at = c.in-Some.at; bits = c.in-Some.bits }) c.loop-at.reader s h.2 t.1 t.2 e.0 (subst (λ d. 0 < d) (sym h.1) c.requires) e.1 (going s.state (λ q. search rules))))

pub returns : goal.returns
returns c =
    let ws = words_of c.args.bytes.now in
    let h = c.loop-at.invariant in
    let i = c.into_iter-at-iterator.ensures.into_iter_gives in
    let from = ap (λ e. words_of e.iter.0.now) i ∙ ap (λ s. words_of s.0.now) c.enumerate-at-items.ensures.source in
    let zero = ap (λ e. e.count) i ∙ c.enumerate-at-items.ensures.count in
    let t = YieldsList-end (YieldsList-from_enumerate {s = c.into_iter-at-iterator.result} (YieldsList-from_first (λ x. x) (λ s. words_of s.0.now) ws from) zero) c.loop-at.yielded c.loop-at.at-iterator c.loop-at.yielded_by c.next.result c.next.new.self c.in-None.is c.next.ensures.steps in
    let n : length c.loop-at.yielded ≡ length c.args.bytes.now / 4 = omega (arith, t.1, length-enumerate_from 0 ws, word_count c.args.bytes.now) in
    unclosed (whole (goal.at.returns c).Else-not-is_multiple_of) (subst₂ (λ m d. RightTo m d ws (length c.args.bytes.now / 4)) h.0 h.1 (subst (RightTo c.loop-at.reader.measure c.loop-at.reader.places ws) n h.2.before)) refl (omega (arith, word_count c.args.bytes.now))
