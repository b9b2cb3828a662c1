-- Words that spell contents open, and stand for those contents.
use Rattle.std.proofs.Common.{◌≡◌, ℕ, zero, suc, ◌+◌, ◌-◌, ◌*◌, ◌/◌, ◌%◌, ◌^◌, ◌<◌, ◌≤◌, Bool, true, false, cond, ltb, List, [], ◌∷◌, ◌++◌, map, length, get_or, take, ℤ, pos, negsuc, ◌-ℤ◌, neg_ℤ, ◌≤ℤ◌, IfSome, Some, None, Option, sym, refl, ap, ◌∙◌, subst, ap₂, ⊎_elim, append_assoc, suc-mul, arith, length-append, eq-eqb, ne_eqb}
use Rattle.std.proofs.lemmas.List.FromFn.{fill_by_all}
use Rattle.std.proofs.lemmas.List.{length-map, length_push, take_at, get_or_append_left, get_or-append-add, get_or-map, get_or_push}
use Rattle.std.proofs.lemmas.Int.{ints}
use Rattle.std.proofs.lemmas.Bool.Decides.{nat_tests}
use Rattle.std.proofs.lemmas.Bool.{cases_lt, cond-true, cond-false, lt-ltb, le-ltb}
use Rattle.std.proofs.lemmas.Nat.{div-add-mod', div_below, mod_below}
use Rattle.network.specs.declared.Period.{Period}
use Rattle.network.specs.Networks.{PlainWait, wait_at, AllWithin}
use Rattle.file.specs.Words.{words_of, word_no, kind_bits, field, upper, middle, lower, place_of}
use Rattle.file.specs.Layout.{item, place, base, in_item, Right, is_claim, after_claim, stated_events, beyond, fault_in}
use Rattle.file.specs.Contents.{Contents, contents, places_from, wait_in, first_waits, claim_in}
use Rattle.file.specs.Columns.{Agrees}
use Rattle.file.specs.Opening.{Whole, Opens}
use Rattle.file.proofs.RightWords.{heading_right, wait_right, claim_right, place_right, closing_right}
use Rattle.file.proofs.Steps.{role_in_item, next_base}
use Rattle.file.proofs.Kept.{has_claim_lem, spelled_waits_lem}
use Rattle.file.specs.Spelling.{place_word, wait_words, waits_words, claim_words, spelling, Spelled, Fileable, FileableClaim}

abbrev signed : ℕ → ℤ
signed b = cond (ltb b (2 ^ 27)) (pos b) (pos b -ℤ pos (2 ^ 28))

-- every wait has d places
abbrev Even : ℕ → List PlainWait → Type 0
Even d ws = (j : ℕ) → j < length ws → length (wait_at ws j).amount ≡ d

wait_length : (d : ℕ) (w : PlainWait) → length w.amount ≡ d → length (wait_words w) ≡ 1 + d
wait_length d w e = simp length-map (omega arith)

waits_length : (d : ℕ) (ws : List PlainWait) → Even d ws → length (waits_words ws) ≡ length ws * (1 + d)
waits_length d [] h = omega arith
waits_length d (w ∷ ws) h =
    let a = length-append (wait_words w) (waits_words ws) in
    let b = wait_length d w (h 0 (omega arith)) in
    let r = waits_length d ws (λ j l. h (suc j) (omega arith)) in
    omega (arith, suc-mul (length ws) (1 + d))

-- word p of wait j
waits_at : (d : ℕ) (ws : List PlainWait) (rest : List ℕ) (j p : ℕ) → Even d ws → j < length ws → p < 1 + d → get_or (waits_words ws ++ rest) (j * (1 + d) + p) 0 ≡ get_or (wait_words (wait_at ws j)) p 0
waits_at d [] rest j p h l q = absurd (let z : ⊥ = omega arith in z)
waits_at d (w ∷ ws) rest zero p h l q =
    let n = wait_length d w (h 0 (omega arith)) in
    ap (λ (xs : List ℕ). get_or xs (0 * (1 + d) + p) 0) (append_assoc (wait_words w) (waits_words ws) rest)
    ∙ ap (λ i. get_or (wait_words w ++ (waits_words ws ++ rest)) i 0) (let e : 0 * (1 + d) + p ≡ p = omega arith in e)
    ∙ get_or_append_left (wait_words w) (waits_words ws ++ rest) 0 p (omega arith)
waits_at d (w ∷ ws) rest (suc j) p h l q =
    let n = wait_length d w (h 0 (omega arith)) in
    ap (λ (xs : List ℕ). get_or xs (suc j * (1 + d) + p) 0) (append_assoc (wait_words w) (waits_words ws) rest)
    ∙ ap (λ i. get_or (wait_words w ++ (waits_words ws ++ rest)) i 0) (let e : suc j * (1 + d) + p ≡ length (wait_words w) + (j * (1 + d) + p) = omega (arith, suc-mul j (1 + d)) in e)
    ∙ get_or-append-add (wait_words w) (waits_words ws ++ rest) (j * (1 + d) + p) 0
    ∙ waits_at d ws rest j p (λ j l. h (suc j) (omega arith)) (omega arith) q

-- the words after the waits
after_waits : (d : ℕ) (ws : List PlainWait) (rest : List ℕ) (p : ℕ) → Even d ws → get_or (waits_words ws ++ rest) (length ws * (1 + d) + p) 0 ≡ get_or rest p 0
after_waits d ws rest p h =
    ap (λ i. get_or (waits_words ws ++ rest) (i + p) 0) (sym (waits_length d ws h)) ∙ get_or-append-add (waits_words ws) rest p 0

-- the fields of the words
heading_fields : (m n : ℕ) → m < 16 → n ≤ 1000 → let w = 1 * 2 ^ 28 + m * 2 ^ 24 + n in (kind_bits w ≡ 1) × (middle w ≡ 0) × (upper w ≡ m) × (lower w ≡ n)
heading_fields m n h l = (omega arith, omega arith, omega arith, omega arith)

wait_fields : (s e : ℕ) → s < 1000 → e < 1000 → let w = 2 * 2 ^ 28 + s * 2 ^ 12 + e in (kind_bits w ≡ 2) × (upper w ≡ 0) × (middle w ≡ s) × (lower w ≡ e)
wait_fields s e h l = (omega arith, omega arith, omega arith, omega arith)

claim_fields : (n : ℕ) → n ≤ 1000 → let w = 4 * 2 ^ 28 + n in (kind_bits w ≡ 4) × (field w 12 16 ≡ 0) × (lower w ≡ n)
claim_fields n l = (omega arith, omega arith, omega arith)

place_fields : (z : ℤ) → neg_ℤ (pos 86400000) ≤ℤ z → z ≤ℤ pos 86400000 → (kind_bits (place_word z) ≡ 3) × (place_of (place_word z) ≡ z)
place_fields (pos n) l h =
    let r : n ≤ 86400000 = omega (arith, ints) in
    let e : (3 * 2 ^ 28 + n) % 2 ^ 28 ≡ n = omega arith in
    (omega arith, ap signed e ∙ cond-true _ _ _ (lt-ltb n (2 ^ 27) (omega arith)))
place_fields (negsuc n) l h =
    let r : n < 86400000 = omega (arith, ints) in
    let e : (3 * 2 ^ 28 + (2 ^ 28 - suc n)) % 2 ^ 28 ≡ 2 ^ 28 - suc n = omega arith in
    (omega arith, ap signed e ∙ cond-false _ _ _ (le-ltb (2 ^ 28 - suc n) (2 ^ 27) (omega arith)) ∙ omega (arith, ints))

within_at : (b : ℕ) (xs : List ℤ) (p : ℕ) → AllWithin b xs → p < length xs → (neg_ℤ (pos b) ≤ℤ get_or xs p (pos 0)) × (get_or xs p (pos 0) ≤ℤ pos b)
within_at b [] p h l = absurd (let z : ⊥ = omega arith in z)
within_at b (x ∷ xs) zero h l = (h.0, h.1)
within_at b (x ∷ xs) (suc p) h l = within_at b xs p h.2 (omega arith)

not_beyond : (b : ℕ) (z : ℤ) → neg_ℤ (pos b) ≤ℤ z → z ≤ℤ pos b → beyond b z ≡ false
not_beyond b z l h = grind (arith, ints, nat_tests)

-- what holds of word 0 and of every word of i items holds of every word before item i
by_position : (P : ℕ → Type 0) (d i : ℕ) → P 0 → ((j p : ℕ) → j < i → p < 1 + d → P (base d j + p)) → (k : ℕ) → k < base d i → P k
by_position P d i h r zero l = h
by_position P d i h r (suc k) l =
    let e = div-add-mod' k (1 + d) in
    subst P (let q : base d (k / (1 + d)) + k % (1 + d) ≡ suc k = omega arith in q)
    (r (k / (1 + d)) (k % (1 + d)) (div_below k (1 + d) i (omega arith) (omega arith)) (mod_below k (1 + d) (omega arith)))

module _ (m d : ℕ) (bs : List ℕ) (c : Contents) (fit : Fileable m d c) (s : Spelled m c (words_of bs)) where
  -- the words after the waits: those of the claim, and the closing word
  tail : List ℕ
  tail = claim_words c.claim ++ (s.closing ∷ [])

  even : Even d c.waits
  even j h = (fit.waits j h).places

  listed : words_of bs ≡ (1 * 2 ^ 28 + m * 2 ^ 24 + c.events) ∷ (waits_words c.waits ++ tail)
  unfolding tail
  listed = s.words ∙ ap (λ (xs : List ℕ). (1 * 2 ^ 28 + m * 2 ^ 24 + c.events) ∷ xs) (append_assoc (waits_words c.waits) (claim_words c.claim) (s.closing ∷ []))

  in_wait : (j p k : ℕ) → j < length c.waits → p < 1 + d → k ≡ base d j + p → word_no (words_of bs) k ≡ get_or (wait_words (wait_at c.waits j)) p 0
  in_wait j p k h l e =
      ap₂ (λ (xs : List ℕ) i. get_or xs i 0) listed (let q : k ≡ suc (j * (1 + d) + p) = omega arith in q)
      ∙ waits_at d c.waits tail j p even h l

  in_tail : (p k : ℕ) → k ≡ base d (length c.waits) + p → word_no (words_of bs) k ≡ get_or tail p 0
  in_tail p k e =
      ap₂ (λ (xs : List ℕ) i. get_or xs i 0) listed (let q : k ≡ suc (length c.waits * (1 + d) + p) = omega arith in q)
      ∙ after_waits d c.waits tail p even

  -- a word by its position, in the role of that position
  right_at : (j p k : ℕ) → p < 1 + d → k ≡ base d j + p → fault_in m (stated_events (words_of bs)) (in_item d (words_of bs) j p) (word_no (words_of bs) k) ≡ 0 → (kind_bits (word_no (words_of bs) k) ≡ 5 → ⊥) → Right m d (words_of bs) k
  right_at j p k l e f n = (ap (λ r. fault_in m (stated_events (words_of bs)) r (word_no (words_of bs) k)) (role_in_item d (words_of bs) j p k l e) ∙ f, n)

  events_stated : stated_events (words_of bs) ≡ c.events
  events_stated = ap (λ (xs : List ℕ). lower (get_or xs 0 0)) listed ∙ (heading_fields m c.events fit.measure fit.few).3

  heading_fine : Right m d (words_of bs) 0
  heading_fine =
      let w = word_no (words_of bs) 0 in
      let e : w ≡ 1 * 2 ^ 28 + m * 2 ^ 24 + c.events = ap (λ (xs : List ℕ). get_or xs 0 0) listed in
      let f = heading_fields m c.events fit.measure fit.few in
      let some = fit.some in
      let few = fit.few in
      (heading_right m (stated_events (words_of bs)) w (ap kind_bits e ∙ f.0, ap middle e ∙ f.1, ap upper e ∙ f.2, omega (arith, events_stated), omega (arith, events_stated)), λ k. omega (arith, ap kind_bits e, f.0))

  -- the first word of a wait, and its places
  wait_first : (j : ℕ) → j < length c.waits → word_no (words_of bs) (base d j) ≡ 2 * 2 ^ 28 + (wait_at c.waits j).start * 2 ^ 12 + (wait_at c.waits j).end
  wait_first j h = in_wait j 0 (base d j) h (omega arith) (omega arith)

  wait_parts : (j : ℕ) → j < length c.waits → let w = word_no (words_of bs) (base d j) in (kind_bits w ≡ 2) × (upper w ≡ 0) × (middle w ≡ (wait_at c.waits j).start) × (lower w ≡ (wait_at c.waits j).end)
  wait_parts j h =
      let few = fit.few in
      let ok = fit.waits j h in
      let st = ok.starts in
      let en = ok.ends in
      let e = wait_first j h in
      let f = wait_fields (wait_at c.waits j).start (wait_at c.waits j).end (omega arith) (omega arith) in
      (ap kind_bits e ∙ f.0, ap upper e ∙ f.1, ap middle e ∙ f.2, ap lower e ∙ f.3)

  wait_place : (j p k : ℕ) → j < length c.waits → p < d → k ≡ base d j + suc p → (kind_bits (word_no (words_of bs) k) ≡ 3) × (place_of (word_no (words_of bs) k) ≡ get_or (wait_at c.waits j).amount p (pos 0)) × (beyond 86400 (place_of (word_no (words_of bs) k)) ≡ false)
  wait_place j p k h l e =
      let ok = fit.waits j h in
      let xs = (wait_at c.waits j).amount in
      let z = get_or xs p (pos 0) in
      let q : p < length xs = omega (arith, ok.places) in
      let w : word_no (words_of bs) k ≡ place_word z = in_wait j (suc p) k h (omega arith) e ∙ get_or-map place_word xs p (pos 0) 0 q in
      let b = within_at 86400 xs p ok.near q in
      let f = place_fields z (omega (arith, ints, b.0)) (omega (arith, ints, b.1)) in
      let v = ap place_of w ∙ f.1 in
      (ap kind_bits w ∙ f.0, v, ap (beyond 86400) v ∙ not_beyond 86400 z b.0 b.1)

  no_claim : (j : ℕ) → j < length c.waits → is_claim d (words_of bs) j ≡ false
  no_claim j h = ne_eqb (kind_bits (word_no (words_of bs) (base d j))) 4 (λ k. omega (arith, (wait_parts j h).0))

  none_before : (j : ℕ) → j ≤ length c.waits → after_claim d (words_of bs) j ≡ false
  none_before zero h = refl
  none_before (suc j) h = no_claim j (omega arith)

  wait_fine : (j p : ℕ) → j < length c.waits → p < 1 + d → Right m d (words_of bs) (base d j + p)
  wait_fine j zero h l =
      let w = word_no (words_of bs) (base d j) in
      let k = wait_parts j h in
      let ok = fit.waits j h in
      let st = ok.starts in
      let en = ok.ends in
      let sh = fit.short in
      subst (Right m d (words_of bs)) (let e : base d j ≡ base d j + 0 = omega arith in e)
      (right_at j 0 (base d j) l (omega arith)
      (ap (λ b. fault_in m (stated_events (words_of bs)) (item j b) w) (none_before j (omega arith))
      ∙ wait_right m (stated_events (words_of bs)) j w (k.0, k.1, omega arith, omega (arith, events_stated, k.2), omega (arith, events_stated, k.3)))
      (λ q. omega (arith, k.0)))
  wait_fine j (suc p) h l =
      let w = word_no (words_of bs) (base d j + suc p) in
      let k = wait_place j p (base d j + suc p) h (omega arith) refl in
      right_at j (suc p) (base d j + suc p) l refl
      (ap (λ b. fault_in m (stated_events (words_of bs)) (place b) w) (no_claim j h) ∙ place_right m (stated_events (words_of bs)) false w (k.0, k.2))
      (λ q. omega (arith, k.0))

  wait_back : (j : ℕ) → j < length c.waits → wait_at c.waits j ≡ wait_in d (words_of bs) j
  wait_back j h =
      let k = wait_parts j h in
      let a : (wait_at c.waits j).amount ≡ places_from d (words_of bs) (base d j + 1) =
      fill_by_all (λ p. place_of (word_no (words_of bs) (base d j + 1 + p))) (wait_at c.waits j).amount d (pos 0) (fit.waits j h).places
      (λ p l. sym (wait_place j p (base d j + 1 + p) h l (omega arith)).1) in
      let st = sym k.2 in
      let en = sym k.3 in
      λ i. record { start = st i; end = en i; amount = a i }

  waits_back : c.waits ≡ first_waits d (words_of bs) (length c.waits)
  waits_back = fill_by_all (wait_in d (words_of bs)) c.waits (length c.waits) (record { start = 0; end = 0; amount = [] }) refl wait_back

  -- the file ends after i items, of which the last is a claim if b says so
  ends_after : (b : Bool) (i : ℕ) → i ≡ length c.waits + cond b 1 0 → ((j p : ℕ) → length c.waits ≤ j → j < i → p < 1 + d → Right m d (words_of bs) (base d j + p))
      → word_no (words_of bs) (base d i) ≡ s.closing → length (words_of bs) ≡ base d i + 1 → after_claim d (words_of bs) i ≡ b
      → cond b (Some (claim_in d (words_of bs) (length c.waits))) None ≡ c.claim → Whole bs → Opens m d bs × (contents d (words_of bs) ≡ c)
  ends_after b i count rest closes len after claim whole =
      let ws = words_of bs in
      let kind = ap kind_bits closes ∙ s.kind in
      let spelt : length (spelling m c) ≡ base d i = omega (arith, ap length s.words, length_push (spelling m c) s.closing) in
      let front : take (base d i) ws ≡ spelling m c = ap (take (base d i)) s.words ∙ take_at (spelling m c) (s.closing ∷ []) (base d i) spelt in
      let items : length ws ≡ base d (length c.waits + cond b 1 0) + 1 = len ∙ ap (λ i. base d i + 1) count in
      let claims : b ≡ after_claim d ws (length c.waits + cond b 1 0) = sym after ∙ ap (after_claim d ws) count in
      let claimed = has_claim_lem d ws (length c.waits) b items claims in
      let counted = spelled_waits_lem d ws (length c.waits) b items claims in
      let waits = ap (first_waits d ws) counted ∙ sym waits_back in
      let told = ap₂ (λ b n. cond b (Some (claim_in d ws n)) None) claimed counted ∙ claim in (
        record {
          whole = whole;
          last = base d i;
          ends = sym len;
          closed = record {
            before = by_position (Right m d ws) d i heading_fine (λ j p h l. ⊎_elim (λ q. wait_fine j p q l) (λ q. rest j p q h l) (cases_lt j (length c.waits)));
            right = ap (λ r. fault_in m (stated_events ws) r (word_no ws (base d i))) (role_in_item d ws i 0 (base d i) (omega arith) (omega arith)) ∙ closing_right m (stated_events ws) i (after_claim d ws i) (word_no ws (base d i)) kind;
            closing = kind;
          };
          checked = subst (λ (xs : List ℕ). Agrees xs (word_no ws (base d i))) (sym front) (subst (Agrees (spelling m c)) (sym closes) s.agrees);
        },
        λ k. record { events = events_stated k; waits = waits k; claim = told k },
      )

  tail_length : length (words_of bs) ≡ base d (length c.waits) + length tail
  tail_length = omega (arith, ap length listed, length-append (waits_words c.waits) tail, waits_length d c.waits even)

  module _ (r : Period (List ℤ)) (e : c.claim ≡ Some r) (ok : FileableClaim d r) where
    claim_tail : tail ≡ (4 * 2 ^ 28 + r.count) ∷ (map place_word r.total ++ (s.closing ∷ []))
    unfolding tail
    claim_tail = ap (λ o. claim_words o ++ (s.closing ∷ [])) e

    row_length : length (map place_word r.total) ≡ d
    row_length = length-map r.total place_word ∙ ok.places

    -- the first word of the claim, and its places
    claim_parts : let w = word_no (words_of bs) (base d (length c.waits)) in (kind_bits w ≡ 4) × (field w 12 16 ≡ 0) × (lower w ≡ r.count)
    claim_parts =
        let q : word_no (words_of bs) (base d (length c.waits)) ≡ 4 * 2 ^ 28 + r.count = in_tail 0 (base d (length c.waits)) (omega arith) ∙ ap (λ (xs : List ℕ). get_or xs 0 0) claim_tail in
        let f = claim_fields r.count ok.few in
        (ap kind_bits q ∙ f.0, ap (λ w. field w 12 16) q ∙ f.1, ap lower q ∙ f.2)

    claim_place : (p k : ℕ) → p < d → k ≡ base d (length c.waits) + suc p → (kind_bits (word_no (words_of bs) k) ≡ 3) × (place_of (word_no (words_of bs) k) ≡ get_or r.total p (pos 0)) × (beyond 86400000 (place_of (word_no (words_of bs) k)) ≡ false)
    claim_place p k l q =
        let z = get_or r.total p (pos 0) in
        let h : p < length r.total = omega (arith, ok.places) in
        let w : word_no (words_of bs) k ≡ place_word z =
        in_tail (suc p) k q ∙ ap (λ (xs : List ℕ). get_or xs (suc p) 0) claim_tail
        ∙ get_or_append_left (map place_word r.total) (s.closing ∷ []) 0 p (omega (arith, row_length))
        ∙ get_or-map place_word r.total p (pos 0) 0 h in
        let b = within_at 86400000 r.total p ok.near h in
        let f = place_fields z b.0 b.1 in
        let v = ap place_of w ∙ f.1 in
        (ap kind_bits w ∙ f.0, v, ap (beyond 86400000) v ∙ not_beyond 86400000 z b.0 b.1)

    is_claim_lem : is_claim d (words_of bs) (length c.waits) ≡ true
    is_claim_lem = eq-eqb (kind_bits (word_no (words_of bs) (base d (length c.waits)))) 4 claim_parts.0

    claim_fine : (p : ℕ) → p < 1 + d → Right m d (words_of bs) (base d (length c.waits) + p)
    claim_fine zero l =
        let n = length c.waits in
        let w = word_no (words_of bs) (base d n) in
        let k = claim_parts in
        let some = ok.some in
        let few = ok.few in
        subst (Right m d (words_of bs)) (let q : base d n ≡ base d n + 0 = omega arith in q)
        (right_at n 0 (base d n) l (omega arith)
        (ap (λ b. fault_in m (stated_events (words_of bs)) (item n b) w) (none_before n (omega arith)) ∙ claim_right m (stated_events (words_of bs)) n w k.0 (k.1, omega (arith, k.2), omega (arith, k.2)))
        (λ q. omega (arith, k.0)))
    claim_fine (suc p) l =
        let n = length c.waits in
        let w = word_no (words_of bs) (base d n + suc p) in
        let k = claim_place p (base d n + suc p) (omega arith) refl in
        right_at n (suc p) (base d n + suc p) l refl
        (ap (λ b. fault_in m (stated_events (words_of bs)) (place b) w) is_claim_lem ∙ place_right m (stated_events (words_of bs)) true w (k.0, k.2))
        (λ q. omega (arith, k.0))

    claim_back : claim_in d (words_of bs) (length c.waits) ≡ r
    claim_back =
        let n = length c.waits in
        let a : places_from d (words_of bs) (base d n + 1) ≡ r.total =
        sym (fill_by_all (λ p. place_of (word_no (words_of bs) (base d n + 1 + p))) r.total d (pos 0) ok.places (λ p l. sym (claim_place p (base d n + 1 + p) l (omega arith)).1)) in
        let b = claim_parts.2 in
        λ i. record { total = a i; count = b i }

    with_claim : Whole bs → Opens m d bs × (contents d (words_of bs) ≡ c)
    with_claim whole =
        let n = length c.waits in
        ends_after true (suc n) (omega arith) (λ j p l h q. subst (λ i. Right m d (words_of bs) (base d i + p)) (let z : n ≡ j = omega arith in z) (claim_fine p q))
        (in_tail (1 + d) (base d (suc n)) (next_base d n) ∙ ap₂ (λ (xs : List ℕ) i. get_or xs i 0) claim_tail (let z : 1 + d ≡ suc d = omega arith in z) ∙ get_or_push (map place_word r.total) s.closing 0 d row_length)
        (tail_length ∙ (let z : base d n + length tail ≡ base d (suc n) + 1 = omega (arith, ap length claim_tail, length_push (map place_word r.total) s.closing, row_length, next_base d n) in z))
        is_claim_lem (ap Some claim_back ∙ sym e) whole

  by_claim : (o : Option (Period (List ℤ))) → c.claim ≡ o → IfSome o (FileableClaim d) → Whole bs → Opens m d bs × (contents d (words_of bs) ≡ c)
  unfolding tail
  by_claim None e ok whole =
      let n = length c.waits in
      let t : tail ≡ s.closing ∷ [] = ap (λ o. claim_words o ++ (s.closing ∷ [])) e in
      ends_after false n (omega arith) (λ j p l h q. absurd (let z : ⊥ = omega arith in z))
      (in_tail 0 (base d n) (omega arith) ∙ ap (λ (xs : List ℕ). get_or xs 0 0) t)
      (tail_length ∙ ap (λ (xs : List ℕ). base d n + length xs) t)
      (none_before n (omega arith)) (sym e) whole
  by_claim (Some r) e ok whole = with_claim r e ok whole

  pub spelled_opens : Whole bs → Opens m d bs × (contents d (words_of bs) ≡ c)
  spelled_opens = by_claim c.claim refl fit.claim
