-- What the words of a file that opens are.
use Rattle.std.proofs.Common.{◌≡◌, ℕ, zero, suc, ◌+◌, ◌-◌, ◌*◌, ◌/◌, ◌%◌, ◌<◌, ◌≤◌, Bool, true, false, cond, List, map, length, ℤ, IfSome, Some, None, sym, refl, ap, ◌∙◌, subst, ⊎_elim, mul-le-mul_right, arith, eq-eqb, ne_eqb}
use Rattle.std.specs.List.{range_with_len}
use Rattle.std.specs.Option.{is_some}
use Rattle.std.proofs.lemmas.Nat.{div-mul-add, div-add-mod'}
use Rattle.std.proofs.lemmas.Bool.{cases_lt, eqb-true, cond-true, cond-false}
use Rattle.network.specs.Networks.{graph, Owed}
use Rattle.file.specs.Words.{words_of, kind_bits, word_no, middle, lower, place_of}
use Rattle.file.specs.Layout.{heading, item, place, base, in_item, role_at, is_claim, after_claim, stated_events, reach, beyond, fault_of, fault_in, ClosedAt}
use Rattle.file.specs.Contents.{places_from, first_waits, claim_in, item_count, has_claim, spelled_waits, contents}
use Rattle.file.proofs.WaitLists.{some_beyond, waits_length, waits_sound}
use Rattle.file.specs.Opening.{Opens}
use Rattle.file.specs.Reading.{Counted, Outlined}
use Rattle.file.specs.declared.reader.Outline.{Outline}
use Rattle.file.proofs.WordLists.{word_count}
use Rattle.file.proofs.RightWords.{HeadingFields, WaitFields, ClaimFields, PlaceFields, heading_shows, after_claim_lem, wait_shows, claim_shows, place_shows}
use Rattle.file.proofs.Steps.{role_in_item, next_base, item_before}

-- no number of a counted list is beyond b if none of its terms is
pub none_beyond : (b : ℕ) (f : ℕ → ℤ) (a n : ℕ) → ((p : ℕ) → p < n → beyond b (f (a + p)) ≡ false) → some_beyond b (map f (range_with_len a n)) ≡ false
none_beyond b f a zero h = refl
none_beyond b f a (suc n) h =
    let first : beyond b (f a) ≡ false = subst (λ i. beyond b (f i) ≡ false) (let e : a + 0 ≡ a = omega arith in e) (h 0 (omega arith)) in
    ap (λ t. cond t true (some_beyond b (map f (range_with_len (a + 1) n)))) first
    ∙ none_beyond b f (a + 1) n (λ p l. subst (λ i. beyond b (f i) ≡ false) (let e : a + suc p ≡ a + 1 + p = omega arith in e) (h (suc p) (omega arith)))

-- i items and no more stand before the last word
item_count_lem : (d : ℕ) (ws : List ℕ) (i : ℕ) → length ws ≡ base d i + 1 → item_count d ws ≡ i
item_count_lem d ws i e = ap (λ n. n / (1 + d)) (let z : length ws - 2 ≡ i * (1 + d) + 0 = omega arith in z) ∙ div-mul-add i (1 + d) 0 (omega arith)

-- the words of a claim after n waits lie before the last word
pub claim_inside : (d : ℕ) (ws : List ℕ) (n : ℕ) (c : Bool) → length ws ≡ base d (n + cond c 1 0) + 1 → c ≡ true → base d n + 1 + d < length ws
claim_inside d ws n c items t =
    let i : n + cond c 1 0 ≡ suc n = ap (λ (b : Bool). n + cond b 1 0) t ∙ omega arith in
    omega (arith, ap (base d) i, next_base d n)

-- and the words of the n waits do too
waits_inside : (d : ℕ) (ws : List ℕ) (n : ℕ) (c : Bool) → length ws ≡ base d (n + cond c 1 0) + 1 → base d n < length ws
waits_inside d ws n c items = omega (arith, mul-le-mul_right (1 + d) (let h : n ≤ n + cond c 1 0 = omega arith in h))

module _ (d : ℕ) (ws : List ℕ) (n : ℕ) (c : Bool) (items : length ws ≡ base d (n + cond c 1 0) + 1) (claims : c ≡ after_claim d ws (n + cond c 1 0)) where
  pub has_claim_lem : has_claim d ws ≡ c
  has_claim_lem = ap (after_claim d ws) (item_count_lem d ws (n + cond c 1 0) items) ∙ sym claims

  pub spelled_waits_lem : spelled_waits d ws ≡ n
  spelled_waits_lem =
      ap (λ i. i - cond (has_claim d ws) 1 0) (item_count_lem d ws (n + cond c 1 0) items)
      ∙ ap (λ (t : Bool). n + cond c 1 0 - cond t 1 0) has_claim_lem
      ∙ (let e : n + cond c 1 0 - cond c 1 0 ≡ n = omega arith in e)

-- the claim of a file, by what the reader found
module _ (d : ℕ) (ws : List ℕ) (o : Outline) (x : Outlined d ws o) where
  claim_is : has_claim d ws ≡ is_some o.claim
  claim_is = has_claim_lem d ws o.waits (is_some o.claim) x.counted.items x.counted.claims

  pub claim_none : o.claim ≡ None → (contents d ws).claim ≡ None
  claim_none e = cond-false _ _ _ (claim_is ∙ ap is_some e)

  pub claim_place : (k : ℕ) → o.claim ≡ Some k → k ≡ base d o.waits
  claim_place k e = subst (λ c. IfSome c (λ k. k ≡ base d o.waits)) e x.claim_at

  pub claim_some : (k : ℕ) → o.claim ≡ Some k → (contents d ws).claim ≡ Some (record { total = places_from d ws (k + 1); count = lower (word_no ws k) })
  claim_some k e =
      cond-true _ _ _ (claim_is ∙ ap is_some e)
      ∙ ap (λ j. Some (claim_in d ws j)) (spelled_waits_lem d ws o.waits (is_some o.claim) x.counted.items x.counted.claims)
      ∙ ap (λ i. Some (record { total = places_from d ws (i + 1); count = lower (word_no ws i) })) (sym (claim_place k e))

  pub claim_room : (k : ℕ) → o.claim ≡ Some k → k + 1 + d < length ws
  claim_room k e = omega (arith, claim_place k e, claim_inside d ws o.waits (is_some o.claim) x.counted.items (ap is_some e))

-- the words of a file that opens, with n waits and a claim if c says so
pub record Laid (m d : ℕ) (ws : List ℕ) (n : ℕ) (c : Bool) : Type 0 where
  pub last : ℕ
  pub ends : last + 1 ≡ length ws
  pub closed : ClosedAt m d ws last
  pub items : length ws ≡ base d (n + cond c 1 0) + 1
  pub claims : c ≡ after_claim d ws (n + cond c 1 0)

abbrev pub laid : {m d : ℕ} {bs : List ℕ} {events n : ℕ} {c : Bool} → Opens m d bs → Counted d (words_of bs) events n c → Laid m d (words_of bs) n c
laid o l = record { last = o.last; ends = o.ends; closed = o.closed; items = l.items; claims = l.claims }

module _ {m d : ℕ} {ws : List ℕ} {n : ℕ} {c : Bool} (x : Laid m d ws n c) where
  -- the first word of an item, in its role
  item_right : (j : ℕ) → base d j < x.last → (fault_in m (stated_events ws) (item j (after_claim d ws j)) (word_no ws (base d j)) ≡ 0) × (kind_bits (word_no ws (base d j)) ≡ 5 → ⊥)
  item_right j h =
      let r = x.closed.before (base d j) h in
      (sym (ap (λ r. fault_in m (stated_events ws) r (word_no ws (base d j))) (role_in_item d ws j 0 (base d j) (omega arith) (omega arith))) ∙ r.0, r.1)

  -- an item that counts as a wait is no claim: only the last item can be one
  wait_no_claim : (j : ℕ) → j < n → kind_bits (word_no ws (base d j)) ≡ 4 → ⊥
  wait_no_claim j h k =
      let t : is_claim d ws j ≡ true = eq-eqb (kind_bits (word_no ws (base d j))) 4 k in
      ⊎_elim
      (λ l.
      let r = item_right (suc j) (omega (arith, item_before d (suc j) (n + cond c 1 0) l)) in
      r.1 (after_claim_lem m (stated_events ws) (suc j) (word_no ws (base d (suc j))) (subst (λ b. fault_in m (stated_events ws) (item (suc j) b) (word_no ws (base d (suc j))) ≡ 0) t r.0)))
      (λ l. last_wait j h t l c refl)
      (cases_lt (suc j) (n + cond c 1 0))
    where
      last_wait : (j : ℕ) → j < n → is_claim d ws j ≡ true → n + cond c 1 0 ≤ suc j → (b : Bool) → c ≡ b → ⊥
      last_wait j h t l true e = let z : n + cond c 1 0 ≡ n + 1 = ap (λ (b : Bool). n + cond b 1 0) e in omega arith
      last_wait j h t l false e =
          let z : n + cond c 1 0 ≡ n + 0 = ap (λ (b : Bool). n + cond b 1 0) e in
          let i : n + cond c 1 0 ≡ suc j = omega arith in
          let q : true ≡ false = sym t ∙ sym (ap (after_claim d ws) i) ∙ sym x.claims ∙ e in
          let y : ◌≡◌ {A = ℕ} 0 1 = cc in omega arith

  pub item_inside : (j : ℕ) → j < n → base d j + (1 + d) ≤ x.last
  item_inside j h = omega (arith, item_before d j (n + cond c 1 0) (omega arith))

  -- the fields of the words: the heading, the first words of the waits and of the claim, and the places
  pub heading_fields : HeadingFields m (word_no ws 0)
  heading_fields = heading_shows m (stated_events ws) (word_no ws 0) (x.closed.before 0 (omega arith)).0

  pub wait_fields : (j : ℕ) → j < n → WaitFields (stated_events ws) j (word_no ws (base d j))
  wait_fields j h =
      let r = item_right j (omega (arith, item_inside j h)) in
      wait_shows m (stated_events ws) j (after_claim d ws j) (word_no ws (base d j)) r.0 r.1 (wait_no_claim j h)

  pub claim_fields : c ≡ true → (base d n + (1 + d) ≡ x.last) × (is_claim d ws n ≡ true) × (kind_bits (word_no ws (base d n)) ≡ 4) × ClaimFields (word_no ws (base d n))
  claim_fields e =
      let i : n + cond c 1 0 ≡ suc n = ap (λ (b : Bool). n + cond b 1 0) e ∙ omega arith in
      let l : base d n + (1 + d) ≡ x.last = omega (arith, ap (base d) i, next_base d n) in
      let t : is_claim d ws n ≡ true = sym (ap (after_claim d ws) i) ∙ sym x.claims ∙ e in
      let k = eqb-true (kind_bits (word_no ws (base d n))) 4 t in
      (l, t, k, claim_shows m (stated_events ws) n (after_claim d ws n) (word_no ws (base d n)) (item_right n (omega arith)).0 k)

  pub place_fields : (j : ℕ) (b : Bool) → base d j + (1 + d) ≤ x.last → is_claim d ws j ≡ b → (p : ℕ) → p < d → PlaceFields b (word_no ws (base d j + 1 + p))
  place_fields j b h e p l =
      let k = base d j + 1 + p in
      let role = role_in_item d ws j (suc p) k (omega arith) (omega arith) ∙ ap place e in
      place_shows m (stated_events ws) b (word_no ws k) (sym (ap (λ r. fault_in m (stated_events ws) r (word_no ws k)) role) ∙ (x.closed.before k (omega arith)).0)

  pub row_near : (j : ℕ) (b : Bool) → base d j + (1 + d) ≤ x.last → is_claim d ws j ≡ b → some_beyond (reach (place b)) (places_from d ws (base d j + 1)) ≡ false
  row_near j b h e =
      none_beyond (reach (place b)) (λ p. place_of (word_no ws (base d j + 1 + p))) 0 d (λ p l. (place_fields j b h e (0 + p) (omega arith)).1)

  pub wait_is : (j : ℕ) → j < n → is_claim d ws j ≡ false
  wait_is j h = ne_eqb (kind_bits (word_no ws (base d j))) 4 (wait_no_claim j h)

  few_waits : n ≤ 20000
  few_waits = ⊎_elim (λ h. omega arith) (λ h. omega (arith, (wait_fields (n - 1) (omega arith)).2)) (cases_lt n 1)

-- the closing word begins an item
closing_item : (m n d : ℕ) (ws : List ℕ) (k w : ℕ) → kind_bits w ≡ 5 → fault_in m n (role_at d ws k) w ≡ 0 → (j : ℕ) × (k ≡ base d j)
closing_item m n d ws zero w k5 e = let z : ◌≡◌ {A = ℕ} 2 0 = subst (λ k. fault_of m n heading k w ≡ 0) k5 e in absurd (omega arith)
closing_item m n d ws (suc k) w k5 e = go (k % (1 + d)) refl (subst (λ q. fault_of m n (in_item d ws (k / (1 + d)) (k % (1 + d))) q w ≡ 0) k5 e)
  where
    go : (p : ℕ) → k % (1 + d) ≡ p → fault_of m n (in_item d ws (k / (1 + d)) p) 5 w ≡ 0 → (j : ℕ) × (suc k ≡ base d j)
    go zero q f = (k / (1 + d), omega (arith, div-add-mod' k (1 + d)))
    go (suc p) q f = let z : ◌≡◌ {A = ℕ} 2 0 = f in absurd (omega arith)

-- so a file that opens is what its item count says
pub outlined : (m d : ℕ) (bs : List ℕ) → Opens m d bs → Counted d (words_of bs) (stated_events (words_of bs)) (spelled_waits d (words_of bs)) (has_claim d (words_of bs))
outlined m d bs o =
    let ws = words_of bs in
    let j = closing_item m (stated_events ws) d ws o.last (word_no ws o.last) o.closed.closing o.closed.right in
    let i : item_count d ws ≡ j.0 = item_count_lem d ws j.0 (sym o.ends ∙ ap (λ k. k + 1) j.1) in
    let n : spelled_waits d ws + cond (has_claim d ws) 1 0 ≡ item_count d ws = whole d ws (item_count d ws) in
    record {
      stated = refl;
      items = sym o.ends ∙ ap (λ k. k + 1) j.1 ∙ ap (λ i. base d i + 1) (sym (n ∙ i));
      claims = ap (after_claim d ws) (sym n);
    }
  where
    whole : (d : ℕ) (ws : List ℕ) (i : ℕ) → i - cond (after_claim d ws i) 1 0 + cond (after_claim d ws i) 1 0 ≡ i
    whole d ws zero = refl
    whole d ws (suc i) = taken i (is_claim d ws i)
      where
        taken : (i : ℕ) (c : Bool) → suc i - cond c 1 0 + cond c 1 0 ≡ suc i
        taken i true = omega arith
        taken i false = omega arith

-- what an opened file carries with it
pub record Facts (d : ℕ) (bs : List ℕ) (events waits : ℕ) : Type 0 where
  pub owed : Owed (graph events (first_waits d (words_of bs) waits))
  pub room : 4 * base d waits ≤ length bs

pub facts : (m d : ℕ) (bs : List ℕ) (events n : ℕ) (c : Bool) → Opens m d bs → Counted d (words_of bs) events n c → Facts d bs events n
facts m d bs events n c o l =
    let ws = words_of bs in
    let x = laid o l in
    record {
      owed = record {
        few = subst (λ e. e ≤ 1000) (sym l.stated) (heading_fields x).4;
        short = omega (arith, few_waits x, waits_length d ws n);
        sound = waits_sound d ws n events
            (λ j h. subst (λ e. middle (word_no ws (base d j)) < e) (sym l.stated) (wait_fields x j h).3)
            (λ j h. subst (λ e. lower (word_no ws (base d j)) < e) (sym l.stated) (wait_fields x j h).4)
            (λ j h. row_near x j false (item_inside x j h) (wait_is x j h));
      };
      room = omega (arith, word_count bs, waits_inside d ws n c l.items);
    }
