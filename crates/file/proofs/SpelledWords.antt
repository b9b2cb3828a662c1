-- The words of a file that opens are those that spell its contents.
use Rattle.std.proofs.Common.{◌≡◌, ℕ, zero, suc, ◌+◌, ◌-◌, ◌*◌, ◌%◌, ◌^◌, ◌<◌, ◌≤◌, Bool, true, false, cond, ltb, List, [], ◌∷◌, ◌++◌, map, length, take, drop, pos, negsuc, ◌-ℤ◌, IfSome, Some, None, sym, refl, ap, ◌∙◌, subst, ap₂, append_assoc, arith, drop-cons}
use lib.Seq.{drop-length}
use Rattle.std.specs.List.{range_with_len}
use Rattle.std.proofs.lemmas.List.FromFn.{length-map-range_with_len}
use Rattle.std.proofs.lemmas.List.{take_at, length_push}
use Rattle.std.proofs.lemmas.Int.{ints}
use Rattle.network.specs.Networks.{graph}
use Rattle.file.specs.Words.{words_of, word_no, kind_bits, middle, lower, place_of}
use Rattle.file.specs.Columns.{Agrees}
use Rattle.file.specs.Layout.{base, is_claim, stated_events}
use Rattle.file.specs.Contents.{places_from, wait_in, claim_in, first_waits, meant, contents, has_claim, spelled_waits}
use Rattle.file.specs.Opening.{Opens}
use Rattle.file.specs.Spelling.{place_bits, place_word, wait_words, waits_words, claim_words, spelling, Spelled, Fileable, FileableClaim}
use Rattle.file.proofs.WaitLists.{waits_length, waits_at}
use Rattle.file.proofs.Steps.{next_base}
use Rattle.file.proofs.RightWords.{HeadingFields, WaitFields, ClaimFields}
use Rattle.file.proofs.Kept.{Laid, laid, outlined, facts, item_inside, heading_fields, wait_fields, claim_fields, place_fields}
use Rattle.file.proofs.Claims.{places_right}

-- a right word is made of its kind and its fields
heading_word : (m w : ℕ) → HeadingFields m w → w ≡ 1 * 2 ^ 28 + m * 2 ^ 24 + lower w
heading_word m w f = omega (arith, f.0, f.1, f.2)

wait_word : (n j w : ℕ) → WaitFields n j w → w ≡ 2 * 2 ^ 28 + middle w * 2 ^ 12 + lower w
wait_word n j w f = omega (arith, f.0, f.1)

claim_word : (w : ℕ) → kind_bits w ≡ 4 → ClaimFields w → w ≡ 4 * 2 ^ 28 + lower w
claim_word w k f = omega (arith, f.0)

place_word_lem : (w : ℕ) → kind_bits w ≡ 3 → w ≡ place_word (place_of w)
place_word_lem w k = let e = two's (w % 2 ^ 28) (omega arith) in omega (arith, k, e)
  where
    two's : (b : ℕ) → b < 2 ^ 28 → place_bits (cond (ltb b (2 ^ 27)) (pos b) (pos b -ℤ pos (2 ^ 28))) ≡ b
    two's b h = go (ltb b (2 ^ 27)) refl
      where
        go : (t : Bool) → ltb b (2 ^ 27) ≡ t → place_bits (cond t (pos b) (pos b -ℤ pos (2 ^ 28))) ≡ b
        go true e = refl
        go false e = ap place_bits (let z : pos b -ℤ pos (2 ^ 28) ≡ negsuc (2 ^ 28 - suc b) = omega (arith, ints) in z) ∙ omega arith

-- the words from word k + a on, d of them places
places_spelled : (ws : List ℕ) (k d a : ℕ) → k + a + d ≤ length ws → ((p : ℕ) → a ≤ p → p < a + d → kind_bits (word_no ws (k + p)) ≡ 3)
    → drop (k + a) ws ≡ map place_word (map (λ p. place_of (word_no ws (k + p))) (range_with_len a d)) ++ drop (k + a + d) ws
places_spelled ws k zero a l h = ap (λ i. drop i ws) (let e : k + a ≡ k + a + 0 = omega arith in e)
places_spelled ws k (suc d) a l h =
    drop-cons ws (k + a) 0 (omega arith)
    ∙ ap₂ (λ x (xs : List ℕ). x ∷ xs) (place_word_lem (word_no ws (k + a)) (h a (omega arith) (omega arith)))
    (ap (λ i. drop i ws) (let e : suc (k + a) ≡ k + (a + 1) = omega arith in e)
    ∙ places_spelled ws k d (a + 1) (omega arith) (λ p q r. h p (omega arith) (omega arith))
    ∙ ap (λ i. map place_word (map (λ p. place_of (word_no ws (k + p))) (range_with_len (a + 1) d)) ++ drop i ws) (let e : k + (a + 1) + d ≡ k + a + suc d = omega arith in e))

module _ {m d : ℕ} {ws : List ℕ} {n : ℕ} {c : Bool} (x : Laid m d ws n c) where
  -- an item with this first word
  item_spelled : (j w : ℕ) → base d j + (1 + d) ≤ x.last → word_no ws (base d j) ≡ w → drop (base d j) ws ≡ (w ∷ map place_word (places_from d ws (base d j + 1))) ++ drop (base d (suc j)) ws
  item_spelled j w h e =
      let f = drop-cons ws (base d j) 0 (omega arith) in
      let g = places_spelled ws (base d j + 1) d 0 (omega arith) (λ p q r. (place_fields x j (is_claim d ws j) h refl p (omega arith)).0) in
      f ∙ ap₂ (λ y (ys : List ℕ). y ∷ ys) e
      (ap (λ i. drop i ws) (let q : suc (base d j) ≡ base d j + 1 + 0 = omega arith in q) ∙ g
      ∙ ap (λ i. map place_word (places_from d ws (base d j + 1)) ++ drop i ws) (let q : base d j + 1 + 0 + d ≡ base d (suc j) = omega (arith, next_base d j) in q))

  waits_spelled : (k j : ℕ) → j + k ≤ n → drop (base d j) ws ≡ waits_words (map (wait_in d ws) (range_with_len j k)) ++ drop (base d (j + k)) ws
  waits_spelled zero j h = ap (λ i. drop (base d i) ws) (let e : j ≡ j + 0 = omega arith in e)
  waits_spelled (suc k) j h =
      item_spelled j _ (item_inside x j (omega arith)) (wait_word (stated_events ws) j (word_no ws (base d j)) (wait_fields x j (omega arith)))
      ∙ ap (λ i. wait_words (wait_in d ws j) ++ drop (base d i) ws) (let e : suc j ≡ j + 1 = omega arith in e)
      ∙ ap (λ (ys : List ℕ). wait_words (wait_in d ws j) ++ ys) (waits_spelled k (j + 1) (omega arith))
      ∙ sym (append_assoc (wait_words (wait_in d ws j)) (waits_words (map (wait_in d ws) (range_with_len (j + 1) k))) (drop (base d (j + 1 + k)) ws))
      ∙ ap (λ i. waits_words (map (wait_in d ws) (range_with_len j (suc k))) ++ drop (base d i) ws) (let e : j + 1 + k ≡ j + suc k = omega arith in e)

  claim_spelled : (b : Bool) → c ≡ b → drop (base d n) ws ≡ claim_words (cond b (Some (claim_in d ws n)) None) ++ drop x.last ws
  claim_spelled true e =
      let f = claim_fields x e in
      item_spelled n _ (omega (arith, f.0)) (claim_word (word_no ws (base d n)) f.2 f.3)
      ∙ ap (λ i. claim_words (Some (claim_in d ws n)) ++ drop i ws) (let z : base d (suc n) ≡ x.last = omega (arith, next_base d n, f.0) in z)
  claim_spelled false e =
      ap (λ i. drop i ws) (let z : base d n ≡ x.last = omega (arith, ap (λ (b : Bool). base d (n + cond b 1 0)) e, ap (base d) (let q : n + 0 ≡ n = omega arith in q)) in z)

  last_spelled : drop x.last ws ≡ word_no ws x.last ∷ []
  last_spelled =
      drop-cons ws x.last 0 (omega arith)
      ∙ ap (λ (ys : List ℕ). word_no ws x.last ∷ ys) (ap (λ i. drop i ws) (let e : suc x.last ≡ length ws = omega arith in e) ∙ drop-length ws)

  all_spelled : ws ≡ spelling m (meant (graph (stated_events ws) (first_waits d ws n)) (cond c (Some (claim_in d ws n)) None)) ++ (word_no ws x.last ∷ [])
  all_spelled =
      let waits = waits_words (map (wait_in d ws) (range_with_len 0 n)) in
      let claim = claim_words (cond c (Some (claim_in d ws n)) None) in
      drop-cons ws 0 0 (omega arith)
      ∙ ap₂ (λ y (ys : List ℕ). y ∷ ys) (heading_word m (word_no ws 0) (heading_fields x))
      (ap (λ i. drop i ws) (let e : 1 ≡ base d 0 = omega arith in e)
      ∙ waits_spelled n 0 (omega arith)
      ∙ ap (λ i. waits ++ drop (base d i) ws) (let e : 0 + n ≡ n = omega arith in e)
      ∙ ap (λ (ys : List ℕ). waits ++ ys) (claim_spelled c refl ∙ ap (λ (ys : List ℕ). claim ++ ys) last_spelled)
      ∙ sym (append_assoc waits claim (word_no ws x.last ∷ [])))

  -- the claim can be held by a file
  claim_fileable : (b : Bool) → c ≡ b → IfSome (cond b (Some (claim_in d ws n)) None) (FileableClaim d)
  claim_fileable false e = tt
  claim_fileable true e =
      let f = claim_fields x e in
      record {
        some = f.3.1;
        few = f.3.2;
        places = length-map-range_with_len (λ p. place_of (word_no ws (base d n + 1 + p))) 0 d;
        near = places_right m d ws x.last x.closed n f.1 (omega (arith, f.0));
      }

-- and so can all contents of what opens
pub fileable : (m d : ℕ) (bs : List ℕ) → Opens m d bs → Fileable m d (contents d (words_of bs))
fileable m d bs o =
    let ws = words_of bs in
    let l = outlined m d bs o in
    let f = facts m d bs (stated_events ws) (spelled_waits d ws) (has_claim d ws) o l in
    let h = heading_fields (laid o l) in
    record {
      measure = omega (arith, h.2);
      some = h.3;
      few = h.4;
      short = f.owed.short;
      waits = λ j q.
          record {
            starts = f.owed.sound.starts j q;
            ends = f.owed.sound.ends j q;
            places = ap (λ w. length w.amount) (waits_at d ws (spelled_waits d ws) j (omega (arith, q, waits_length d ws (spelled_waits d ws)))) ∙ length-map-range_with_len (λ p. place_of (word_no ws (base d j + 1 + p))) 0 d;
            near = f.owed.sound.spans j q;
          };
      claim = claim_fileable (laid o l) (has_claim d ws) refl;
    }

pub spelled : (m d : ℕ) (bs : List ℕ) → Opens m d bs → Spelled m (contents d (words_of bs)) (words_of bs)
spelled m d bs o =
    let ws = words_of bs in
    let s = spelling m (contents d ws) in
    let w : ws ≡ s ++ (word_no ws o.last ∷ []) = all_spelled (laid o (outlined m d bs o)) in
    let n : length s ≡ o.last = omega (arith, ap length w, length_push s (word_no ws o.last), o.ends) in
    let t : take o.last ws ≡ s = ap (take o.last) w ∙ take_at s (word_no ws o.last ∷ []) o.last n in
    record {
      closing = word_no ws o.last;
      words = w;
      kind = o.closed.closing;
      agrees = subst (λ b. Agrees b (word_no ws o.last)) t o.checked;
    }
