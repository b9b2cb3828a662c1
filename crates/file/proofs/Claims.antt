-- The claim of a file that opens has a count of at most 1,000, and its places lie in their range.
use Rattle.std.proofs.Common.{◌≡◌, ℕ, zero, suc, ◌+◌, ◌-◌, ◌*◌, ◌<◌, ◌≤◌, Bool, true, false, cond, List, length, ℤ, Some, None, sym, refl, ap, ◌∙◌, subst, suc-mul, div-mul-le_self, arith}
use Rattle.std.proofs.lemmas.Bool.Decides.{nat_tests}
use Rattle.std.proofs.lemmas.Bool.{eqb-true}
use Rattle.amount.specs.Rows.{Row, Within, places}
use Rattle.network.specs.declared.Period.{Period}
use Rattle.network.specs.Networks.{AllWithin}
use Rattle.file.specs.Words.{words_of, kind_bits, word_no, lower, place_of}
use Rattle.file.specs.Layout.{Role, place, role_at, base, is_claim, after_claim, stated_events, beyond, fault_of, fault_in, ClosedAt}
use Rattle.file.specs.Contents.{places_from, claim_in, item_count, has_claim, spelled_waits, contents}
use Rattle.file.specs.Opening.{Opens}
use Rattle.file.proofs.WaitLists.{within}
use Rattle.file.proofs.Steps.{role_in_item}
use Rattle.file.proofs.Kept.{none_beyond}

-- what a right claim word shows, and a right place of a claim
right_claim : (m n : ℕ) (r : Role) (k w : ℕ) → fault_of m n r k w ≡ 0 → k ≡ 4 → lower w ≤ 1000
right_claim m n r k w e f = grind (arith, nat_tests)

right_claim_place : (m n k w : ℕ) → fault_of m n (place true) k w ≡ 0 → beyond 86400000 (place_of w) ≡ false
right_claim_place m n k w e = grind (arith, nat_tests)

-- item j is a claim, and lies before the closing word
module _ (m d : ℕ) (ws : List ℕ) (last : ℕ) (closed : ClosedAt m d ws last) (j : ℕ) (claim : is_claim d ws j ≡ true) (inside : base d j + d < last) where
  count_right : lower (word_no ws (base d j)) ≤ 1000
  count_right = right_claim m (stated_events ws) (role_at d ws (base d j)) (kind_bits (word_no ws (base d j))) (word_no ws (base d j)) (closed.before (base d j) (omega arith)).0 (eqb-true (kind_bits (word_no ws (base d j))) 4 claim)

  pub places_right : AllWithin 86400000 (places_from d ws (base d j + 1))
  places_right = within 86400000 (places_from d ws (base d j + 1)) (none_beyond 86400000 (λ p. place_of (word_no ws (base d j + 1 + p))) 0 d (λ p l.
      let k = base d j + 1 + (0 + p) in
      let role = role_in_item d ws j (suc p) k (omega arith) (omega arith) ∙ ap place claim in
      right_claim_place m (stated_events ws) (kind_bits (word_no ws k)) (word_no ws k)
      (sym (ap (λ r. fault_in m (stated_events ws) r (word_no ws k)) role) ∙ (closed.before k (omega arith)).0)))

-- a claim of i items, the last of which is one or not
claim_of_items : (m d : ℕ) (ws : List ℕ) (last : ℕ) → ClosedAt m d ws last → last + 1 ≡ length ws → (c : Period (List ℤ)) → (contents d ws).claim ≡ Some c
    → (i : ℕ) (b : Bool) → item_count d ws ≡ i → after_claim d ws i ≡ b → (c.count ≤ 1000) × AllWithin 86400000 c.total
claim_of_items m d ws last closed ends c e zero b f t =
    let n = ap (λ b. cond b (Some (claim_in d ws (spelled_waits d ws))) None) (ap (after_claim d ws) f) in
    let z : ◌≡◌ {A = ℕ} 0 1 = cc in absurd (omega arith)
claim_of_items m d ws last closed ends c e (suc j) false f t =
    let n = ap (λ b. cond b (Some (claim_in d ws (spelled_waits d ws))) None) (ap (after_claim d ws) f ∙ t) in
    let z : ◌≡◌ {A = ℕ} 0 1 = cc in absurd (omega arith)
claim_of_items m d ws last closed ends c e (suc j) true f t =
    let h : has_claim d ws ≡ true = ap (after_claim d ws) f ∙ t in
    let w : spelled_waits d ws ≡ j = ap (λ (b : Bool). item_count d ws - cond b 1 0) h ∙ omega arith in
    let s : Some (claim_in d ws j) ≡ Some c = sym (λ i. cond (h i) (Some (claim_in d ws (w i))) None) ∙ e in
    let same : claim_in d ws j ≡ c = cc in
    let room : suc j * (1 + d) ≤ length ws - 2 = subst (λ i. i * (1 + d) ≤ length ws - 2) f (div-mul-le_self (length ws - 2) (1 + d)) in
    let inside : base d j + d < last = omega (arith, suc-mul j (1 + d)) in
    subst (λ (x : Period (List ℤ)). (x.count ≤ 1000) × AllWithin 86400000 x.total) same (count_right m d ws last closed j t inside, places_right m d ws last closed j t inside)

-- the claim of a file that opens
pub claim_right : (m d : ℕ) (bs : List ℕ) → Opens m d bs → (c : Period (List ℤ)) → (contents d (words_of bs)).claim ≡ Some c → (c.count ≤ 1000) × AllWithin 86400000 c.total
claim_right m d bs o c e = claim_of_items m d (words_of bs) o.last o.closed o.ends c e (item_count d (words_of bs)) (has_claim d (words_of bs)) refl refl

-- places that lie within b are those of a row that does
pub row_within : (d b : ℕ) (r : Row d) → AllWithin b (places d r) → Within d b r
row_within zero b r h = tt
row_within (suc d) b r h = (h.0, h.1, row_within d b r.1 h.2)
