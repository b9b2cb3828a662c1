-- A list whose elements from i + 1 up to j have moved down by one.
use Rattle.std.proofs.Common.{◌≡◌, ℕ, ◌+◌, ◌<◌, ◌≤◌, ◌≢◌, List, length, get_or, take, drop, set, sym, ◌∙◌, subst, ⊎_elim, arith, length-drop, length-take, get_or-drop, get_or-set_other, get_or-take, get_or-set_same}
use Rattle.std.specs.List.{remove}
use Rattle.std.proofs.lemmas.List.{get_or_default, same_lists, length-set}
use Rattle.std.proofs.lemmas.List.Edits.{length-remove, get_or-remove_below, get_or-remove_above}
use Rattle.std.proofs.lemmas.Bool.{cases_eq, cases_lt}

-- from i up to j the new list has the next elements of the old one, and elsewhere the same
pub record Shifted {W : Type 0} (old new : List W) (i j : ℕ) : Type 0 where
  pub size : length new ≡ length old
  pub front : (k : ℕ) (d : W) → k < i → get_or new k d ≡ get_or old k d
  pub moved : (k : ℕ) (d : W) → i ≤ k → k < j → get_or new k d ≡ get_or old (k + 1) d
  pub back : (k : ℕ) (d : W) → j ≤ k → get_or new k d ≡ get_or old k d

module _ {W : Type 0} (old new : List W) (i j : ℕ) (h : Shifted old new i j) where
  -- one element more moves down
  pub shifted_more : (d : W) → i ≤ j → j + 1 < length old → Shifted old (set new j (get_or new (j + 1) d)) i (j + 1)
  shifted_more d le lt =
      let in' : j < length new = omega (arith, h.size) in
      record {
        size = length-set new j _ ∙ h.size;
        front = λ k e l. let ne : k ≢ j = omega arith in rw get_or-set_other (h.front k e l);
        moved = λ k e l u. ⊎_elim
            (λ (s : k ≡ j). subst (λ m. get_or (set new j (get_or new (j + 1) d)) m e ≡ get_or old (m + 1) e) (sym s) (rw get_or-set_same (h.back (j + 1) d (omega arith) ∙ get_or_default old (j + 1) d e lt)))
            (λ (ne : k ≢ j). rw get_or-set_other (h.moved k e l (omega arith)))
            (cases_eq k j);
        back = λ k e l. let ne : k ≢ j = omega arith in rw get_or-set_other (h.back k e (omega arith));
      }

  -- what lies from j on stays
  pub shifted_rest : drop j new ≡ drop j old
  shifted_rest =
      same_lists (drop j new) (drop j old) (simp length-drop (omega (arith, h.size)))
      (λ k d l. get_or-drop j new k d ∙ h.back (j + k) d (omega arith) ∙ sym (get_or-drop j old k d))

  -- the front is the old one with element i taken out
  pub shifted_list : i ≤ j → j < length old → take j new ≡ remove (take (j + 1) old) i
  shifted_list le lt =
      let n : length (take (j + 1) old) ≡ j + 1 = simp length-take (omega arith) in
      let m : length (take j new) ≡ j = simp length-take (omega (arith, h.size)) in
      let r : length (remove (take (j + 1) old) i) + 1 ≡ length (take (j + 1) old) = length-remove (take (j + 1) old) i (omega arith) in
      same_lists (take j new) (remove (take (j + 1) old) i) (omega arith)
      (λ k d l.
      let b : k < j = omega arith in
      let b' : k < j + 1 = omega arith in
      let b'' : k + 1 < j + 1 = omega arith in
      ⊎_elim
      (λ (u : k < i). get_or-take j new k d b ∙ h.front k d u ∙ sym (get_or-remove_below (take (j + 1) old) i d k u (omega arith) ∙ get_or-take (j + 1) old k d b'))
      (λ (u : i ≤ k). get_or-take j new k d b ∙ h.moved k d u b ∙ sym (get_or-remove_above (take (j + 1) old) i d k u (omega arith) ∙ get_or-take (j + 1) old (k + 1) d b''))
      (cases_lt k i))
