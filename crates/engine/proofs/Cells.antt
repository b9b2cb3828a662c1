-- Entries of a slice read as what they stand for, and a slice that was written in a part.
use Rattle.std.proofs.Common.{◌≡◌, ℕ, ◌+◌, ◌-◌, ◌<◌, ◌≤◌, ◌≢◌, List, ◌++◌, map, length, get_or, take, drop, set, sym, ap, ◌∙◌, arith, get_or-set_other, get_or-set_same}
use lib.ListN.{length-map}
use Rattle.std.proofs.Math.Seq.{drop-append-add}
use Rattle.std.proofs.lemmas.List.{get_or-map, map-set, map-append, get_or_append_left, get_or-append-add, get_or-take, get_or-drop}
use Rattle.std.proofs.lemmas.Slice.{drop-append-drop}

-- entry i of the slice xs, read by f
abbrev pub cell : {X A : Type 0} → (X → A) → A → List X → ℕ → A
cell f z xs i = get_or (map f xs) i z

module _ {X A : Type 0} (f : X → A) (z : A) where
  -- an element that was read
  pub cell_read : (xs : List X) (i : ℕ) (x : X) → i < length xs → x ≡ get_or xs i x → cell f z xs i ≡ f x
  cell_read xs i x h e = get_or-map f xs i x z h ∙ ap f (sym e)

  -- one that was written, and any other
  pub cell_same : (xs : List X) (i : ℕ) (y : X) → i < length xs → cell f z (set xs i y) i ≡ f y
  cell_same xs i y h = ap (λ (ys : List A). get_or ys i z) (map-set f xs i y) ∙ get_or-set_same (map f xs) i (f y) z (simp length-map h)

  pub cell_other : (xs : List X) (i j : ℕ) (y : X) → j ≢ i → cell f z (set xs i y) j ≡ cell f z xs j
  cell_other xs i j y h = ap (λ (ys : List A). get_or ys j z) (map-set f xs i y) ∙ get_or-set_other (map f xs) i j (f y) z h

  -- one of the front of a slice
  pub cell_left : (xs ys : List X) (i : ℕ) → i < length xs → cell f z (xs ++ ys) i ≡ cell f z xs i
  cell_left xs ys i h = ap (λ (q : List A). get_or q i z) (map-append f xs ys) ∙ get_or_append_left (map f xs) (map f ys) z i (simp length-map h)

-- a list split in two
module _ {A : Type 0} (xs front back : List A) (value : xs ≡ front ++ back) where
  -- an entry of its front, read from place s on
  pub split_read : (z : A) (s v : ℕ) → s + v < length front → get_or (take (length front - s) (drop s front)) v z ≡ get_or xs (s + v) z
  split_read z s v h =
      get_or-take (length front - s) (drop s front) v z (omega arith) ∙ get_or-drop s front v z ∙ sym (get_or_append_left front back z (s + v) h) ∙ ap (λ (q : List A). get_or q (s + v) z) (sym value)

  module _ (p : List A) (n : ℕ) where
    -- the same, its back written in the first n places
    abbrev pub rewritten : List A
    rewritten = front ++ (p ++ drop n back)

    -- an entry of the front stays, and one in those places is what was written
    pub split_before : (z : A) (i : ℕ) → i < length front → get_or rewritten i z ≡ get_or xs i z
    split_before z i h = get_or_append_left front (p ++ drop n back) z i h ∙ sym (get_or_append_left front back z i h) ∙ ap (λ (q : List A). get_or q i z) (sym value)

    pub split_new : (z : A) (u : ℕ) → u < length p → get_or rewritten (length front + u) z ≡ get_or p u z
    split_new z u h = get_or-append-add front (p ++ drop n back) u z ∙ get_or_append_left p (drop n back) z u h

    -- what lies past them stays
    pub split_past : (h : ℕ) → length p ≡ n → length front + n ≤ h → drop h rewritten ≡ drop h xs
    split_past h size past = further (p ++ drop n back) ∙ drop-append-drop n back p (h - length front) (omega arith) size ∙ sym (further back) ∙ ap (drop h) (sym value)
      where
        further : (q : List A) → drop h (front ++ q) ≡ drop (h - length front) q
        further q = ap (λ i. drop i (front ++ q)) (let e : h ≡ length front + (h - length front) = omega arith in e) ∙ drop-append-add front q (h - length front)
