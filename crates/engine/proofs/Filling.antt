-- One row of the tables filled, wait by wait, from the row before.
use Rattle.std.proofs.Common.{◌≡◌, ℕ, zero, suc, ◌+◌, ◌-◌, ◌*◌, ◌<◌, ◌≤◌, T, ◌≢◌, List, ◌++◌, map, length, get_or, take, drop, set, sym, refl, ap, ◌∙◌, subst, subst₂, add-one, suc-mul, mul-le-mul_right, arith, get_or-set_other, get_or-set_same}
use lib.ListN.{length-map}
use native.Mathlib.Decide.{ℕ_discrete, dec_lt}
use Rattle.std.proofs.lemmas.List.{map-append, take-map, drop-map}
use Rattle.amount.specs.Groups.{Ordered}
use Rattle.network.specs.Walks.{Net}
use Rattle.engine.specs.Tables.{Entry, Live}
use Rattle.engine.proofs.Relaxed.{Part, brings, part_none, part_skip, part_first, part_keep, part_better}
use Rattle.engine.proofs.Cells.{cell, cell_same, cell_other, split_read, rewritten, split_before, split_new}

-- the row nx and en being filled, from the row d and m, with the waits below c looked at
abbrev pub Filled : {A : Type 0} → Ordered A → Net A → ℕ → (ℕ → A) → (ℕ → ℕ) → ℕ → (ℕ → A) → (ℕ → ℕ) → Type 0
Filled G N k d m c nx en = (v : ℕ) → v < N.events → Part G N k d m c v (nx v) (en v)

module _ {A : Type 0} (G : Ordered A) (N : Net A) (k : ℕ) (d : ℕ → A) (m : ℕ → ℕ) (c : ℕ) (nx : ℕ → A) (en : ℕ → ℕ) where
  -- a wait to whose start no walk leads
  pub filled_dead : ¬ Live k (m (N.from c)) → Filled G N k d m c nx en → Filled G N k d m (c + 1) nx en
  filled_dead dead p v h = part_skip G N k d m v c _ _ (λ o. dead o.1) (p v h)

  -- a wait that brings no more than is held
  pub filled_keep : 0 < en (N.to c) → T (G.leq (brings G N d c) (nx (N.to c))) → Filled G N k d m c nx en → Filled G N k d m (c + 1) nx en
  filled_keep pos le p v h =
      elim (ℕ_discrete (N.to c) v) [
        | yes e ↦ part_keep G N k d m v c _ _ (subst (λ x. 0 < en x) e pos) (subst (λ x. T (G.leq (brings G N d c) (nx x))) e le) (p v h)
        | no e ↦ part_skip G N k d m v c _ _ (λ o. e o.0) (p v h)
      ]

  -- a wait that brings more, written with its mark
  pub filled_write : (nx' : ℕ → A) (en' : ℕ → ℕ) → nx' (N.to c) ≡ brings G N d c → en' (N.to c) ≡ suc c → ((v : ℕ) → N.to c ≢ v → (nx' v ≡ nx v) × (en' v ≡ en v))
      → Live k (m (N.from c)) → (0 < en (N.to c) → ¬ T (G.leq (brings G N d c) (nx (N.to c)))) → Filled G N k d m c nx en → Filled G N k d m (c + 1) nx' en'
  filled_write nx' en' is mark rest live above p v h =
      elim (ℕ_discrete (N.to c) v) [
        | yes e ↦ subst₂ (Part G N k d m (c + 1) v) (sym (ap nx' (sym e) ∙ is)) (sym (ap en' (sym e) ∙ mark)) (new e (en v) refl)
        | no e ↦ subst₂ (Part G N k d m (c + 1) v) (sym (rest v e).0) (sym (rest v e).1) (part_skip G N k d m v c _ _ (λ o. e o.0) (p v h))
      ]
    where
      new : N.to c ≡ v → (b : ℕ) → en v ≡ b → Part G N k d m (c + 1) v (brings G N d c) (suc c)
      new e zero eb = part_first G N k d m v c (nx v) (e, live) (subst (Part G N k d m c v (nx v)) eb (p v h))
      new e (suc b) eb = part_better G N k d m v c (nx v) (en v) (omega arith) (e, live) (subst (λ x. ¬ T (G.leq (brings G N d c) (nx x))) e (above (subst (λ x. 0 < en x) (sym e) (omega arith)))) (p v h)

-- the slices x and y of the row being filled, from those of the row before, a and b, with the waits below c looked at
abbrev pub Filling : {X A : Type 0} → Ordered A → Net A → (X → A) → ℕ → List X → List ℕ → ℕ → List X → List ℕ → Type 0
Filling G N f k a b c x y = Filled G N k (cell f G.nil a) (λ u. get_or b u 0) c (cell f G.nil x) (λ u. get_or y u 0)

module _ {X A : Type 0} (G : Ordered A) (N : Net A) (f : X → A) (k : ℕ) (a : List X) (b : List ℕ) where
  abbrev D : ℕ → A
  D = cell f G.nil a

  abbrev M : ℕ → ℕ
  M u = get_or b u 0

  -- the row cleared
  pub filling_none : (x : List X) (y : List ℕ) → ((v : ℕ) → v < N.events → (cell f G.nil x v ≡ G.nil) × (get_or y v 0 ≡ 0)) → Filling G N f k a b 0 x y
  filling_none x y clear v h = let e = clear v h in subst₂ (Part G N k D M 0 v) (sym e.0) (sym e.1) (part_none G N k D M v)

  module _ (c : ℕ) (x : List X) (y : List ℕ) (filled : Filling G N f k a b c x y) where
    -- the same of slices
    pub filling_dead : ¬ Live k (M (N.from c)) → Filling G N f k a b (c + 1) x y
    filling_dead dead = filled_dead G N k D M c (cell f G.nil x) (λ u. get_or y u 0) dead filled

    pub filling_keep : 0 < get_or y (N.to c) 0 → T (G.leq (brings G N D c) (cell f G.nil x (N.to c))) → Filling G N f k a b (c + 1) x y
    filling_keep pos le = filled_keep G N k D M c (cell f G.nil x) (λ u. get_or y u 0) pos le filled

    pub filling_write : (t : X) → N.to c < length x → N.to c < length y → f t ≡ brings G N D c → Live k (M (N.from c))
        → (0 < get_or y (N.to c) 0 → ¬ T (G.leq (brings G N D c) (cell f G.nil x (N.to c)))) → Filling G N f k a b (c + 1) (set x (N.to c) t) (set y (N.to c) (c + 1))
    filling_write t hx hy is live above =
        filled_write G N k D M c (cell f G.nil x) (λ u. get_or y u 0) (cell f G.nil (set x (N.to c) t)) (λ u. get_or (set y (N.to c) (c + 1)) u 0)
        (cell_same f G.nil x (N.to c) t hx ∙ is) (get_or-set_same y (N.to c) (c + 1) 0 hy ∙ add-one c)
        (λ v e. (cell_other f G.nil x (N.to c) v t (λ s. e (sym s)), get_or-set_other y (N.to c) v (c + 1) 0 (λ s. e (sym s)))) live above filled

-- entry j × n + u of two tables for n events is the one for j waits and event u, for every j up to top
abbrev pub RightTo : {X A : Type 0} → Ordered A → Net A → (X → A) → ℕ → List X → List ℕ → Type 0
RightTo G N f top xs ys = (j u : ℕ) → j ≤ top → u < N.events → Entry G N j u (cell f G.nil xs (j * N.events + u)) (get_or ys (j * N.events + u) 0)

-- two slices hold the entries for j waits
abbrev pub RightRow : {X A : Type 0} → Ordered A → Net A → (X → A) → ℕ → List X → List ℕ → Type 0
RightRow G N f j xs ys = (u : ℕ) → u < N.events → Entry G N j u (cell f G.nil xs u) (get_or ys u 0)

-- a row more of the tables, whose slices xs and ys are split behind the rows for k waits
module _ {X A : Type 0} (G : Ordered A) (N : Net A) (f : X → A) (k : ℕ) (xs front back : List X) (value : xs ≡ front ++ back) (ys front' back' : List ℕ) (value' : ys ≡ front' ++ back')
    (size : length front ≡ (k + 1) * N.events) (size' : length front' ≡ (k + 1) * N.events) where
  abbrev Here : ℕ → ℕ → A → ℕ → Type 0
  Here j v x y = Entry G N j v x y

  mapped : map f xs ≡ map f front ++ map f back
  mapped = ap (map f) value ∙ map-append f front back

  -- the last row of the front is read
  pub rows_read : RightTo G N f k xs ys → RightRow G N f k (take (length front - k * N.events) (drop (k * N.events) front)) (take (length front' - k * N.events) (drop (k * N.events) front'))
  rows_read done v h =
      let below : k * N.events + v < (k + 1) * N.events = rw add-one (omega (arith, suc-mul k N.events)) in
      subst₂ (Here k v)
      (sym (ap (λ (q : List A). get_or q v G.nil) moved ∙ split_read _ _ _ mapped G.nil (k * N.events) v (simp length-map (omega (arith, size)))))
      (sym (split_read ys front' back' value' 0 (k * N.events) v (omega (arith, size')))) (done k v (omega arith) h)
    where
      moved : map f (take (length front - k * N.events) (drop (k * N.events) front)) ≡ take (length (map f front) - k * N.events) (drop (k * N.events) (map f front))
      moved = sym (take-map f (length front - k * N.events) (drop (k * N.events) front)) ∙ ap (take (length front - k * N.events)) (sym (drop-map f (k * N.events) front)) ∙ simp length-map refl

  -- and the next one written
  pub rows_more : (p : List X) (q : List ℕ) (n : ℕ) → RightTo G N f k xs ys → RightRow G N f (k + 1) p q → length p ≡ N.events → length q ≡ N.events → RightTo G N f (k + 1) (rewritten xs front back value p n) (rewritten ys front' back' value' q n)
  rows_more p q n done next long long' j v h b = elim (dec_lt k j) [ yes l ↦ last (omega arith) | no l ↦ before (omega arith) ]
    where
      all_mapped : map f (rewritten xs front back value p n) ≡ rewritten (map f xs) (map f front) (map f back) mapped (map f p) n
      all_mapped =
          map-append f front (p ++ drop n back)
          ∙ ap (λ (r : List A). map f front ++ r) (map-append f p (drop n back) ∙ ap (λ (r : List A). map f p ++ r) (sym (drop-map f n back)))

      at_row : (i : ℕ) → cell f G.nil (rewritten xs front back value p n) i ≡ get_or (rewritten (map f xs) (map f front) (map f back) mapped (map f p) n) i G.nil
      at_row i = ap (λ (r : List A). get_or r i G.nil) all_mapped

      before : j ≤ k → Here j v (cell f G.nil (rewritten xs front back value p n) (j * N.events + v)) (get_or (rewritten ys front' back' value' q n) (j * N.events + v) 0)
      before l =
          let below : j * N.events + v < (k + 1) * N.events = rw add-one (omega (arith, suc-mul k N.events, mul-le-mul_right N.events l)) in
          subst₂ (Here j v)
          (sym (at_row (j * N.events + v) ∙ split_before (map f xs) (map f front) (map f back) mapped (map f p) n G.nil (j * N.events + v) (simp length-map (omega (arith, size)))))
          (sym (split_before ys front' back' value' q n 0 (j * N.events + v) (omega (arith, size'))))
          (done j v l b)

      -- the place of an entry written
      there : (s : ℕ) → s ≡ (k + 1) * N.events → j ≡ k + 1 → j * N.events + v ≡ s + v
      there s same e = ap (λ i. i * N.events + v) e ∙ sym (ap (λ i. i + v) same)

      last : j ≡ k + 1 → Here j v (cell f G.nil (rewritten xs front back value p n) (j * N.events + v)) (get_or (rewritten ys front' back' value' q n) (j * N.events + v) 0)
      last e =
          subst₂ (Here j v)
          (sym (at_row (j * N.events + v) ∙ ap (λ i. get_or (rewritten (map f xs) (map f front) (map f back) mapped (map f p) n) i G.nil) (there (length (map f front)) (simp length-map size) e)
          ∙ split_new (map f xs) (map f front) (map f back) mapped (map f p) n G.nil v (simp length-map (omega (arith, long)))))
          (sym (ap (λ i. get_or (rewritten ys front' back' value' q n) i 0) (there (length front') size' e) ∙ split_new ys front' back' value' q n 0 v (omega (arith, long'))))
          (subst (λ i. Here i v (cell f G.nil p v) (get_or q v 0)) (sym e) (next v b))
