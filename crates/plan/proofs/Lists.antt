-- How an edit of the records in memory edits the list that the first of them make.
use Rattle.std.proofs.Common.{◌≡◌, ℕ, suc, ◌+◌, ◌-◌, ◌<◌, ◌≤◌, false, List, [], ◌∷◌, ◌++◌, map, length, take, drop, set, sym, refl, ap, ◌∙◌, subst, arith, length-drop, length-set, length-take, length-take-le}
use lib.Seq.{take-set-lt}
use borrow.Rule.Slice.PartMut.{put_mid}
use Rattle.std.specs.List.{All, remove, copy_within}
use Rattle.std.proofs.lemmas.List.{map-append, take-map, drop-map, drop-take, take-take, take_all, length-map, take_more_set, drop-set-lt}
use Rattle.std.proofs.lemmas.List.Elements.{All-append, All-take, All-drop}
use Rattle.std.proofs.lemmas.List.Edits.{length-paste, take-paste, drop-paste}
use Rattle.network.specs.declared.Wait.{Wait}
use Rattle.network.specs.Networks.{PlainWait}
use Rattle.std.proofs.lemmas.Slice.{put_mid-paste}
use Rattle.plan.specs.Plans.{Plan}
use Rattle.plan.specs.Rules.{Changed}

-- a map takes out what it is taken from
pub map_removed : {W V : Type 0} (f : W → V) (xs : List W) (i : ℕ) → map f (remove xs i) ≡ remove (map f xs) i
map_removed f xs i = map-append f (take i xs) (drop (suc i) xs) ∙ rw (take-map f i xs, drop-map f (suc i) xs) refl

-- how many elements a map of the first has
pub meant_length : {W V : Type 0} (f : W → V) (count : ℕ) (m : List W) → count ≤ length m → length (map f (take count m)) ≡ count
meant_length f count m fits = length-map (take count m) f ∙ length-take-le count m fits

-- the first `count` elements of `new` are the list ws, and those past them are as in `old`
pub record Edited {W : Type 0} (old new : List W) (count : ℕ) (ws : List W) : Type 0 where
  pub size : length new ≡ length old
  pub fits : count ≤ length new
  pub list : take count new ≡ ws
  pub past : drop count new ≡ drop count old

module _ {W : Type 0} (m : List W) (count : ℕ) where
  -- one more at the end
  pub put_edits : (w : W) → count < length m → Edited m (set m count w) (count + 1) (take count m ++ w ∷ [])
  put_edits w h = record {
    size = length-set m count w;
    fits = simp length-set (omega arith);
    list = take_more_set m count w h;
    past = drop-set-lt (count + 1) m count w (omega arith);
  }

  -- another in the place of element i
  pub retime_edits : (i : ℕ) (w : W) → i < count → count ≤ length m → Edited m (set m i w) count (set (take count m) i w)
  retime_edits i w h fits = record {
    size = length-set m i w;
    fits = simp length-set fits;
    list = take-set-lt count m i w h;
    past = drop-set-lt count m i w h;
  }

  -- element i taken out, by moving the later ones down
  pub drop_edits : (i : ℕ) (new : List W) → i < count → count ≤ length m → new ≡ copy_within m (i + 1) count i → Edited m new (count - 1) (remove (take count m) i)
  drop_edits i new h fits is =
      let rest : List W = drop (i + 1) m in
      let k : ℕ = count - (i + 1) in
      let next : i + 1 ≡ suc i = omega arith in
      let n : length rest ≡ length m - (i + 1) = length-drop (i + 1) m in
      let all : count ≡ (i + 1) + k = omega arith in
      let last : i + k ≡ count - 1 = omega arith in
      let size = length-paste m i rest k (omega arith) (omega arith) in
      rw is (record {
        size = size;
        fits = omega arith;
        list = rw (← last) (take-paste m i rest k (omega arith) (omega arith)
            ∙ ap (λ ws. take i m ++ ws) (sym (drop-take (i + 1) k m))
            ∙ ap (λ ws. ws ++ drop (i + 1) (take ((i + 1) + k) m)) (sym (take-take i count m (omega arith)))
            ∙ ap (λ j. take i (take count m) ++ drop (i + 1) (take j m)) (sym all)
            ∙ ap (λ j. take i (take count m) ++ drop j (take count m)) next);
        past = rw (← last) (drop-paste m i rest k (omega arith) (omega arith));
      })

  -- the part after them, n elements long, written anew
  pub append_edits : (n : ℕ) (ws : List W) → count + n ≤ length m → length ws ≡ length (take ((count + n) - count) (drop count m)) → Edited m (put_mid count ((count + n) - count) m ws) (count + n) (take count m ++ ws)
  append_edits n ws fits part =
      let k = simp (length-take, length-drop) at part in
      let size : n ≡ length ws = omega arith in
      let long = length-paste m count ws n fits (omega arith) in
      rw (put_mid-paste count ((count + n) - count) m ws ws n refl (omega arith) size) (record {
        size = long;
        fits = rw long fits;
        list = take-paste m count ws n (omega arith) (omega arith) ∙ ap (λ vs. take count m ++ vs) (take_all n ws (omega arith));
        past = drop-paste m count ws n (omega arith) (omega arith);
      })

-- what all have, all but one have
pub all_removed : {W : Type 0} (P : W → Type 0) (xs : List W) (i : ℕ) → All P xs → All P (remove xs i)
all_removed P xs i all = All-append P (take i xs) (drop (suc i) xs) (All-take P i xs all) (All-drop P (suc i) xs all)

-- what all elements of the new list have
pub all_edited : {W : Type 0} (P : W → Type 0) {old new ws : List W} {count : ℕ} → Edited old new count ws → All P ws → All P (take count new)
all_edited P e all = subst (All P) (sym e.list) all

-- a draft whose records mean waits by f
abbrev pub drafted : {S : Type 0} → (Wait S → PlainWait) → ℕ → ℕ → List (Wait S) → Plan S
drafted f n count m = record { fixed = false; events = n; waits = map f (take count m); memory = m }

-- an edit of the records changes the plan
pub edit_changes : {S : Type 0} (f : Wait S → PlainWait) (n k count : ℕ) {old new ws : List (Wait S)} {vs : List PlainWait} → Edited old new count ws → map f ws ≡ vs → Changed (drafted f n k old) (drafted f n count new) vs
edit_changes f n k count {old} {new} {ws} {vs} e is =
    let l : length vs ≡ count = ap length (sym is) ∙ length-map ws f ∙ ap length (sym e.list) ∙ length-take-le count new e.fits in
    record { state = refl; events = refl; waits = ap (map f) e.list ∙ is; size = e.size; past = rw l e.past }
