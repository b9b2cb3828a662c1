-- The waits of a turn begun at its lowest event: how it is found, what is written, and that they are a loop.
use Rattle.std.proofs.Common.{◌≡◌, ℕ, pred, ◌+◌, ◌-◌, ◌<◌, ◌≤◌, ◌≢◌, List, ◌++◌, length, get_or, take, drop, set, sym, refl, ap, ◌∙◌, subst, arith, length-append, length-drop, take-append-drop, length-take, get_or-set_other, get_or-set_same, drop-set-lt, below_more}
use native.Mathlib.Decide.{dec_lt, ℕ_discrete}
use Rattle.std.proofs.lemmas.List.{get_or_append_left, get_or-append_right, get_or-drop, get_or-take, ext_get_or}
use Rattle.amount.specs.Groups.{Ordered}
use Rattle.network.specs.Walks.{Net, Loop, total}
use Rattle.network.proofs.Joined.{Joined}
use Rattle.network.proofs.Loops
use Rattle.network.proofs.Loops.{at}
use Rattle.network.proofs.Rotate
use Rattle.engine.specs.Turns.{back, way, Lowest, BegunLowest}
use Rattle.engine.specs.Limits.{Offset}
use Rattle.engine.proofs.Back.{way_size, way_at, way_from}

-- the lowest start among the first t waits walked back
pub record Lower {A : Type 0} (N : Net A) (m : ℕ → ℕ → ℕ) (k x : ℕ) (y lowest offset t : ℕ) : Type 0 where
  pub is : back N m k x t ≡ y
  pub here : y < N.events
  pub none : t ≡ 0 → lowest ≡ N.events
  pub some : 0 < t → (offset < t) × (back N m k x (offset + 1) ≡ lowest)
  pub least : (s : ℕ) → s < t → lowest ≤ back N m k x (s + 1)

module _ {A : Type 0} (N : Net A) (m : ℕ → ℕ → ℕ) (k x : ℕ) where
  pub lower_none : x < N.events → Lower N m k x x N.events 0 0
  lower_none h = record { is = refl; here = h; none = λ _. refl; some = λ h. absurd (omega arith); least = λ s h. absurd (omega arith) }

  module _ (y z lowest offset t : ℕ) (l : Lower N m k x y lowest offset t) (next : back N m k x (t + 1) ≡ z) (there : z < N.events) where
    pub lower_yes : z < lowest → Lower N m k x z z t (t + 1)
    lower_yes h = record {
      is = next;
      here = there;
      none = λ e. absurd (omega arith);
      some = λ _. (omega arith, next);
      least = below_more (λ s. z ≤ back N m k x (s + 1)) t (λ s k. omega (arith, l.least s k)) (omega (arith, next));
    }

    pub lower_no : lowest ≤ z → Lower N m k x z lowest offset (t + 1)
    lower_no h = record {
      is = next;
      here = there;
      none = λ e. absurd (omega arith);
      some = λ _. elim (ℕ_discrete t 0) [ yes e ↦ absurd (omega (arith, l.none e)) | no e ↦ let r = l.some (omega arith) in (omega (arith, r.0), r.1) ];
      least = below_more (λ s. lowest ≤ back N m k x (s + 1)) t l.least (omega (arith, next));
    }

  pub lower_all : (y lowest offset c : ℕ) → 0 < c → Lower N m k x y lowest offset c → Lowest N m k x c offset
  lower_all y lowest offset c pos l = let r = l.some pos in record { below = r.0; least = λ t h. omega (arith, r.1, l.least t h) }

-- the first t waits walked back are written, in a loop of c begun after r others
pub record Written {A : Type 0} (N : Net A) (m : ℕ → ℕ → ℕ) (k x c r : ℕ) (old new : List ℕ) (y t : ℕ) : Type 0 where
  pub is : back N m k x t ≡ y
  pub here : y < N.events
  pub wrote : (s : ℕ) → s < t → (i : ℕ) → Offset r c s i → get_or new i 0 ≡ pred (m (k - s) (back N m k x s))
  pub past : drop c new ≡ drop c old

module _ {A : Type 0} (N : Net A) (m : ℕ → ℕ → ℕ) (k x c r : ℕ) (old : List ℕ) where
  pub written_none : x < N.events → Written N m k x c r old old x 0
  written_none h = record { is = refl; here = h; wrote = λ s h. absurd (omega arith); past = refl }

  -- two waits stand at two places
  apart : (s t i j : ℕ) → s < t → t < c → Offset r c s i → Offset r c t j → i ≢ j
  apart s t i j h l a b e = elim (dec_lt r s) [
    | yes p ↦ omega (arith, a.2 p, b.2 (omega arith))
    | no p ↦ elim (dec_lt r t) [ yes q ↦ omega (arith, a.1 (omega arith), b.2 q, a.0) | no q ↦ omega (arith, a.1 (omega arith), b.1 (omega arith)) ]
  ]

  pub written_more : (new : List ℕ) (y z t j : ℕ) → c ≤ length new → Written N m k x c r old new y t → t < c → Offset r c t j → back N m k x (t + 1) ≡ z → z < N.events
      → (e : ℕ) → e ≡ pred (m (k - t) y) → Written N m k x c r old (set new j e) z (t + 1)
  written_more new y z t j room w h place next there e is = record {
    is = next;
    here = there;
    wrote = below_more (λ s. (i : ℕ) → Offset r c s i → get_or (set new j e) i 0 ≡ pred (m (k - s) (back N m k x s))) t
        (λ s l i o. get_or-set_other new j i e 0 (apart s t i j l h o place) ∙ w.wrote s l i o)
        (λ i o. ap (λ q. get_or (set new j e) q 0) (one i o) ∙ get_or-set_same new j e 0 (omega (arith, place.0)) ∙ is ∙ ap (λ q. pred (m (k - t) q)) (sym w.is));
    past = drop-set-lt c new j e place.0 ∙ w.past;
  }
    where
      one : (i : ℕ) → Offset r c t i → i ≡ j
      one i o = elim (dec_lt r t) [ yes p ↦ omega (arith, o.2 p, place.2 p) | no p ↦ omega (arith, o.1 (omega arith), place.1 (omega arith)) ]

  -- all of them are the waits of the way, begun with the one that starts at the lowest event
  pub written_all : (new : List ℕ) (y : ℕ) → c ≤ length new → Lowest N m k x c r → Written N m k x c r old new y c → BegunLowest N m k x c (take c new)
  written_all new y room low w = record {
    low = c - 1 - r;
    below = omega (arith, low.below);
    same = ext_get_or 0 (take c new) (drop (c - 1 - r) (way N m k x c) ++ take (c - 1 - r) (way N m k x c)) sizes at_each;
    least = λ i h. rw (way_from N m c r k x low.below, start i h) (low.least (c - 1 - i) (omega arith));
  }
    where
      sizes : length (take c new) ≡ length (drop (c - 1 - r) (way N m k x c) ++ take (c - 1 - r) (way N m k x c))
      sizes = simp (length-append, length-take, length-drop, way_size N m c k x) (omega (arith, low.below))

      start : (i : ℕ) → i < c → N.from (get_or (way N m k x c) i 0) ≡ back N m k x (c - 1 - i + 1)
      start i h = ap (λ j. N.from (get_or (way N m k x c) j 0)) (let e : i ≡ c - 1 - (c - 1 - i) = omega arith in e) ∙ way_from N m c (c - 1 - i) k x (omega arith)

      at_each : (i : ℕ) → i < length (take c new) → get_or (take c new) i 0 ≡ get_or (drop (c - 1 - r) (way N m k x c) ++ take (c - 1 - r) (way N m k x c)) i 0
      at_each i h =
          let W = way N m k x c in
          let less : i < c = omega (arith, length-take c new) in
          let tail : length (drop (c - 1 - r) W) ≡ r + 1 = simp (length-drop, way_size N m c k x) (omega (arith, low.below)) in
          elim (dec_lt r i) [
            | no l ↦
                let step : c - 1 - (r - i) ≡ c - 1 - r + i = omega (arith, low.below) in
                get_or-take c new i 0 less
                ∙ w.wrote (r - i) (omega (arith, low.below)) i (less, (λ _. omega arith), (λ p. absurd (omega arith)))
                ∙ sym (way_at N m c (r - i) k x (omega (arith, low.below)))
                ∙ ap (λ j. get_or W j 0) step
                ∙ sym (get_or_append_left (drop (c - 1 - r) W) (take (c - 1 - r) W) 0 i (omega (arith, tail)) ∙ get_or-drop (c - 1 - r) W i 0)
            | yes l ↦
                let step : c - 1 - (r + c - i) ≡ i - (r + 1) = omega (arith, low.below) in
                get_or-take c new i 0 less
                ∙ w.wrote (r + c - i) (omega arith) i (less, (λ p. absurd (omega arith)), (λ _. omega arith))
                ∙ sym (way_at N m c (r + c - i) k x (omega arith))
                ∙ ap (λ j. get_or W j 0) step
                ∙ sym (get_or-append_right (drop (c - 1 - r) W) (take (c - 1 - r) W) (r + 1) i 0 tail (omega arith) ∙ get_or-take (c - 1 - r) W (i - (r + 1)) 0 (omega arith))
          ]

-- so begun they are a loop too, of the same total
module _ {A : Type 0} (N : Net A) (ok : Joined N) (m : ℕ → ℕ → ℕ) (k x c : ℕ) (es : List ℕ) (b : BegunLowest N m k x c es) (l : Loop N x (way N m k x c)) where
  tail_size : length (drop b.low (way N m k x c)) ≡ c - b.low
  tail_size = simp (length-drop, way_size N m c k x)

  pub begun_size : length es ≡ c
  begun_size = ap length b.same ∙ simp (length-append, length-take, length-drop, way_size N m c k x) (omega (arith, b.below))

  -- each wait of it is a wait of the way
  begun_at : (i : ℕ) → i < c → (j : ℕ) × (j < c) × (get_or es i 0 ≡ get_or (way N m k x c) j 0)
  begun_at i h =
      let W = way N m k x c in
      let here : get_or es i 0 ≡ get_or (drop b.low W ++ take b.low W) i 0 = ap (λ (q : List ℕ). get_or q i 0) b.same in
      elim (dec_lt i (c - b.low)) [
        | yes p ↦ (b.low + i, omega arith, here ∙ get_or_append_left (drop b.low W) (take b.low W) 0 i (omega (arith, tail_size)) ∙ get_or-drop b.low W i 0)
        | no p ↦ (i - (c - b.low), omega arith, here ∙ get_or-append_right (drop b.low W) (take b.low W) (c - b.low) i 0 tail_size (omega arith) ∙ get_or-take b.low W (i - (c - b.low)) 0 (omega (arith, b.below)))
      ]

  begun_first : get_or es 0 0 ≡ get_or (way N m k x c) b.low 0
  begun_first =
      let W = way N m k x c in
      ap (λ (q : List ℕ). get_or q 0 0) b.same ∙ get_or_append_left (drop b.low W) (take b.low W) 0 0 (omega (arith, tail_size, b.below)) ∙ get_or-drop b.low W 0 0 ∙ ap (λ j. get_or W j 0) (let e : b.low + 0 ≡ b.low = omega arith in e)

  pub begun_lowest : (i : ℕ) → i < length es → N.from (get_or es 0 0) ≤ N.from (get_or es i 0)
  begun_lowest i h =
      let r = begun_at i (omega (arith, begun_size)) in
      let first = ap N.from begun_first in
      let this = ap N.from r.2 in
      omega (arith, first, this, b.least r.0 r.1)

  pub begun_loop : Loop N (N.from (get_or es 0 0)) es
  begun_loop =
      let W = way N m k x c in
      let parts = Loops.to_at N ok x W x b.low l.closed.walk in
      let y = at N x W b.low in
      let start : N.from (get_or es 0 0) ≡ y = ap N.from begun_first ∙ Loops.at_from N ok x W x b.low l.closed.walk (rw (way_size N m c k x) b.below) in
      let turned : Loop N y (drop b.low W ++ take b.low W) = Rotate.rotate N ok x y (take b.low W) (drop b.low W) parts.0 parts.1 (subst (λ (q : List ℕ). Loop N x q) (sym (take-append-drop b.low W)) l) in
      subst (λ u. Loop N u es) (sym start) (subst (λ (q : List ℕ). Loop N y q) (sym b.same) turned)

  pub begun_total : (G : Ordered A) → total G N es ≡ total G N (way N m k x c)
  begun_total G =
      let W = way N m k x c in
      ap (total G N) b.same ∙ Rotate.rotate_sum G N.amount (take b.low W) (drop b.low W) ∙ ap (total G N) (take-append-drop b.low W)
