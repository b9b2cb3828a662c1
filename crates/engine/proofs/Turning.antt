-- What a turn of a traced walk gives: a loop of that total, and a cut of the walk.
use Rattle.std.proofs.Common.{◌≡◌, ℕ, ◌+◌, ◌-◌, ◌<◌, ◌≤◌, T, ◌++◌, length, get_or, sym, ap, ◌∙◌, subst, arith}
use native.Mathlib.Decide.{ℕ_discrete}
use Rattle.amount.specs.Groups.{Ordered}
use Rattle.network.specs.Walks.{Net, Walk, Loop, total, count, MeanLe}
use Rattle.network.proofs.Toolkit
use Rattle.network.proofs.Joined.{Joined, count_waits}
use Rattle.network.proofs.Walks
use Rattle.network.proofs.Main.{Traced}
use Rattle.engine.specs.Turns.{back, way, Turns}
use Rattle.engine.proofs.Entries
use Rattle.engine.proofs.Entries.{Live, Right}
use Rattle.engine.proofs.Back
use Rattle.engine.proofs.Back.{Walked, live_marked, way_size, way_from}

module _ {A : Type 0} (G : Ordered A) (N : Net A) (ok : Joined N) (d : ℕ → ℕ → A) (m : ℕ → ℕ → ℕ) (right : Right G N d m)
    (v j x c : ℕ) (p : A) (t : Turns G N d m v j x c p) where
  -- the way from the turn to the walk's end
  after : Walked G N d m N.events v (N.events - j)
  after = Back.walked G N ok d m right (N.events - j) N.events v (omega arith) (omega arith) t.known (live_marked _ _ t.live)

  back_again : (n : ℕ) → j ≤ n → n - (n - j) ≡ j
  back_again n h = omega arith

  row_after : N.events - (N.events - j) ≡ j
  row_after = back_again N.events t.within

  pub turn_in : x < N.events
  turn_in = subst (λ y. y < N.events) t.on (Walks.walk_starts N ok _ (way N m N.events v (N.events - j)) v after.walk)

  pub turn_live : Live j (m j x)
  turn_live = subst (λ y. Live j (m j y)) t.on (subst (λ i. Live i (m i (back N m N.events v (N.events - j)))) row_after after.live)

  round : Walked G N d m j x c
  round = Back.walked G N ok d m right c j x t.held t.within turn_in turn_live

  pub turn_walk : Walk N x (way N m j x c) x
  turn_walk = subst (λ y. Walk N y (way N m j x c) x) t.closes round.walk

  comes_round : G.add (d (j - c) x) (total G N (way N m j x c)) ≡ d j x
  comes_round = ap (λ y. G.add (d (j - c) y) (total G N (way N m j x c))) (sym t.closes) ∙ round.comes

  -- the total is that of the waits
  pub turn_total : p ≡ total G N (way N m j x c)
  turn_total = t.comes ∙ ap (λ y. G.add y (G.neg (d (j - c) x))) (sym comes_round ∙ G.comm _ _) ∙ Toolkit.add_sub G _ _

  pub turn_loop : Loop N x (way N m j x c)
  turn_loop = record { closed = record { walk = turn_walk; some = rw (way_size N m c j x) t.some }; apart = far }
    where
      -- the start of wait a, walked back
      start : (a : ℕ) → a < c → N.from (get_or (way N m j x c) a 0) ≡ back N m j x (c - a)
      start a h = ap (λ i. N.from (get_or (way N m j x c) i 0)) (place a c h) ∙ way_from N m c (c - 1 - a) j x (omega arith) ∙ ap (back N m j x) (step a c h)
        where
          place : (a c : ℕ) → a < c → a ≡ c - 1 - (c - 1 - a)
          place a c h = omega arith

          step : (a c : ℕ) → a < c → c - 1 - a + 1 ≡ c - a
          step a c h = omega arith

      -- the first wait starts where the last one ends
      start_first : (a : ℕ) → a ≡ 0 → back N m j x (c - a) ≡ back N m j x 0
      start_first a z = ap (back N m j x) (whole a z) ∙ t.closes
        where
          whole : (a : ℕ) → a ≡ 0 → c - a ≡ c
          whole a z = omega arith

      far : (a b : ℕ) → a < b → b < length (way N m j x c) → ¬ (N.from (get_or (way N m j x c) a 0) ≡ N.from (get_or (way N m j x c) b 0))
      far a b h b-in same =
          let less : b < c = rw (way_size N m c j x) at b-in in
          let met : back N m j x (c - a) ≡ back N m j x (c - b) = sym (start a (omega arith)) ∙ same ∙ start b less in
          elim (ℕ_discrete a 0) [
            | yes z ↦ t.apart 0 (c - b) (omega arith) (omega arith) (sym (start_first a z) ∙ met)
            | no z ↦ t.apart (c - b) (c - a) (omega arith) (omega arith) (sym met)
          ]

  -- the way to the turn
  before : Walked G N d m (j - c) x (j - c)
  before = Back.walked G N ok d m right (j - c) (j - c) x (omega arith) (omega (arith, t.within)) turn_in (subst (λ y. Live (j - c) (m (j - c) y)) t.closes round.live)

  comes_before : total G N (way N m (j - c) x (j - c)) ≡ d (j - c) x
  comes_before =
      sym (Toolkit.unit_left G _)
      ∙ ap (λ y. G.add y (total G N (way N m (j - c) x (j - c)))) (sym (zero_row_lem (j - c - (j - c)) (none (j - c)) (back N m (j - c) x (j - c)) (Walks.walk_starts N ok _ (way N m (j - c) x (j - c)) x before.walk)))
      ∙ before.comes
    where
      none : (i : ℕ) → i - i ≡ 0
      none i = omega arith

      zero_row_lem : (i : ℕ) → i ≡ 0 → (y : ℕ) → y < N.events → d i y ≡ G.nil
      zero_row_lem i z y h = ap (λ k. d k y) z ∙ (right 0 y (omega arith) h).0

  comes_after : G.add (d j x) (total G N (way N m N.events v (N.events - j))) ≡ d N.events v
  comes_after = ap (λ y. G.add (d j y) (total G N (way N m N.events v (N.events - j)))) (sym t.on) ∙ ap (λ i. G.add (d i (back N m N.events v (N.events - j))) (total G N (way N m N.events v (N.events - j)))) (sym row_after) ∙ after.comes

  whole : total G N (way N m (j - c) x (j - c) ++ (way N m j x c ++ way N m N.events v (N.events - j))) ≡ d N.events v
  whole =
      let es = way N m (j - c) x (j - c) in
      let fs = way N m j x c in
      let gs = way N m N.events v (N.events - j) in
      Walks.sum_append G N.amount es (fs ++ gs) ∙ ap (G.add (total G N es)) (Walks.sum_append G N.amount fs gs) ∙ sym (G.assoc _ _ _)
      ∙ ap (λ y. G.add (G.add y (total G N fs)) (total G N gs)) comes_before ∙ ap (λ y. G.add y (total G N gs)) comes_round ∙ comes_after

  -- the greatest walk of n waits can be cut there
  pub turn_cut : (r : A) (q : ℕ) → MeanLe G p c r q → Traced G N r q v
  turn_cut r q mean =
      record {
        u = back N m (j - c) x (j - c);
        x = x;
        before = way N m (j - c) x (j - c);
        round = way N m j x c;
        after = way N m N.events v (N.events - j);
        comes = before.walk;
        turns = turn_walk;
        goes = subst (λ y. Walk N y (way N m N.events v (N.events - j)) v) t.on after.walk;
        some = rw (way_size N m c j x) t.some;
        size = rw (way_size N m (j - c) (j - c) x, way_size N m c j x, way_size N m (N.events - j) N.events v) (omega (arith, t.within, t.held));
        most = λ u fs s k. subst (λ y. T (G.leq (total G N fs) y)) (sym whole) ((Entries.entry_greatest G N ok N.events v _ _ t.known (right N.events v (omega arith) t.known) (live_marked _ _ t.live)).most u fs s k);
        mean = subst (λ y. MeanLe G y (count N (way N m j x c)) r q) turn_total (subst (λ i. MeanLe G p i r q) (sym (count_waits N (way N m j x c) ∙ way_size N m c j x)) mean);
      }
