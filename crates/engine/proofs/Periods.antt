-- The period and the departures from the tables.
use Rattle.std.proofs.Common.{◌≡◌, ℕ, ◌<◌, ◌≤◌, T, List, length, get_or, refl, ap, ◌∙◌, subst, arith}
use Rattle.amount.specs.Groups.{Ordered, times}
use Rattle.network.specs.Walks.{Net, Walk, NoClosed, sum, total, count, weight, Loop, Period}
use Rattle.network.proofs.Joined.{count_waits}
use Rattle.network.proofs.Walks.{reduced}
use Rattle.network.proofs.Toolkit
use Rattle.network.proofs.Joined.{Joined}
use Rattle.network.proofs.Walks
use Rattle.network.proofs.Main.{period}
use Rattle.network.proofs.Loops
use Rattle.engine.proofs.Entries
use Rattle.engine.proofs.Entries.{Right}
use Rattle.engine.specs.Turns.{TurnsBelow, offer, TopOffer}
use Rattle.engine.proofs.Back.{marked_live}
use Rattle.engine.proofs.Turning

module _ {A : Type 0} (G : Ordered A) (N : Net A) (ok : Joined N) (d : ℕ → ℕ → A) (m : ℕ → ℕ → ℕ) (right : Right G N d m) where
  -- where no walk of n waits ends at any event there is no closed walk: one could be walked round and round
  pub none_closed : ((v : ℕ) → v < N.events → ¬ (0 < m N.events v)) → NoClosed N
  none_closed dead u es c =
      let r = Loops.long_walk N ok N.events u es c.walk c.some in
      let b = Walks.walk_ends N ok u r.1 r.0 r.2 in
      dead r.0 b (marked_live _ _ (omega arith) (Entries.entry_live G N ok N.events r.0 _ _ (right N.events r.0 (omega arith) b) u r.1 r.2 r.3))

  module _ (p : A) (q : ℕ) (rows : ℕ → A)
      (turned : (v : ℕ) → v < N.events → 0 < m N.events v → TurnsBelow G N d m p q v)
      (top : (v : ℕ) → v < N.events → TopOffer G d m p q v N.events (rows v)) where
    -- what an entry offers is what a walk of its waits weighs
    weighs : (k : ℕ) (v : ℕ) (es : List ℕ) → length es ≡ k → total G N es ≡ d k v → weight G N p q es ≡ offer G d p q k v
    weighs k v es size comes = ap (λ x. G.add (times G q x) (G.neg (times G (count N es) p))) comes ∙ ap (λ i. G.add (times G q (d k v)) (G.neg (times G i p))) (count_waits N es ∙ size)

    reached : (v : ℕ) → v < N.events → (u : ℕ) × (es : List ℕ) × Walk N u es v × (sum G (reduced G N p q) es ≡ rows v)
    reached v b =
        let s = (top v b).some in
        let a = (Entries.entry_greatest G N ok s.0 v _ _ b (right s.0 v (omega (arith, s.1)) b) s.2).reached in
        (a.0, a.1, a.2, Walks.sum_reduced G N p q a.1 ∙ weighs s.0 v a.1 a.3 a.4 ∙ s.3)

    below : (u : ℕ) (es : List ℕ) (v : ℕ) → Walk N u es v → length es < N.events → T (G.leq (sum G (reduced G N p q) es) (rows v))
    below u es v s h =
        let b = Walks.walk_ends N ok u es v s in
        let en = right (length es) v (omega arith) b in
        let live = Entries.entry_live G N ok (length es) v _ _ en u es s refl in
        let g = Entries.entry_greatest G N ok (length es) v _ _ b en live in
        let up : T (G.leq (weight G N p q es) (offer G d p q (length es) v)) =
        subst (λ i. T (G.leq (weight G N p q es) (G.add (times G q (d (length es) v)) (G.neg (times G i p))))) (count_waits N es) (G.mono _ _ _ (Toolkit.times_mono G q _ _ (g.most u es s refl))) in
        G.trans _ _ _ (rw (Walks.sum_reduced G N p q es) up) ((top v b).most (length es) h live)

    -- the period, once a loop of this mean is shown and no traced walk has a turn of greater mean
    pub solved : (es : List ℕ) → Loop N (N.from (get_or es 0 0)) es → ((i : ℕ) → i < length es → N.from (get_or es 0 0) ≤ N.from (get_or es i 0))
        → p ≡ total G N es → q ≡ count N es → Period G N p q es rows
    solved = period G N ok p q (λ v b u es s k. let live = Entries.entry_live G N ok N.events v _ _ (right N.events v (omega arith) b) u es s k in
        let t = turned v b (marked_live _ _ (omega arith) live) in
        Turning.turn_cut G N ok d m right v _ _ _ _ t.turns p q t.mean) rows reached below
