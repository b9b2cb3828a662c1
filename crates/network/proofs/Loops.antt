-- Walks cut at one of their events, and closed walks walked round and round.
use Rattle.std.proofs.Common.{◌≡◌, ℕ, zero, suc, ◌<◌, ◌≤◌, List, [], ◌∷◌, ◌++◌, length, get_or, take, drop, refl, arith, length-append, length-take}
use Rattle.network.specs.Walks.{Net, Walk}
use Rattle.network.proofs.Joined.{Joined}
use Rattle.network.proofs.Walks

-- the event after i waits of the walk es from u
abbrev pub at : {A : Type 0} → Net A → ℕ → List ℕ → ℕ → ℕ
at N u es zero = u
at N u [] (suc i) = u
at N u (e ∷ es) (suc i) = at N (N.to e) es i

module _ {A : Type 0} (N : Net A) (ok : Joined N) where
  -- a walk up to its event i, and from there
  pub to_at : (u : ℕ) (es : List ℕ) (v i : ℕ) → Walk N u es v → Walk N u (take i es) (at N u es i) × Walk N (at N u es i) (drop i es) v
  to_at u [] v zero s = ((s.0, refl), s)
  to_at u [] v (suc i) s = ((s.0, refl), s)
  to_at u (e ∷ es) v zero s = ((Walks.walk_starts N ok u (e ∷ es) v s, refl), s)
  to_at u (e ∷ es) v (suc i) s = let r = to_at (N.to e) es v i s.2 in ((s.0, s.1, r.0), r.1)

  -- the wait i starts at the event i
  pub at_from : (u : ℕ) (es : List ℕ) (v i : ℕ) → Walk N u es v → i < length es → N.from (get_or es i 0) ≡ at N u es i
  at_from u [] v i s h = absurd (omega arith)
  at_from u (e ∷ es) v zero s h = s.1
  at_from u (e ∷ es) v (suc i) s h = at_from (N.to e) es v i s.2 (omega arith)

module _ {A : Type 0} (N : Net A) (ok : Joined N) where
  -- a closed walk gone round k times
  rounds : ℕ → List ℕ → List ℕ
  rounds zero es = []
  rounds (suc k) es = es ++ rounds k es

  rounds_walk : (k u : ℕ) (es : List ℕ) → Walk N u es u → Walk N u (rounds k es) u
  unfolding rounds
  rounds_walk zero u es s = (Walks.walk_starts N ok u es u s, refl)
  rounds_walk (suc k) u es s = Walks.walk_join N ok u es u (rounds k es) u s (rounds_walk k u es s)

  rounds_size : (k : ℕ) (es : List ℕ) → 0 < length es → k ≤ length (rounds k es)
  unfolding rounds
  rounds_size zero es h = omega arith
  rounds_size (suc k) es h = let r = rounds_size k es h in simp length-append (omega arith)

  -- where there is a closed walk there are walks of every length
  pub long_walk : (k u : ℕ) (es : List ℕ) → Walk N u es u → 0 < length es → (v : ℕ) × (fs : List ℕ) × Walk N u fs v × (length fs ≡ k)
  long_walk k u es s h =
      let r = rounds_walk k u es s in
      let l = rounds_size k es h in
      (at N u (rounds k es) k, take k (rounds k es), (to_at N ok u (rounds k es) u k r).0, simp length-take (omega arith))
