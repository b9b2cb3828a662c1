-- The walk that the marks tell, walked back.
use Rattle.std.proofs.Common.{◌≡◌, ℕ, zero, suc, pred, ◌+◌, ◌-◌, ◌<◌, ◌≤◌, [], ◌∷◌, length, get_or, sym, refl, ap, ◌∙◌, subst, ⊎_elim, suc-add, zero-add, arith, length-append}
use Rattle.std.proofs.lemmas.List.{get_or_append_left, get_or_at}
use Rattle.amount.specs.Groups.{Ordered}
use Rattle.network.specs.Walks.{Net, Walk, total}
use Rattle.network.proofs.Joined.{Joined}
use Rattle.network.proofs.Walks
use Rattle.engine.specs.Tables.{CanEnd, Found, Missing}
use Rattle.engine.specs.Turns.{back, way, Told}
use Rattle.engine.proofs.Entries
use Rattle.engine.proofs.Entries.{Live, Right}

-- an entry is live as its mark tells
pub live_if : (k m : ℕ) → (0 < k → 0 < m) → Live k m
live_if zero m h = tt
live_if (suc k) m h = h (omega arith)

-- where there is a mark there is a walk
pub live_marked : (k m : ℕ) → 0 < m → Live k m
live_marked k m h = live_if k m (λ _. h)

pub marked_live : (k m : ℕ) → 0 < k → Live k m → 0 < m
marked_live zero m h l = absurd (omega arith)
marked_live (suc k) m h l = l

module _ {A : Type 0} (N : Net A) (m : ℕ → ℕ → ℕ) where
  pub way_size : (t k x : ℕ) → length (way N m k x t) ≡ t
  way_size zero k x = refl
  way_size (suc t) k x = simp length-append (omega (arith, way_size t (pred k) (N.from (pred (m k x)))))

  -- s waits back, and t more
  pub back_plus : (s t k x : ℕ) → back N m k x (s + t) ≡ back N m (k - s) (back N m k x s) t
  back_plus zero t k x = rw zero-add (ap (λ i. back N m i x t) (less k))
    where
      less : (k : ℕ) → k ≡ k - 0
      less k = omega arith
  back_plus (suc s) t k x = rw suc-add (back_plus s t (pred k) (N.from (pred (m k x))) ∙ ap (λ i. back N m i (back N m k x (suc s)) t) (less k s))
    where
      less : (k s : ℕ) → pred k - s ≡ k - suc s
      less zero s = omega arith
      less (suc k) s = omega arith

  -- one more wait back
  pub back_next : (t k x : ℕ) → back N m k x (t + 1) ≡ N.from (pred (m (k - t) (back N m k x t)))
  back_next t k x = back_plus t 1 k x

  -- so from the event y, whose mark names the wait e
  pub back_from : (t k x y e z : ℕ) → back N m k x t ≡ y → e ≡ pred (m (k - t) y) → z ≡ N.from e → back N m k x (t + 1) ≡ z
  back_from t k x y e z at wait start = back_next t k x ∙ ap (λ i. N.from (pred (m (k - t) i))) at ∙ sym (start ∙ ap N.from wait)

  -- the wait walked back after t others
  pub way_at : (c t k x : ℕ) → t < c → get_or (way N m k x c) (c - 1 - t) 0 ≡ pred (m (k - t) (back N m k x t))
  way_at zero t k x h = absurd (omega arith)
  way_at (suc c) zero k x h =
      ap (λ i. get_or (way N m k x (suc c)) i 0) (last c) ∙ get_or_at (way N m (pred k) (N.from (pred (m k x))) c) _ [] 0 c (way_size c (pred k) (N.from (pred (m k x)))) ∙ ap (λ i. pred (m i x)) (less k)
    where
      last : (c : ℕ) → suc c - 1 - 0 ≡ c
      last c = omega arith

      less : (k : ℕ) → k ≡ k - 0
      less k = omega arith
  way_at (suc c) (suc t) k x h =
      let y = N.from (pred (m k x)) in
      ap (λ i. get_or (way N m k x (suc c)) i 0) (earlier c t)
      ∙ get_or_append_left (way N m (pred k) y c) (pred (m k x) ∷ []) 0 (c - 1 - t) (rw (way_size c (pred k) y) (omega arith))
      ∙ way_at c t (pred k) y (omega arith)
      ∙ ap (λ i. pred (m i (back N m (pred k) y t))) (less k t)
    where
      earlier : (c t : ℕ) → suc c - 1 - suc t ≡ c - 1 - t
      earlier c t = omega arith

      less : (k s : ℕ) → pred k - s ≡ k - suc s
      less zero s = omega arith
      less (suc k) s = omega arith

  -- it starts at the event where the walk back stands then
  pub way_from : (c t k x : ℕ) → t < c → N.from (get_or (way N m k x c) (c - 1 - t) 0) ≡ back N m k x (t + 1)
  way_from c t k x h = ap N.from (way_at c t k x h) ∙ sym (back_next t k x)

-- t waits walked back from the entry of row k and event v
pub record Walked {A : Type 0} (G : Ordered A) (N : Net A) (d : ℕ → ℕ → A) (m : ℕ → ℕ → ℕ) (k v t : ℕ) : Type 0 where
  pub walk : Walk N (back N m k v t) (way N m k v t) v
  pub live : Live (k - t) (m (k - t) (back N m k v t))
  pub comes : G.add (d (k - t) (back N m k v t)) (total G N (way N m k v t)) ≡ d k v

-- the wait that a mark names
pub record Marked {A : Type 0} (G : Ordered A) (N : Net A) (d : ℕ → ℕ → A) (m : ℕ → ℕ → ℕ) (k v e : ℕ) : Type 0 where
  pub known : e < N.waits
  pub there : N.to e ≡ v
  pub live : Live k (m k (N.from e))
  pub comes : G.add (d k (N.from e)) (N.amount e) ≡ d (suc k) v
  pub mark : m (suc k) v ≡ suc e

module _ {A : Type 0} (G : Ordered A) (N : Net A) (ok : Joined N) (d : ℕ → ℕ → A) (m : ℕ → ℕ → ℕ) (right : Right G N d m) where
  pub marked : (k v : ℕ) → suc k ≤ N.events → v < N.events → 0 < m (suc k) v → Marked G N d m k v (pred (m (suc k) v))
  marked k v h b live =
      let f : Found G N k v (d (suc k) v) (m (suc k) v) = ⊎_elim (λ x. x) (λ (x : Missing G N (suc k) v (d (suc k) v) (m (suc k) v)). absurd (omega (arith, x.mark))) (right (suc k) v h b) in
      let is : f.e ≡ pred (m (suc k) v) = sym (ap pred f.mark) in
      let c : CanEnd G N k v (d (suc k) v) (pred (m (suc k) v)) = subst (λ x. CanEnd G N k v (d (suc k) v) x) is f.ends in
      let step = Entries.can_end_brings G N ok k (d k) (m k) (λ u bu. right k u (omega arith) bu) v _ _ f.greatest c in
      record { known = c.known; there = c.there; live = step.0; comes = step.1; mark = f.mark ∙ ap suc is }

  pub walked : (t k v : ℕ) → t ≤ k → k ≤ N.events → v < N.events → Live k (m k v) → Walked G N d m k v t
  walked zero k v h l b live = record { walk = (b, refl); live = subst (λ i. Live i (m i v)) (less k) live; comes = G.unit _ ∙ ap (λ i. d i v) (sym (less k)) }
    where
      less : (k : ℕ) → k ≡ k - 0
      less k = omega arith
  walked (suc t) zero v h l b live = absurd (omega arith)
  walked (suc t) (suc k) v h l b live =
      let s = marked k v l b live in
      let e = pred (m (suc k) v) in
      let r = walked t k (N.from e) (omega arith) (omega arith) (ok.starts e s.known) s.live in
      let x = back N m k (N.from e) t in
      record {
        walk = Entries.snoc G N ok x (way N m k (N.from e) t) e v r.walk s.known s.there;
        live = subst (λ i. Live i (m i x)) (less k t) r.live;
        comes = ap (G.add (d (suc k - suc t) x)) (Entries.tot_snoc G N ok (way N m k (N.from e) t) e) ∙ sym (G.assoc _ _ _)
            ∙ ap (λ i. G.add (G.add (d i x) (total G N (way N m k (N.from e) t))) (N.amount e)) (sym (less k t)) ∙ ap (λ y. G.add y (N.amount e)) r.comes ∙ s.comes;
      }
    where
      less : (k t : ℕ) → k - t ≡ suc k - suc t
      less k t = omega arith

  -- the walk back stays among the events
  pub back_in : (t k v : ℕ) → t ≤ k → k ≤ N.events → v < N.events → Live k (m k v) → back N m k v t < N.events
  back_in t k v h l b live = Walks.walk_starts N ok _ (way N m k v t) v (walked t k v h l b live).walk

  -- every mark on the way names a wait
  pub told : (k v c : ℕ) → c ≤ k → k ≤ N.events → v < N.events → Live k (m k v) → Told N m k v c
  told k v c h l b live t less =
      let w = walked t k v (omega arith) l b live in
      let x = back N m k v t in
      let x-in = back_in t k v (omega arith) l b live in
      let mark : 0 < m (k - t) x = marked_live (k - t) _ (omega arith) w.live in
      let row : suc (pred (k - t)) ≡ k - t = up (k - t) (omega arith) in
      let r = marked (pred (k - t)) x (omega arith) x-in (subst (λ i. 0 < m i x) (sym row) mark) in
      (x-in, mark, subst (λ i. pred (m i x) < N.waits) row r.known)
    where
      up : (i : ℕ) → 0 < i → suc (pred i) ≡ i
      up zero h = absurd (omega arith)
      up (suc i) h = refl
