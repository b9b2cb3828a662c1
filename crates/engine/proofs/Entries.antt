-- The tables row by row.
use Rattle.std.proofs.Common.{◌≡◌, ℕ, zero, suc, ◌<◌, ◌≤◌, T, List, [], ◌∷◌, ◌++◌, length, sym, refl, ap, ◌∙◌, subst, ⊎_elim, arith, length-append}
use native.Mathlib.Decide.{dec_lt}
use Rattle.amount.specs.Groups.{Ordered}
use Rattle.network.specs.Walks.{Net, Walk, total}
use Rattle.engine.specs.Tables.{Greatest, CanEnd, Found, Missing, Entry}
pub use Rattle.engine.specs.Tables.{Live}
use Rattle.network.proofs.Toolkit
use Rattle.network.proofs.Joined.{Joined}
use Rattle.network.proofs.Walks

-- every entry of the rows 0 to n is right
abbrev pub Right : {A : Type 0} → Ordered A → Net A → (ℕ → ℕ → A) → (ℕ → ℕ → ℕ) → Type 0
Right G N d m = (k u : ℕ) → k ≤ N.events → u < N.events → Entry G N k u (d k u) (m k u)

-- a walk's last wait
pub record Last {A : Type 0} (N : Net A) (u : ℕ) (es : List ℕ) (v k : ℕ) : Type 0 where
  pub front : List ℕ
  pub e : ℕ
  pub same : front ++ (e ∷ []) ≡ es
  pub known : e < N.waits
  pub there : N.to e ≡ v
  pub walk : Walk N u front (N.from e)
  pub size : length front ≡ k

module _ {A : Type 0} (N : Net A) (ok : Joined N) where
  pub last : (u : ℕ) (es : List ℕ) (v k : ℕ) → Walk N u es v → length es ≡ suc k → Last N u es v k
  last u [] v k s h = absurd (omega arith)
  last u (e ∷ []) v k s h = record {
    front = [];
    e = e;
    same = refl;
    known = s.0;
    there = s.2.1;
    walk = (subst (λ x. x < N.events) s.1 (ok.starts e s.0), sym s.1);
    size = omega arith;
  }
  last u (e ∷ (f ∷ es)) v zero s h = absurd (omega arith)
  last u (e ∷ (f ∷ es)) v (suc k) s h =
      let r = last (N.to e) (f ∷ es) v k s.2 (omega arith) in
      record {
        front = e ∷ r.front;
        e = r.e;
        same = ap (λ (x : List ℕ). e ∷ x) r.same;
        known = r.known;
        there = r.there;
        walk = (s.0, s.1, r.walk);
        size = ap suc r.size;
      }

module _ {A : Type 0} (G : Ordered A) (N : Net A) (ok : Joined N) where
  pub tot_snoc : (es : List ℕ) (e : ℕ) → total G N (es ++ (e ∷ [])) ≡ G.add (total G N es) (N.amount e)
  tot_snoc es e = Walks.sum_append G N.amount es (e ∷ []) ∙ ap (G.add (total G N es)) (G.unit _)

  snoc_length : (es : List ℕ) (e : ℕ) → length (es ++ (e ∷ [])) ≡ suc (length es)
  snoc_length es e = simp length-append (omega arith)

  -- a walk to the start of e, with e after it
  pub snoc : (u : ℕ) (es : List ℕ) (e v : ℕ) → Walk N u es (N.from e) → e < N.waits → N.to e ≡ v → Walk N u (es ++ (e ∷ [])) v
  snoc u es e v s h there = Walks.walk_join N ok u es (N.from e) (e ∷ []) v s (h, refl, (ok.ends e h, there))

  pub greatest_none : (v : ℕ) → v < N.events → Greatest G N 0 v G.nil
  greatest_none v h = record { reached = (v, [], (h, refl), refl, refl); most = nothing }
    where
      nothing : (u : ℕ) (es : List ℕ) → Walk N u es v → length es ≡ 0 → T (G.leq (total G N es) G.nil)
      nothing u [] s k = Toolkit.le_refl G _
      nothing u (e ∷ es) s k = absurd (omega arith)

  -- what an entry with a walk holds
  pub entry_greatest : (k v : ℕ) (d : A) (m : ℕ) → v < N.events → Entry G N k v d m → Live k m → Greatest G N k v d
  entry_greatest zero v d m h en live = subst (λ x. Greatest G N 0 v x) (sym en.0) (greatest_none v h)
  entry_greatest (suc k) v d m h en live = ⊎_elim (λ f. f.greatest) (λ (f : Missing G N (suc k) v d m). absurd (omega (arith, f.mark))) en

  -- where there is a walk the entry has one
  pub entry_live : (k v : ℕ) (d : A) (m : ℕ) → Entry G N k v d m → (u : ℕ) (es : List ℕ) → Walk N u es v → length es ≡ k → Live k m
  entry_live zero v d m en u es s h = tt
  entry_live (suc k) v d m en u es s h = ⊎_elim (λ (f : Found G N k v d m). omega (arith, f.mark)) (λ (f : Missing G N (suc k) v d m). absurd (f.no_walk u es s h)) en

-- one row from the row before
module _ {A : Type 0} (G : Ordered A) (N : Net A) (ok : Joined N) (k : ℕ) (d : ℕ → A) (m : ℕ → ℕ)
    (right : (u : ℕ) → u < N.events → Entry G N k u (d u) (m u)) where
  -- what the wait e brings to its end
  abbrev brings : ℕ → A
  brings e = G.add (d (N.from e)) (N.amount e)

  best_of : (e : ℕ) → e < N.waits → Live k (m (N.from e)) → Greatest G N k (N.from e) (d (N.from e))
  best_of e h live = entry_greatest G N ok k (N.from e) _ _ (ok.starts e h) (right _ (ok.starts e h)) live

  -- a walk of one wait more comes to no more than its last wait brings
  pub brought : (u : ℕ) (es : List ℕ) (v : ℕ) → Walk N u es v → length es ≡ suc k → (e : ℕ) × (e < N.waits) × (N.to e ≡ v) × Live k (m (N.from e)) × T (G.leq (total G N es) (brings e))
  brought u es v s h =
      let r = last N ok u es v k s h in
      let live = entry_live G N ok k _ _ _ (right _ (ok.starts r.e r.known)) u r.front r.walk r.size in (
        r.e,
        r.known,
        r.there,
        live,
        subst (λ x. T (G.leq (total G N x) (brings r.e))) r.same
            (rw (tot_snoc G N ok r.front r.e) (G.mono _ _ _ ((best_of r.e r.known live).most u r.front r.walk r.size))),
      )

  -- what can end a walk of greatest total brings that total
  pub can_end_brings : (v : ℕ) (x : A) (e : ℕ) → Greatest G N (suc k) v x → CanEnd G N k v x e → Live k (m (N.from e)) × (brings e ≡ x)
  can_end_brings v x e g c =
      let live = entry_live G N ok k _ _ _ (right _ (ok.starts e c.known)) c.u c.es c.walk c.size in
      let b = best_of e c.known live in
      let up : T (G.leq x (brings e)) = subst (λ y. T (G.leq y (brings e))) c.comes (G.mono _ _ _ (b.most c.u c.es c.walk c.size)) in
      let a = b.reached in
      let down = g.most a.0 (a.1 ++ (e ∷ [])) (snoc G N ok a.0 a.1 e v a.2 c.known c.there) (snoc_length G N ok a.1 e ∙ ap suc a.3) in
      (live, G.anti _ _ (rw (tot_snoc G N ok a.1 e, a.4) at down) up)

  pub found : (v : ℕ) (x : A) (e : ℕ) → e < N.waits → N.to e ≡ v → Live k (m (N.from e)) → brings e ≡ x
      → ((f : ℕ) → f < N.waits → N.to f ≡ v → Live k (m (N.from f)) → T (G.leq (brings f) x))
      → ((f : ℕ) → f < e → N.to f ≡ v → Live k (m (N.from f)) → ¬ (brings f ≡ x))
      → Found G N k v x (suc e)
  found v x e h there live is most lower = record {
    greatest = great;
    e = e;
    mark = refl;
    ends = record { known = h; there = there; u = a.0; es = a.1; walk = a.2; size = a.3; comes = ap (λ y. G.add y (N.amount e)) a.4 ∙ is };
    lowest = low;
  }
    where
      a : (u : ℕ) × (es : List ℕ) × Walk N u es (N.from e) × (length es ≡ k) × (total G N es ≡ d (N.from e))
      a = (best_of e h live).reached

      great : Greatest G N (suc k) v x
      great = record {
        reached = (a.0, a.1 ++ (e ∷ []), snoc G N ok a.0 a.1 e v a.2 h there, snoc_length G N ok a.1 e ∙ ap suc a.3, tot_snoc G N ok a.1 e ∙ ap (λ y. G.add y (N.amount e)) a.4 ∙ is);
        most = λ u es s l. let b = brought u es v s l in G.trans _ _ _ b.4 (most b.0 b.1 b.2 b.3);
      }

      low : (f : ℕ) → CanEnd G N k v x f → e ≤ f
      low f c = elim (dec_lt f e) [ yes l ↦ absurd (let b = can_end_brings v x f great c in lower f l c.there b.0 b.1) | no l ↦ omega arith ]

  pub missing : (v : ℕ) → ((f : ℕ) → f < N.waits → N.to f ≡ v → ¬ Live k (m (N.from f))) → Missing G N (suc k) v G.nil 0
  missing v dead = record { no_walk = λ u es s l. let b = brought u es v s l in dead b.0 b.1 b.2 b.3; row = refl; mark = refl }
