-- One row of the tables, wait by wait.
use Rattle.std.proofs.Common.{◌≡◌, ℕ, suc, ◌+◌, ◌<◌, T, ◌⊎◌, sym, refl, subst, inl, inr, ⊎_elim, arith, below_more}
use Rattle.amount.specs.Groups.{Ordered}
use Rattle.network.specs.Walks.{Net}
use Rattle.engine.specs.Tables.{Entry, Found}
use Rattle.network.proofs.Toolkit
use Rattle.network.proofs.Joined.{Joined}
use Rattle.engine.proofs.Entries
use Rattle.engine.proofs.Entries.{Live}

-- what the wait e brings to its end, from the row d
abbrev pub brings : {A : Type 0} → Ordered A → Net A → (ℕ → A) → ℕ → A
brings G N d e = G.add (d (N.from e)) (N.amount e)

-- the wait f ends at v, and walks of k waits lead to its start
abbrev pub Offers : {A : Type 0} → Net A → ℕ → (ℕ → ℕ) → ℕ → ℕ → Type 0
Offers N k m v f = (N.to f ≡ v) × Live k (m (N.from f))

pub record Taken {A : Type 0} (G : Ordered A) (N : Net A) (k : ℕ) (d : ℕ → A) (m : ℕ → ℕ) (c v : ℕ) (x : A) (y : ℕ) : Type 0 where
  pub e : ℕ
  pub mark : y ≡ suc e
  pub below : e < c
  pub offers : Offers N k m v e
  pub is : brings G N d e ≡ x
  pub most : (f : ℕ) → f < c → Offers N k m v f → T (G.leq (brings G N d f) x)
  pub lower : (f : ℕ) → f < e → Offers N k m v f → ¬ (brings G N d f ≡ x)

pub record Empty {A : Type 0} (G : Ordered A) (N : Net A) (k : ℕ) (m : ℕ → ℕ) (c v : ℕ) (x : A) (y : ℕ) : Type 0 where
  pub row : x ≡ G.nil
  pub mark : y ≡ 0
  pub none : (f : ℕ) → f < c → ¬ Offers N k m v f

-- the entry of v, with the waits below c looked at
abbrev pub Part : {A : Type 0} → Ordered A → Net A → ℕ → (ℕ → A) → (ℕ → ℕ) → ℕ → ℕ → A → ℕ → Type 0
Part G N k d m c v x y = Taken G N k d m c v x y ⊎ Empty G N k m c v x y

module _ {A : Type 0} (G : Ordered A) (N : Net A) (k : ℕ) (d : ℕ → A) (m : ℕ → ℕ) (v : ℕ) where
  -- before any wait is looked at
  pub part_none : Part G N k d m 0 v G.nil 0
  part_none = inr (record { row = refl; mark = refl; none = λ f h. absurd (omega arith) })

  -- a wait that brings nothing here
  pub part_skip : (c : ℕ) (x : A) (y : ℕ) → ¬ Offers N k m v c → Part G N k d m c v x y → Part G N k d m (c + 1) v x y
  part_skip c x y not-here p =
      ⊎_elim
      (λ (t : Taken G N k d m c v x y). inl (record { e = t.e; mark = t.mark; below = omega (arith, t.below); offers = t.offers; is = t.is; most = below_more (λ f. Offers N k m v f → T (G.leq (brings G N d f) x)) c t.most (λ o. absurd (not-here o)); lower = t.lower }))
      (λ (t : Empty G N k m c v x y). inr (record { row = t.row; mark = t.mark; none = below_more (λ f. ¬ Offers N k m v f) c t.none not-here }))
      p

  -- the first that brings something
  pub part_first : (c : ℕ) (x : A) → Offers N k m v c → Part G N k d m c v x 0 → Part G N k d m (c + 1) v (brings G N d c) (suc c)
  part_first c x o p =
      ⊎_elim
      (λ (t : Taken G N k d m c v x 0). absurd (omega (arith, t.mark)))
      (λ (t : Empty G N k m c v x 0). inl (record { e = c; mark = refl; below = omega arith; offers = o; is = refl; most = below_more (λ f. Offers N k m v f → T (G.leq (brings G N d f) (brings G N d c))) c (λ f h w. absurd (t.none f h w)) (λ _. Toolkit.le_refl G _); lower = λ f h w. absurd (t.none f h w) }))
      p

  -- one that brings no more
  pub part_keep : (c : ℕ) (x : A) (y : ℕ) → 0 < y → T (G.leq (brings G N d c) x) → Part G N k d m c v x y → Part G N k d m (c + 1) v x y
  part_keep c x y pos le p =
      ⊎_elim
      (λ (t : Taken G N k d m c v x y). inl (record { e = t.e; mark = t.mark; below = omega (arith, t.below); offers = t.offers; is = t.is; most = below_more (λ f. Offers N k m v f → T (G.leq (brings G N d f) x)) c t.most (λ o. le); lower = t.lower }))
      (λ (t : Empty G N k m c v x y). absurd (omega (arith, t.mark)))
      p

  -- one that brings more
  pub part_better : (c : ℕ) (x : A) (y : ℕ) → 0 < y → Offers N k m v c → ¬ T (G.leq (brings G N d c) x) → Part G N k d m c v x y → Part G N k d m (c + 1) v (brings G N d c) (suc c)
  part_better c x y pos o above p =
      ⊎_elim
      (λ (t : Taken G N k d m c v x y).
      let up : T (G.leq x (brings G N d c)) = ⊎_elim (λ h. h) (λ h. absurd (above h)) (G.total x (brings G N d c)) in
      inl (record {
        e = c;
        mark = refl;
        below = omega arith;
        offers = o;
        is = refl;
        most = below_more (λ f. Offers N k m v f → T (G.leq (brings G N d f) (brings G N d c))) c (λ f h w. G.trans _ _ _ (t.most f h w) up) (λ _. Toolkit.le_refl G _);
        lower = λ f h w same. above (subst (λ z. T (G.leq z x)) same (t.most f h w));
      }))
      (λ (t : Empty G N k m c v x y). absurd (omega (arith, t.mark)))
      p

  pub part_all : Joined N → ((u : ℕ) → u < N.events → Entry G N k u (d u) (m u)) → (x : A) (y : ℕ) → Part G N k d m N.waits v x y → Entry G N (suc k) v x y
  part_all ok right x y p =
      ⊎_elim
      (λ (t : Taken G N k d m N.waits v x y). inl (subst (λ z. Found G N k v x z) (sym t.mark) (Entries.found G N ok k d m right v x t.e t.below t.offers.0 t.offers.1 t.is (λ f h there live. t.most f h (there, live)) (λ f h there live. t.lower f h (there, live)))))
      (λ (t : Empty G N k m N.waits v x y). inr (rw (t.row, t.mark) (Entries.missing G N ok k d m right v (λ f h there live. t.none f h (there, live)))))
      p
