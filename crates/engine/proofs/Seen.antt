-- A walk walked back until an event comes a second time, with the events met on the way noted down.
use Rattle.std.proofs.Common.{◌≡◌, ℕ, pred, ◌+◌, ◌-◌, ◌<◌, ◌≤◌, ◌≢◌, List, length, get_or, set, replicate, Some, None, Option, sym, refl, ap, ◌∙◌, subst, subst₂, arith, length-set, get_or-set_other, get_or-set_same, below_more}
use lib.ListN.{length-replicate}
use native.Mathlib.Decide.{dec_lt, ℕ_discrete}
use Rattle.std.proofs.lemmas.List.{get_or-replicate, get_or_past}
use Rattle.std.proofs.lemmas.Option.{none-some, same_Some}
use Rattle.amount.specs.Groups.{Ordered}
use Rattle.network.specs.Walks.{Net}
use Rattle.network.proofs.Joined.{Joined}
use Rattle.network.proofs.Pigeon.{pigeon}
use Rattle.engine.specs.Turns.{back, Turns}
use Rattle.engine.proofs.Entries.{Right}
use Rattle.engine.proofs.Back
use Rattle.engine.proofs.Back.{live_marked, back_plus, back_from}

-- t waits were walked back to the event x; each event met before is noted with the number of waits walked then
pub record Seen {A : Type 0} (N : Net A) (m : ℕ → ℕ → ℕ) (v : ℕ) (seen : List (Option ℕ)) (x t : ℕ) : Type 0 where
  pub within : t ≤ N.events
  pub here : x < N.events
  pub is : back N m N.events v t ≡ x
  pub noted : (s : ℕ) → s < t → get_or seen (back N m N.events v s) None ≡ Some s
  pub only : (y s : ℕ) → get_or seen y None ≡ Some s → (s < t) × (back N m N.events v s ≡ y)
  pub size : length seen ≡ 1000

module _ {A : Type 0} (N : Net A) (m : ℕ → ℕ → ℕ) (v : ℕ) where
  nothing : (y : ℕ) → ◌≡◌ {A = Option ℕ} (get_or (replicate 1000 None) y None) None
  nothing y = elim (dec_lt y 1000) [ yes h ↦ get_or-replicate 1000 y None None h | no h ↦ get_or_past (replicate 1000 None) y None (simp length-replicate (omega arith)) ]

  pub seen_none : v < N.events → Seen N m v (replicate 1000 None) v 0
  seen_none h = record { within = omega arith; here = h; is = refl; noted = λ s k. absurd (omega arith); only = λ y s k. absurd (none-some s (sym (nothing y) ∙ k)); size = length-replicate {A = Option ℕ} 1000 None }

  -- no event was met twice
  pub seen_apart : (seen : List (Option ℕ)) (x t : ℕ) → Seen N m v seen x t → (a b : ℕ) → a < b → b < t → back N m N.events v a ≢ back N m N.events v b
  seen_apart seen x t s a b h k same =
      let r : a ≡ b = same_Some a b (sym (s.noted a (omega arith)) ∙ ap (λ y. get_or seen y None) same ∙ s.noted b k) in
      omega (arith, r)

module _ {A : Type 0} (G : Ordered A) (N : Net A) (ok : Joined N) (d : ℕ → ℕ → A) (m : ℕ → ℕ → ℕ) (right : Right G N d m) (n : ℕ) (same : n ≡ N.events) (v : ℕ) (known : v < N.events) (live : 0 < m N.events v)
    (seen : List (Option ℕ)) (x t : ℕ) (s : Seen N m v seen x t) where
  -- an event met for the first time is not the last: there are only n
  pub seen_few : ((f : ℕ) → ¬ (get_or seen x None ≡ Some f)) → t < N.events
  seen_few new = elim (dec_lt t N.events) [ yes h ↦ h | no h ↦ absurd (twice (omega (arith, s.within))) ]
    where
      twice : t ≡ N.events → ⊥
      twice all =
          let r = pigeon N.events (back N m N.events v) (λ i h. Back.back_in G N ok d m right i N.events v h (omega arith) known (live_marked _ _ live)) in
          elim (dec_lt r.1 t) [
            | yes l ↦ seen_apart N m v seen x t s r.0 r.1 r.2 l r.4
            | no l ↦
                let last : r.1 ≡ t = omega (arith, all, r.3) in
                new r.0 (ap (λ y. get_or seen y None) (sym s.is ∙ sym (ap (back N m N.events v) last) ∙ sym r.4) ∙ s.noted r.0 (omega (arith, r.2)))
          ]

  -- and fewer of them are left
  pub seen_fewer : ((f : ℕ) → ¬ (get_or seen x None ≡ Some f)) → n - (t + 1) < n - t
  seen_fewer new = omega (arith, same, seen_few new)

  -- the mark there names a wait
  pub seen_told : t < N.events → (0 < m (n - t) x) × (pred (m (n - t) x) < N.waits)
  seen_told h =
      let r = Back.told G N ok d m right N.events v N.events (omega arith) (omega arith) known (live_marked _ _ live) t h in
      subst₂ (λ i y. (0 < m (i - t) y) × (pred (m (i - t) y) < N.waits)) (sym same) s.is (r.1, r.2)

  -- and to the event y, where it starts, one more wait is walked back
  pub seen_more : N.events ≤ 1000 → ((f : ℕ) → ¬ (get_or seen x None ≡ Some f)) → (e y : ℕ) → e ≡ pred (m (n - t) x) → y ≡ N.from e → Seen N m v (set seen x (Some t)) y (t + 1)
  seen_more few new e y wait start =
      record {
        within = omega (arith, seen_few new);
        here = subst (λ i. i < N.events) (sym start) (ok.starts e (subst (λ i. i < N.waits) (sym wait) (seen_told (seen_few new)).1));
        is = back_from N m t N.events v x e y s.is (wait ∙ ap (λ i. pred (m (i - t) x)) same) start;
        noted = below_more (λ a. get_or (set seen x (Some t)) (back N m N.events v a) None ≡ Some a) t
            (λ a h. get_or-set_other seen x (back N m N.events v a) (Some t) None (λ met. new a (ap (λ i. get_or seen i None) (sym met) ∙ s.noted a h)) ∙ s.noted a h)
            (ap (λ i. get_or (set seen x (Some t)) i None) s.is ∙ noted);
        only = λ y a h. elim (ℕ_discrete y x) [
          | yes e ↦
              let f : t ≡ a = same_Some t a (sym (ap (λ i. get_or (set seen x (Some t)) i None) e ∙ noted) ∙ h) in
              (omega (arith, f), ap (back N m N.events v) (sym f) ∙ s.is ∙ sym e)
          | no e ↦
              let r = s.only y a (sym (get_or-set_other seen x y (Some t) None e) ∙ h) in
              (omega (arith, r.0), r.1)
        ];
        size = length-set seen x (Some t) ∙ s.size;
      }
    where
      noted : get_or (set seen x (Some t)) x None ≡ Some t
      noted = get_or-set_same seen x (Some t) None (omega (arith, s.here, s.size, few))

  -- an event met again closes a turn
  pub seen_turns : (f : ℕ) → get_or seen x None ≡ Some f → (p : A) → p ≡ G.add (d (n - f) x) (G.neg (d (n - t) x)) → Turns G N d m v (n - f) x (t - f) p
  seen_turns f again p comes =
      let r = s.only x f again in
      record {
        known = known;
        live = live;
        within = omega (arith, same);
        some = omega (arith, r.0);
        held = omega (arith, s.within, same);
        on = ap (back N m N.events v) (again_to (omega (arith, r.0, s.within))) ∙ r.1;
        closes = sym (later (t - f) r.1) ∙ ap (back N m N.events v) (upto r.0) ∙ s.is;
        apart = λ a b h k met. seen_apart N m v seen x t s (f + a) (f + b) (omega arith) (omega arith) (later a r.1 ∙ met ∙ sym (later b r.1));
        comes = comes ∙ ap (λ i. G.add (d (n - f) x) (G.neg (d i x))) (rest r.0);
      }
    where
      again_to : f ≤ N.events → N.events - (n - f) ≡ f
      again_to h = omega (arith, same)

      upto : f < t → f + (t - f) ≡ t
      upto h = omega arith

      rest : f < t → n - t ≡ n - f - (t - f)
      rest h = omega arith

      later : (i : ℕ) → back N m N.events v f ≡ x → back N m N.events v (f + i) ≡ back N m (n - f) x i
      later i e = back_plus N m f i N.events v ∙ ap (λ y. back N m (N.events - f) y i) e ∙ ap (λ j. back N m (j - f) x i) (sym same)
