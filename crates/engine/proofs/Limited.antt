-- The limiting turn, event by event.
use Rattle.std.proofs.Common.{◌≡◌, ℕ, ◌+◌, ◌-◌, ◌<◌, ◌≤◌, Bool, true, false, T, Some, None, Option, sym, ◌∙◌, subst, subst₂, ⊎_elim, arith, below_more}
use Rattle.amount.specs.declared.measure.Scaled.{Ghosts}
use Rattle.amount.specs.Rows.{Row, times_row, Within, OrderLaws}
use Rattle.amount.specs.Scales.{Scale}
use Rattle.amount.specs.Groups.{Ordered, row_group}
use Rattle.amount.proofs.Multiples.{times_row_lem}
use Rattle.network.specs.Networks.{Graph, Sound}
use Rattle.network.specs.Walks.{Net, net, MeanLe}
use Rattle.network.proofs.Toolkit
use Rattle.network.proofs.Joined.{joined}
use Rattle.engine.specs.Spans.{entry_span, turn_span}
use Rattle.engine.specs.declared.turn.Turn.{Turn}
use Rattle.engine.specs.Turns.{Turns, TurnsBelow}
use Rattle.engine.specs.Filled.{Tables, mark_in, row_in}
use Rattle.engine.specs.Limits.{TurnsSo, OfGreaterMean, NoGreater, Limit, Limiting}
use Rattle.engine.proofs.Entries.{Right}
use Rattle.engine.proofs.Reading.{gap_near, entry_within}
use Rattle.engine.proofs.Turning

-- two means, compared as rows taken i and k times
module _ {d : ℕ} {le : Row d → Row d → Bool} (order : OrderLaws d le) (a b x y : Row d) (i k : ℕ) (first : x ≡ times_row d i a) (second : y ≡ times_row d k b) where
  pub mean_at_most : true ≡ le x y → MeanLe (row_group order) a k b i
  mean_at_most e = subst₂ (λ u v. T (le u v)) (first ∙ times_row_lem order i a) (second ∙ times_row_lem order k b) (subst T e tt)

  pub mean_above : false ≡ le x y → MeanLe (row_group order) b i a k
  mean_above e = subst₂ (λ u v. T (le u v)) (second ∙ times_row_lem order k b) (first ∙ times_row_lem order i a) (⊎_elim (λ h. absurd (subst T (sym e) h)) (λ h. h) (order.total x y))

module _ {A : Type 0} (G : Ordered A) (N : Net A) (d : ℕ → ℕ → A) (m : ℕ → ℕ → ℕ) where
  -- its own mean bounds a turn
  turns_own : (v j x c : ℕ) (p : A) → Turns G N d m v j x c p → TurnsBelow G N d m p c v
  turns_own v j x c p t = record { end = j; event = x; count = c; x = p; turns = t; mean = Toolkit.le_refl G _ }

  -- a greater mean bounds it too
  turns_wider : (p r : A) (q s v : ℕ) → 0 < q → MeanLe G p q r s → TurnsBelow G N d m p q v → TurnsBelow G N d m r s v
  turns_wider p r q s v pos h b = record { end = b.end; event = b.event; count = b.count; x = b.x; turns = b.turns; mean = Toolkit.mean_trans G b.x p r b.count q s pos b.mean h }

module _ {X : Type 0} {R : Ghosts X} (m : Scale X) (t : Tables X) where
  -- no walk of n waits ends at the event v
  pub limit_dead : (o : Option (Turn X R)) (v : ℕ) → ¬ (0 < mark_in t t.graph.events v) → Limiting m t v o → Limiting m t (v + 1) o
  limit_dead None v dead none = below_more (λ u. ¬ (0 < mark_in t t.graph.events u)) v none dead
  limit_dead (Some r) v dead l = record { v = l.v; turns = l.turns; most = below_more (NoGreater m t r) v l.most (λ live. absurd (dead live)) }

  -- the first turn
  pub limit_first : (r : Turn X R) (v : ℕ) → TurnsSo m t v r → Limiting {R = R} m t v None → Limiting m t (v + 1) (Some r)
  limit_first r v turns none =
      record {
        v = v;
        turns = turns;
        most = below_more (NoGreater m t r) v
            (λ u h live. absurd (none u h live)) (λ live. turns_own (row_group m.order) (net m.places t.graph) (row_in m t) (mark_in t) v _ _ _ _ turns);
      }

  -- one turn more
  pub limit_more : (s u r : Turn X R) (v : ℕ) → TurnsSo m t v u → OfGreaterMean m s u r → Limiting m t v (Some s) → Limiting m t (v + 1) (Some r)
  limit_more s u r v turns greater l =
      let G = row_group m.order in
      let N = net m.places t.graph in
      let D = row_in m t in
      let M = mark_in t in
      let own = turns_own G N D M v _ _ _ _ turns in
      ⊎_elim
      (λ h. subst (λ y. Limit m t (v + 1) y) (sym h.0)
      (record { v = l.v; turns = l.turns; most = below_more (NoGreater m t s) v l.most (λ live. turns_wider G N D M _ _ _ _ v turns.some h.1 own) }))
      (λ h. subst (λ y. Limit m t (v + 1) y) (sym h.0)
      (record { v = v; turns = turns; most = below_more (NoGreater m t u) v (λ w k live. turns_wider G N D M _ _ _ _ w l.turns.some h.1 (l.most w k live)) (λ live. own) }))
      greater

-- a turn in right tables
module _ {d : ℕ} {le : Row d → Row d → Bool} (order : OrderLaws d le) (g : Graph) (sound : Sound g) (few : g.events ≤ 1000) (D : ℕ → ℕ → Row d) (M : ℕ → ℕ → ℕ) (right : Right (row_group order) (net d g) D M)
    (v j x c : ℕ) (p : Row d) (t : Turns (row_group order) (net d g) D M v j x c p) where
  turn_event : x < g.events
  turn_event = Turning.turn_in (row_group order) (net d g) (joined d g sound) D M right v j x c p t

  -- its total lies near zero
  pub turn_near : Within d turn_span p
  turn_near =
      subst (λ y. Within d (entry_span + entry_span) y) (sym t.comes)
      (gap_near d entry_span _ _ (entry_within order g sound few j x _ _ t.within (right j x t.within turn_event)) (entry_within order g sound few (j - c) x _ _ (omega (arith, t.within)) (right (j - c) x (omega (arith, t.within)) turn_event)))

  -- and it takes few waits
  pub turn_few : c ≤ 1000
  turn_few = omega (arith, t.within, t.held)
