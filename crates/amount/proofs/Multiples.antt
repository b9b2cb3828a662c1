-- A row taken k times is the row added k times.
use Rattle.std.proofs.Common.{◌≡◌, ℕ, zero, suc, ◌*◌, Bool, ℤ, pos, ◌+ℤ◌, ◌*ℤ◌, sym, refl, ap, ◌∙◌, subst, suc-mul, add_comm}
use lib.IntN.{zero-*ℤ, suc_ℤ-*ℤ, +ℤ_comm}
use Rattle.amount.specs.Rows.{Row, zero_row, add_row, times_row, Within, OrderLaws}
use Rattle.amount.specs.Groups.{times, row_group}
use Rattle.amount.proofs.Bounds.{within_zero, within_add}

times_none : (d : ℕ) (r : Row d) → times_row d zero r ≡ zero_row d
times_none zero r = refl
times_none (suc d) r = λ i. (pos_zero r.0 i, times_none d r.1 i)
  where
    pos_zero : (z : ℤ) → pos 0 *ℤ z ≡ pos 0
    pos_zero z = zero-*ℤ z

times_more : (d k : ℕ) (r : Row d) → times_row d (suc k) r ≡ add_row d r (times_row d k r)
times_more zero k r = refl
times_more (suc d) k r = λ i. (pos_more r.0 i, times_more d k r.1 i)
  where
    pos_more : (z : ℤ) → pos (suc k) *ℤ z ≡ z +ℤ (pos k *ℤ z)
    pos_more z = suc_ℤ-*ℤ (pos k) z ∙ +ℤ_comm (pos k *ℤ z) z

module _ {d : ℕ} {le : Row d → Row d → Bool} (o : OrderLaws d le) where
  pub times_row_lem : (k : ℕ) (r : Row d) → times_row d k r ≡ times (row_group o) k r
  unfolding times
  times_row_lem zero r = times_none d r
  times_row_lem (suc k) r = times_more d k r ∙ ap (add_row d r) (times_row_lem k r)

  pub within_times : (k b : ℕ) (r : Row d) → Within d b r → Within d (k * b) (times (row_group o) k r)
  unfolding times
  within_times zero b r h = within_zero d _
  within_times (suc k) b r h = subst (λ x. Within d x (add_row d r (times (row_group o) k r))) (add_comm b (k * b) ∙ sym (suc-mul k b)) (within_add d b (k * b) r (times (row_group o) k r) h (within_times k b r h))
