-- How near zero the engine's entries, differences and multiples lie, and where an entry lies in a table.
use Rattle.std.proofs.Common.{ℕ, ◌+◌, ◌*◌, ◌<◌, ◌≤◌, Bool, sym, subst, mul-le-mul_right, suc-mul, add-one, arith}
use Rattle.amount.specs.Rows.{Row, add_row, neg_row, times_row, Within, OrderLaws}
use Rattle.amount.specs.Scales.{Scale, exact, CanMul}
use Rattle.amount.specs.Groups.{row_group}
use Rattle.amount.specs.Spans.{span}
use Rattle.amount.proofs.Bounds.{within_more, within_add, within_neg}
use Rattle.amount.proofs.Multiples.{times_row_lem, within_times}
use Rattle.network.specs.Networks.{Graph, Sound}
use Rattle.network.specs.Walks.{net}
use Rattle.engine.specs.Spans.{entry_span}
use Rattle.engine.specs.Tables.{Entry}
use Rattle.engine.specs.Solved.{table_size}
use Rattle.engine.proofs.Magnitudes.{amount_near, entry_near}

-- a row taken up to a thousand times
pub times_near : {d : ℕ} {le : Row d → Row d → Bool} (order : OrderLaws d le) (k b : ℕ) (r : Row d) → k ≤ 1000 → Within d b r → Within d (1000 * b) (times_row d k r)
times_near {d = d} order k b r few near = subst (λ y. Within d (1000 * b) y) (sym (times_row_lem order k r)) (within_more d (k * b) (1000 * b) _ (mul-le-mul_right b few) (within_times order k b r near))

-- an amount near zero can be taken so often
pub can_take : {X : Type 0} (m : Scale X) (k b : ℕ) (x : X) → k ≤ 1000 → b ≤ 1000000000 → Within m.places b (m.row x) → CanMul m x k
can_take m k b x few small near = (few, within_more m.places (1000 * b) exact _ (omega arith) (times_near m.order k b (m.row x) few near))

-- the difference of two rows near zero
pub gap_near : (d b : ℕ) (r s : Row d) → Within d b r → Within d b s → Within d (b + b) (add_row d r (neg_row d s))
gap_near d b r s h k = within_add d b b _ _ h (within_neg d b s k)

-- row k lies in a table of n + 1 rows
pub place_inside : (n k v : ℕ) → k ≤ n → v < n → k * n + v < table_size n
place_inside n k v h b = rw add-one (omega (arith, mul-le-mul_right n h, suc-mul n n))

-- the row of an entry lies near zero
pub entry_within : {d : ℕ} {le : Row d → Row d → Bool} (order : OrderLaws d le) (g : Graph) → Sound g → g.events ≤ 1000 → (k v : ℕ) (x : Row d) (y : ℕ) → k ≤ g.events → Entry (row_group order) (net d g) k v x y → Within d entry_span x
entry_within {d = d} order g sound few k v x y within entry = within_more d (k * span) entry_span x (omega arith) (entry_near order (net d g) span (amount_near d g sound) k v x y entry)
