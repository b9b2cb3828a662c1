-- What `<=` on amounts says of their rows.
use Rattle.std.proofs.Common.{◌≡◌, Some, Option, ap, ◌∙◌}
use Rattle.std.specs.declared.cmp.Ordering.{Ordering}
use Rattle.std.specs.Ordering.{partial_le}
use Rattle.amount.specs.Scales.{Scale, Compares}

pub le_rows : {X : Type 0} (m : Scale X) {cmp : X → X → Ordering} {partial : X → X → Option Ordering} → ((a b : X) → partial a b ≡ Some (cmp a b)) → Compares m cmp → (a b : X) → partial_le partial a b ≡ m.at_most (m.row a) (m.row b)
le_rows m agrees compares a b = ap (λ (o : Option Ordering). partial_le (λ _ _. o) a b) (agrees a b) ∙ compares a b
