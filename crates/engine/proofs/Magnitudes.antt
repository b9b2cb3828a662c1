-- How far from zero the totals of walks and the entries of the tables lie.
use Rattle.std.proofs.Common.{ℕ, zero, suc, ◌*◌, ◌<◌, Bool, List, [], ◌∷◌, length, ℤ, sym, ◌∙◌, subst, subst₂, ⊎_elim, suc-mul, add_comm, arith}
use Rattle.std.proofs.lemmas.Int.{ints}
use Rattle.amount.specs.Rows.{Row, row_of, add_row, Within, OrderLaws}
use Rattle.amount.specs.Spans.{span}
use Rattle.amount.specs.Groups.{row_group}
use Rattle.amount.proofs.Bounds.{within_zero, within_add}
use Rattle.network.specs.Networks.{AllWithin, Graph, Sound}
use Rattle.network.specs.Walks.{Net, net, Walk, total}
use Rattle.engine.specs.Tables.{Entry, Found, Missing}

-- the row of numbers near zero is near zero
within_row : (d b : ℕ) (xs : List ℤ) → AllWithin b xs → Within d b (row_of d xs)
within_row zero b xs h = tt
within_row (suc d) b [] h = (omega (arith, ints), omega (arith, ints), within_row d b [] tt)
within_row (suc d) b (x ∷ xs) h = (h.0, h.1, within_row d b xs h.2)

-- every amount of a sound list lies in its span
pub amount_near : (d : ℕ) (g : Graph) → Sound g → (e : ℕ) → e < length g.waits → Within d span ((net d g).amount e)
amount_near d g s e h = within_row d span _ (s.spans e h)

module _ {d : ℕ} {le : Row d → Row d → Bool} (o : OrderLaws d le) (N : Net (Row d)) (b : ℕ) (near : (e : ℕ) → e < N.waits → Within d b (N.amount e)) where
  -- a walk's total lies within b for each of its waits
  pub within_total : (u : ℕ) (es : List ℕ) (v : ℕ) → Walk N u es v → Within d (length es * b) (total (row_group o) N es)
  within_total u [] v s = within_zero d _
  within_total u (e ∷ es) v s =
      subst (λ x. Within d x (add_row d (N.amount e) (total (row_group o) N es))) (add_comm b (length es * b) ∙ sym (suc-mul (length es) b))
      (within_add d b (length es * b) _ _ (near e s.0) (within_total (N.to e) es v s.2))

  -- an entry for k waits lies within k times b
  pub entry_near : (k v : ℕ) (x : Row d) (m : ℕ) → Entry (row_group o) N k v x m → Within d (k * b) x
  entry_near zero v x m en = subst (λ y. Within d (0 * b) y) (sym en.0) (within_zero d _)
  entry_near (suc k) v x m en =
      ⊎_elim
      (λ (f : Found (row_group o) N k v x m). let r = f.greatest.reached in subst₂ (λ i y. Within d (i * b) y) r.3 r.4 (within_total r.0 r.1 v r.2))
      (λ (f : Missing (row_group o) N (suc k) v x m). subst (λ y. Within d (suc k * b) y) (sym f.row) (within_zero d _))
      en
