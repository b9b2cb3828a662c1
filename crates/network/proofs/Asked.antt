-- What the answer to a network's question for a wait says of its graph.
use Rattle.std.proofs.Common.{◌≡◌, ℕ, sym, ap, ◌∙◌}
use Rattle.amount.specs.Rows.{Row, row_of, places}
use Rattle.amount.proofs.PlaceLists.{row_listed}
use Rattle.network.specs.declared.Wait.{Wait}
use Rattle.network.specs.Networks.{PlainWait, Graph, wait_at}
use Rattle.network.specs.Walks.{net}

module _ {X : Type 0} (d : ℕ) (row : X → Row d) (g : Graph) (e : ℕ) (w : Wait X) (is : record { start = w.start; end = w.end; amount = places d (row w.amount) } ≡ wait_at g.waits e) where
  pub asked_start : w.start ≡ (net d g).from e
  asked_start = ap (λ (v : PlainWait). v.start) is

  pub asked_end : w.end ≡ (net d g).to e
  asked_end = ap (λ (v : PlainWait). v.end) is

  pub asked_amount : row w.amount ≡ (net d g).amount e
  asked_amount = sym (row_listed d (row w.amount)) ∙ ap (λ (v : PlainWait). row_of d v.amount) is
