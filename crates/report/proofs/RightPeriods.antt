-- What a right period, its loop and its departures give to whoever prints them.
use Rattle.std.proofs.Common.{◌≡◌, ℕ, zero, suc, ◌*◌, ◌<◌, ◌≤◌, Bool, List, [], ◌∷◌, map, length, get_or, take, sym, ap, ◌∙◌, subst, arith}
use Rattle.std.specs.List.{range_with_len}
use Rattle.std.proofs.lemmas.List.{length-map, length-take-le, get_or-map, get_or-take, take-map}
use Rattle.std.proofs.lemmas.Simd.{map-map}
use Rattle.std.proofs.lemmas.List.FromFn.{fill_by_all}
use Rattle.amount.specs.Rows.{Row, places, zero_row, Within, OrderLaws}
use Rattle.amount.specs.Spans.{span}
use Rattle.amount.specs.Groups.{row_group}
use Rattle.amount.proofs.Bounds.{within_more}
use Rattle.network.specs.Networks.{Graph, Sound}
use Rattle.network.specs.Walks.{Net, net, Walk, count}
use Rattle.network.specs.Walks.{Period as IsPeriod}
use Rattle.network.proofs.Pigeon.{pigeon}
use Rattle.engine.proofs.Magnitudes.{amount_near, within_total}

-- a walk's waits are waits of the network
walk_known : {A : Type 0} (N : Net A) (u : ℕ) (es : List ℕ) (v : ℕ) → Walk N u es v → (i : ℕ) → i < length es → get_or es i 0 < N.waits
walk_known N u [] v w i h = absurd (omega arith)
walk_known N u (e ∷ es) v w zero h = w.0
walk_known N u (e ∷ es) v w (suc i) h = walk_known N (N.to e) es v w.2 i (omega arith)

module _ {d : ℕ} {le : Row d → Row d → Bool} (o : OrderLaws d le) {g : Graph} (sound : Sound g) {p : Row d} {q : ℕ} {es : List ℕ} {r : ℕ → Row d} (right : IsPeriod (row_group o) (net d g) p q es r) where
  -- the count is the number of the loop's waits
  pub counted : q ≡ length es
  unfolding count
  counted = right.counts

  pub some : 0 < q
  some = subst (λ k. 0 < k) (sym counted) right.loop.closed.some

  pub known : (i : ℕ) → i < length es → get_or es i 0 < length g.waits
  known = walk_known (net d g) _ es _ right.loop.closed.walk

  -- there are no more of them than events: a loop starts at none twice
  pub brief : length es ≤ g.events
  brief =
      let not_more : g.events < length es → ⊥ = λ h.
      let twice = pigeon g.events (λ i. (net d g).from (get_or es i 0)) (λ i k. sound.starts _ (known i (omega arith))) in
      right.loop.apart twice.0 twice.1 twice.2 (omega (arith, twice.3)) twice.4 in
      omega (arith, not_more)

  -- a loop of at most n waits has a total near zero
  pub near : (n b : ℕ) → length es ≤ n → n * span ≤ b → Within d b p
  near n b k h = subst (Within d b) (sym right.sums) (within_more d (length es * span) b _ (omega (arith, k)) (within_total o (net d g) span (amount_near d g sound) _ es _ right.loop.closed.walk))

-- the departures of n events, as the slice that holds them shows them
pub shown_rows : {X : Type 0} (d : ℕ) (row : X → Row d) (xs : List X) (n : ℕ) → n ≤ length xs → map (λ x. places d (row x)) (take n xs) ≡ map (λ v. places d (get_or (map row xs) v (zero_row d))) (range_with_len 0 n)
shown_rows d row xs n h =
    let zero = zero_row d in
    let rs = map row (take n xs) in
    let l : length rs ≡ n = length-map (take n xs) row ∙ length-take-le n xs h in
    sym (map-map (places d) row (take n xs))
    ∙ fill_by_all (λ v. places d (get_or (map row xs) v zero)) (map (places d) rs) n [] (length-map rs (places d) ∙ l)
    (λ k u.
    let e : get_or rs k zero ≡ get_or (map row xs) k zero = ap (λ zs. get_or zs k zero) (sym (take-map row n xs)) ∙ get_or-take n (map row xs) k zero u in
    get_or-map (places d) rs k zero [] (omega arith) ∙ ap (places d) e)
