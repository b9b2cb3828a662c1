-- What an edit of the records does to the waits that they mean.
use Rattle.std.proofs.Common.{◌≡◌, ℕ, ◌+◌, ◌<◌, ◌≤◌, List, [], ◌∷◌, ◌++◌, map, length, get_or, take, set, ℤ, sym, ap, ◌∙◌}
use Rattle.std.proofs.lemmas.List.{map-set, map_push, map-append, append_assoc, take_all, take_more, take_more_set}
use Rattle.amount.specs.Rows.{Row, places}
use Rattle.network.specs.declared.Wait.{Wait}
use Rattle.network.specs.Networks.{PlainWait, wait_at}
use Rattle.plan.specs.Rules.{added, retimed}
use Rattle.plan.proofs.RecordRows.{plain_by, meant_by, meant_at}

module _ {W : Type 0} (f : W → PlainWait) (count : ℕ) (m : List W) where
  -- one more record adds the wait that it means
  pub added_list : (s : W) (w : PlainWait) → f s ≡ w → map f (take count m ++ s ∷ []) ≡ added (map f (take count m)) w
  added_list s w e = map_push f (take count m) s ∙ ap (λ (v : PlainWait). added (map f (take count m)) v) e

  -- where the first records mean the waits vs and then the first i of ws, one more of each
  pub written_more : (vs ws : List PlainWait) (i : ℕ) (s : W) → count < length m → i < length ws → f s ≡ wait_at ws i
      → map f (take count m) ≡ vs ++ take i ws → map f (take (count + 1) (set m count s)) ≡ vs ++ take (i + 1) ws
  written_more vs ws i s h h' e is =
      ap (map f) (take_more_set m count s h)
      ∙ added_list s (wait_at ws i) e
      ∙ ap (λ (l : List PlainWait). added l (wait_at ws i)) is
      ∙ append_assoc vs (take i ws) (wait_at ws i ∷ [])
      ∙ ap (λ (l : List PlainWait). vs ++ l) (sym (take_more ws i _ h'))

  -- records behind them that mean the waits ws
  pub appended_list : (new : List W) (ws : List PlainWait) (i : ℕ) → length new ≤ i → length ws ≤ i → map f (take i new) ≡ take i ws → map f (take count m ++ new) ≡ map f (take count m) ++ ws
  appended_list new ws i h h' is =
      map-append f (take count m) new
      ∙ ap (λ (l : List PlainWait). map f (take count m) ++ l) (ap (map f) (sym (take_all i new h)) ∙ is ∙ take_all i ws h')

module _ {S : Type 0} (d : ℕ) (row : S → Row d) (count : ℕ) (m : List (Wait S)) (fits : count ≤ length m) (i : ℕ) (w : Wait S) where
  -- record i with another amount retimes wait i
  pub retimed_list : (s : S) (a : List ℤ) → i < count → places d (row s) ≡ a
      → map (plain_by d row) (set (take count m) i (record { start = (get_or m i w).start; end = (get_or m i w).end; amount = s })) ≡ retimed (meant_by d row count m) i a
  retimed_list s a h e =
      map-set (plain_by d row) (take count m) i _
      ∙ ap (λ (x : List ℤ). set (meant_by d row count m) i (record { start = (get_or m i w).start; end = (get_or m i w).end; amount = x })) e
      ∙ ap (λ (v : PlainWait). set (meant_by d row count m) i (record { start = v.start; end = v.end; amount = a })) (sym (meant_at d row count m fits i w h))
