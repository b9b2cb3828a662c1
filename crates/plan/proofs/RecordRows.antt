-- Records whose amounts stand for rows in any way: the waits that the first of them mean are sound where they start and end at
-- the events and their rows lie in the span. A plan's records are those with an amount in its span.
use Rattle.std.specs.Prelude.{◌≡◌, ℕ, zero, suc, ◌<◌, ◌≤◌, List, [], ◌∷◌, map, length, get_or, take, slice_index_or}
use Rattle.std.proofs.Common.{sym, subst, ◌∙◌, ap, arith, length-take, length-take-le, get_or-take}
use Rattle.std.proofs.lemmas.List.{get_or-map, length-map}
use Rattle.amount.specs.Rows.{Row, places, Within}
use Rattle.amount.specs.Spans.{span}
use Rattle.network.specs.declared.Wait.{Wait}
use Rattle.network.specs.Networks.{PlainWait, wait_at, AllWithin, Sound, graph}

-- the first records start at events below n
abbrev pub Starts : {S : Type 0} → ℕ → ℕ → List (Wait S) → Type 0
Starts {S} n count ws = (k : ℕ) (w : Wait S) → k < count → (slice_index_or ws k w).start < n

-- and end at such events
abbrev pub Ends : {S : Type 0} → ℕ → ℕ → List (Wait S) → Type 0
Ends {S} n count ws = (k : ℕ) (w : Wait S) → k < count → (slice_index_or ws k w).end < n

-- what a record means, whose amount stands for a row of d places
abbrev pub plain_by : {S : Type 0} (d : ℕ) → (S → Row d) → Wait S → PlainWait
plain_by d row w = record { start = w.start; end = w.end; amount = places d (row w.amount) }

-- the waits that the first records mean
abbrev pub meant_by : {S : Type 0} (d : ℕ) → (S → Row d) → ℕ → List (Wait S) → List PlainWait
meant_by d row count ws = map (plain_by d row) (take count ws)

-- a row within b has every place within it
within_all : (b d : ℕ) (r : Row d) → Within d b r → AllWithin b (places d r)
within_all b zero r h = tt
within_all b (suc d) r h = (h.0, h.1, within_all b d r.1 h.2)

-- an element of a list that has one
one : {W : Type 0} (ws : List W) → 0 < length ws → W
one [] h = absurd (omega arith)
one (w ∷ ws) h = w

module _ {S : Type 0} (d : ℕ) (row : S → Row d) (count : ℕ) (m : List (Wait S)) where
  -- there are no more waits than records
  pub meant_short : count ≤ 20000 → length (meant_by d row count m) ≤ 20000
  meant_short h = simp length-map (omega (arith, length-take count m))

  module _ (fits : count ≤ length m) where
    -- how many waits the records mean
    pub meant_length : length (meant_by d row count m) ≡ count
    meant_length = length-map (take count m) _ ∙ length-take-le count m fits

    -- the wait that a record means
    pub meant_at : (e : ℕ) (w : Wait S) → e < count → wait_at (meant_by d row count m) e ≡ plain_by d row (slice_index_or m e w)
    meant_at e w h =
        let l : e < length (take count m) = subst (λ k. e < k) (sym (length-take-le count m fits)) h in
        get_or-map (plain_by d row) (take count m) e w _ l ∙ ap (plain_by d row) (get_or-take count m e w h)

    -- the record that wait e is read from
    held : (e : ℕ) → e < length (meant_by d row count m) → (w : Wait S) × (e < count) × (wait_at (meant_by d row count m) e ≡ plain_by d row (slice_index_or m e w))
    held e h =
        let l : e < count = subst (λ k. e < k) meant_length h in
        let w : Wait S = one m (omega arith) in
        (w, l, meant_at e w l)

    -- they start and end at the plan's events, and lie in the span
    pub meant_sound : (n : ℕ) → Starts n count m → Ends n count m → ((s : S) → Within d span (row s)) → Sound (graph n (meant_by d row count m))
    meant_sound n starts ends near = record {
      starts = λ e h. let r = held e h in subst (λ (v : PlainWait). v.start < n) (sym r.2) (starts e r.0 r.1);
      ends = λ e h. let r = held e h in subst (λ (v : PlainWait). v.end < n) (sym r.2) (ends e r.0 r.1);
      spans = λ e h. let r = held e h in subst (λ (v : PlainWait). AllWithin span v.amount) (sym r.2) (within_all span d (row (get_or m e r.0).amount) (near (get_or m e r.0).amount));
    }
