-- The waits of a file of d places, fitted to a measure of D places: whatever D is, they are sound where those that the words
-- spell are. A file that opens is of its measure's own number of places, and there D is d.
use Rattle.std.specs.Prelude.{◌≡◌, ℕ, zero, suc, ◌+◌, ◌<◌, ◌≤◌, false, List, [], ◌∷◌, length, ℤ}
use Rattle.std.proofs.Common.{sym, ◌∙◌, subst, arith}
use Rattle.std.proofs.lemmas.Int.{ints}
use Rattle.std.proofs.lemmas.List.FromFn.{length-map-range_with_len, get_or-map-range_with_len}
use Rattle.amount.specs.Rows.{places, row_of}
use Rattle.amount.specs.Spans.{span}
use Rattle.network.specs.Networks.{PlainWait, wait_at, AllWithin, graph, Sound, Owed}
use Rattle.file.specs.Layout.{base}
use Rattle.file.specs.Contents.{places_from, wait_in, first_waits, fitted, fitted_waits}
use Rattle.file.proofs.WaitLists.{some_beyond, within, waits_length, waits_at}

-- places that lie within b do so when they are fitted
within_fitted : (b D : ℕ) (xs : List ℤ) → AllWithin b xs → AllWithin b (places D (row_of D xs))
within_fitted b zero xs h = tt
within_fitted b (suc D) [] h = (omega (arith, ints), omega (arith, ints), within_fitted b D [] tt)
within_fitted b (suc D) (x ∷ xs) h = (h.0, h.1, within_fitted b D xs h.2)

module _ (D d : ℕ) (ws : List ℕ) (n : ℕ) where
  pub fitted_length : length (fitted_waits D d ws n) ≡ n
  fitted_length = length-map-range_with_len (λ j. fitted D (wait_in d ws j)) 0 n

  pub fitted_at : (e : ℕ) → e < n → wait_at (fitted_waits D d ws n) e ≡ fitted D (wait_in d ws e)
  fitted_at e h = get_or-map-range_with_len (λ j. fitted D (wait_in d ws j)) 0 n e e (record { start = 0; end = 0; amount = [] }) h (omega arith)

  pub fitted_short : n ≤ 20000 → length (fitted_waits D d ws n) ≤ 20000
  fitted_short h = subst (λ m. m ≤ 20000) (sym fitted_length) h

  pub fitted_sound : (events : ℕ) → ((j : ℕ) → j < n → (wait_in d ws j).start < events) → ((j : ℕ) → j < n → (wait_in d ws j).end < events)
      → ((j : ℕ) → j < n → some_beyond span (wait_in d ws j).amount ≡ false) → Sound (graph events (fitted_waits D d ws n))
  fitted_sound events starts ends spans = record {
    starts = λ e h. let l : e < n = subst (λ m. e < m) fitted_length h in subst (λ (w : PlainWait). w.start < events) (sym (fitted_at e l)) (starts e l);
    ends = λ e h. let l : e < n = subst (λ m. e < m) fitted_length h in subst (λ (w : PlainWait). w.end < events) (sym (fitted_at e l)) (ends e l);
    spans = λ e h.
        let l : e < n = subst (λ m. e < m) fitted_length h in
        subst (λ (w : PlainWait). AllWithin span w.amount) (sym (fitted_at e l))
        (within_fitted span D (places_from d ws (base d e + 1)) (within span (places_from d ws (base d e + 1)) (spans e l)));
  }

  -- and what the waits as spelled owe, they owe when they are fitted
  pub fitted_owed : (events : ℕ) → Owed (graph events (first_waits d ws n)) → Owed (graph events (fitted_waits D d ws n))
  fitted_owed events o =
      let spelled : (e : ℕ) → e < n → e < length (first_waits d ws n) = λ e l. subst (λ m. e < m) (sym (waits_length d ws n)) l in
      record {
        few = o.few;
        short = subst (λ m. m ≤ 20000) (waits_length d ws n ∙ sym fitted_length) o.short;
        sound = record {
          starts = λ e h.
              let l : e < n = subst (λ m. e < m) fitted_length h in
              subst (λ (w : PlainWait). w.start < events) (sym (fitted_at e l))
              (subst (λ (w : PlainWait). w.start < events) (waits_at d ws n e l) (o.sound.starts e (spelled e l)));
          ends = λ e h.
              let l : e < n = subst (λ m. e < m) fitted_length h in
              subst (λ (w : PlainWait). w.end < events) (sym (fitted_at e l))
              (subst (λ (w : PlainWait). w.end < events) (waits_at d ws n e l) (o.sound.ends e (spelled e l)));
          spans = λ e h.
              let l : e < n = subst (λ m. e < m) fitted_length h in
              subst (λ (w : PlainWait). AllWithin span w.amount) (sym (fitted_at e l))
              (within_fitted span D (places_from d ws (base d e + 1))
              (subst (λ (w : PlainWait). AllWithin span w.amount) (waits_at d ws n e l) (o.sound.spans e (spelled e l))));
        };
      }
