-- What opens is not refused, and a refusal is unique: both go by the word at which reading stops.
use Rattle.std.proofs.Common.{◌≡◌, ℕ, ◌+◌, ◌<◌, ◌≤◌, cond, eqb, ltb, ◌⊎◌, List, length, sym, ap, ◌∙◌, subst, inl, inr, ⊎_elim, arith}
use Rattle.std.proofs.lemmas.Bool.{cases_order}
use Rattle.std.proofs.lemmas.Bool.Decides.{nat_tests}
use Rattle.file.specs.Words.{words_of}
use Rattle.file.specs.Layout.{fault_at, Right, RightTo, ClosedAt}
use Rattle.file.specs.Opening.{Whole, Checked, Opens, Refused, torn, faulty, unclosed, trailed, unchecked, Decided}
use Rattle.file.proofs.SpelledWords.{fileable, spelled}
use Rattle.file.proofs.SpelledBack.{spelled_opens}

-- reading stops at word k: every word before it is right, and it is at fault or closes the file, or there is none
record Stop (m d : ℕ) (ws : List ℕ) (k : ℕ) : Type 0 where
  before : RightTo m d ws k
  inside : k ≤ length ws
  halts : k < length ws → Right m d ws k → ⊥

stop_once : (m d : ℕ) (ws : List ℕ) (j k : ℕ) → Stop m d ws j → Stop m d ws k → j ≡ k
stop_once m d ws j k s t = ⊎_elim (λ e. e) (⊎_elim (λ h. absurd (earlier j k s t h)) (λ h. absurd (earlier k j t s h))) (cases_order j k)
  where
    earlier : (j k : ℕ) → Stop m d ws j → Stop m d ws k → j < k → ⊥
    earlier j k s t h = let i = t.inside in s.halts (omega arith) (t.before j h)

at_closing : (m d : ℕ) (ws : List ℕ) (k : ℕ) → ClosedAt m d ws k → k < length ws → Stop m d ws k
at_closing m d ws k c h = record { before = c.before; inside = omega arith; halts = λ _ r. r.1 c.closing }

-- the number and place of the refusal where reading stops at word k of n, which earns this fault
abbrev number : ℕ → ℕ → ℕ → ℕ
number k n fault = cond (ltb k n) (cond (eqb fault 0) (cond (ltb (k + 1) n) 5 6) fault) 4

abbrev spot : ℕ → ℕ → ℕ → ℕ
spot k n fault = cond (ltb k n) (cond (eqb fault 0) (cond (ltb (k + 1) n) (k + 1) k) k) k

abbrev Stopped : ℕ → ℕ → List ℕ → ℕ → ℕ → Type 0
Stopped m d ws x p = (k : ℕ) × Stop m d ws k × (x ≡ number k (length ws) (fault_at m d ws k)) × (p ≡ spot k (length ws) (fault_at m d ws k))

-- the tests behind the two
faulty_number : (k n x f : ℕ) → k < n → x ≡ f → (x ≡ 0 → ⊥) → (x ≡ number k n f) × (k ≡ spot k n f)
faulty_number k n x f h e z = (grind (arith, nat_tests), grind (arith, nat_tests))

unclosed_number : (k n f : ℕ) → k ≡ n → (4 ≡ number k n f) × (k ≡ spot k n f)
unclosed_number k n f e = (grind (arith, nat_tests), grind (arith, nat_tests))

trailed_number : (k n f : ℕ) → k + 1 < n → f ≡ 0 → (5 ≡ number k n f) × (k + 1 ≡ spot k n f)
trailed_number k n f h z = (grind (arith, nat_tests), grind (arith, nat_tests))

unchecked_number : (k n f : ℕ) → k + 1 ≡ n → f ≡ 0 → (6 ≡ number k n f) × (k ≡ spot k n f)
unchecked_number k n f h z = (grind (arith, nat_tests), grind (arith, nat_tests))

module _ (m d : ℕ) (bs : List ℕ) where
  stopped : (x p : ℕ) → Refused m d bs x p → Whole bs → Stopped m d (words_of bs) x p
  stopped x p (torn n e q) w = absurd (n w)
  stopped x p (faulty w b h e z) _ =
      let v = faulty_number p (length (words_of bs)) x (fault_at m d (words_of bs) p) h e z in
      (p, record { before = b; inside = omega arith; halts = λ _ r. z (e ∙ r.0) }, v.0, v.1)
  stopped x p (unclosed w b e q) _ =
      let v = unclosed_number p (length (words_of bs)) (fault_at m d (words_of bs) p) q in
      (p, record { before = b; inside = omega arith; halts = λ h _. omega arith }, e ∙ v.0, v.1)
  stopped x p (trailed w k c e q h) _ =
      let v = trailed_number k (length (words_of bs)) (fault_at m d (words_of bs) k) (omega arith) c.right in
      (k, at_closing m d (words_of bs) k c (omega arith), e ∙ v.0, q ∙ v.1)
  stopped x p (unchecked w c h n e) _ =
      let v = unchecked_number p (length (words_of bs)) (fault_at m d (words_of bs) p) h c.right in
      (p, at_closing m d (words_of bs) p c (omega arith), e ∙ v.0, v.1)

  whole_or_torn : (x p : ℕ) → Refused m d bs x p → Whole bs ⊎ ((Whole bs → ⊥) × (x ≡ 1) × (p ≡ length bs))
  whole_or_torn x p (torn n e q) = inr (n, e, q)
  whole_or_torn x p (faulty w b h e z) = inl w
  whole_or_torn x p (unclosed w b e q) = inl w
  whole_or_torn x p (trailed w k c e q h) = inl w
  whole_or_torn x p (unchecked w c h n e) = inl w

  once : (x p y q : ℕ) → Stopped m d (words_of bs) x p → Stopped m d (words_of bs) y q → (x ≡ y) × (p ≡ q)
  once x p y q s t =
      let n = length (words_of bs) in
      let e = stop_once m d (words_of bs) s.0 t.0 s.1 t.1 in
      (s.2 ∙ ap (λ k. number k n (fault_at m d (words_of bs) k)) e ∙ sym t.2, s.3 ∙ ap (λ k. spot k n (fault_at m d (words_of bs) k)) e ∙ sym t.3)

  single : (x p y q : ℕ) → Refused m d bs x p → Refused m d bs y q → (x ≡ y) × (p ≡ q)
  single x p y q r s =
      ⊎_elim (λ w. once x p y q (stopped x p r w) (stopped y q s w))
      (λ a. ⊎_elim (λ w. absurd (a.0 w)) (λ b. (a.1 ∙ sym b.1, a.2 ∙ sym b.2)) (whole_or_torn y q s))
      (whole_or_torn x p r)

  apart : (x p : ℕ) → Opens m d bs → Refused m d bs x p → ⊥
  apart x p o (torn n e q) = n o.whole
  apart x p o (faulty w b h e z) =
      let k = stop_once m d (words_of bs) o.last p (at_closing m d (words_of bs) o.last o.closed (omega (arith, o.ends))) (record { before = b; inside = omega arith; halts = λ _ r. z (e ∙ r.0) }) in
      z (e ∙ sym (ap (fault_at m d (words_of bs)) k) ∙ o.closed.right)
  apart x p o (unclosed w b e q) = (b o.last (omega (arith, o.ends))).1 o.closed.closing
  apart x p o (trailed w k c e q h) =
      let l = stop_once m d (words_of bs) o.last k (at_closing m d (words_of bs) o.last o.closed (omega (arith, o.ends))) (at_closing m d (words_of bs) k c (omega arith)) in
      omega (arith, o.ends)
  apart x p o (unchecked w c h n e) =
      let l = stop_once m d (words_of bs) o.last p (at_closing m d (words_of bs) o.last o.closed (omega (arith, o.ends))) (at_closing m d (words_of bs) p c (omega arith)) in
      n (subst (Checked (words_of bs)) l o.checked)

  pub decided : Decided m d bs
  decided = record { apart = apart; single = single; spelled = λ o. (fileable m d bs o, spelled m d bs o); opens = λ c w f s. spelled_opens m d bs c f s w }
