-- How the reader's state goes with the roles of the words.
use Rattle.std.proofs.Common.{◌≡◌, ℕ, zero, suc, ◌+◌, ◌-◌, ◌*◌, ◌%◌, ◌<◌, ◌≤◌, Bool, true, false, cond, eqb, List, length, IfSome, Some, sym, refl, ap, ◌∙◌, subst, subst₂, inl, inr, mul-le-mul_right, suc-mul, arith, eq-eqb, ne_eqb, below_more}
use Rattle.std.specs.Option.{is_some}
use Rattle.std.proofs.lemmas.Nat.{div-mul-add, mod-mul-add}
use Rattle.std.proofs.lemmas.Bool.{eqb-true}
use Rattle.file.specs.Words.{kind_bits, lower, word_no}
use Rattle.file.specs.Layout.{heading, item, place, in_item, role_at, base, is_claim, after_claim, stated_events, fault_of, fault_in, fault_at, Right, RightTo, ClosedAt}
use Rattle.file.specs.Faults.{told}
use Rattle.file.specs.Reading.{claims, role_of, Going, GoesFrom, Goes, OfItem, StandsIn, Stands, Outlined}
use Rattle.file.specs.declared.fault.FileFault.{FileFault}
use Rattle.file.specs.declared.fault.FileFault.TheVariants.{Torn, Stray, Smudged, Unclosed, Trailed, OffCheck, ForeignMeasure, UnknownEvent, OutOfSpan, Full, BadCount}
use Rattle.file.specs.declared.reader.Item.{Item}
use Rattle.file.specs.declared.reader.Item.TheVariants.{Wait, Claim}
use Rattle.file.specs.declared.reader.Reader.{Reader}
use Rattle.file.specs.declared.reader.State.{State}
use Rattle.file.specs.declared.reader.State.TheVariants.{Start, Items, Row, Claimed, Closed}
use Rattle.file.specs.declared.reader.Word.{Word}

-- the word that stands p words after the beginning of item j
pub role_in_item : (d : ℕ) (ws : List ℕ) (j p k : ℕ) → p < 1 + d → k ≡ base d j + p → role_at d ws k ≡ in_item d ws j p
role_in_item d ws j p k h e =
    ap (role_at d ws) (let s : k ≡ suc (j * (1 + d) + p) = omega arith in s)
    ∙ ap (λ q. in_item d ws q ((j * (1 + d) + p) % (1 + d))) (div-mul-add j (1 + d) p h)
    ∙ ap (in_item d ws j) (mod-mul-add j (1 + d) p h)

pub next_base : (d j : ℕ) → base d (suc j) ≡ base d j + (1 + d)
next_base d j = omega (arith, suc-mul j (1 + d))

-- an item ends before a later one begins
pub item_before : (d j i : ℕ) → j < i → base d j + (1 + d) ≤ base d i
item_before d j i h = omega (arith, suc-mul j (1 + d), mul-le-mul_right (1 + d) h)

-- a place of item i, n words before the next item
place_role : (d : ℕ) (ws : List ℕ) (i n k : ℕ) → k + n ≡ base d (suc i) → 0 < n → n ≤ d → role_at d ws k ≡ place (is_claim d ws i)
place_role d ws i n k e p l =
    let q = next_base d i in
    role_in_item d ws i (suc (d - n)) k (omega arith) (omega arith)

-- where the reader stands, the next word has the role that its state expects
role_stands : (ws : List ℕ) (k : ℕ) (t : State) (r : Reader) → StandsIn t ws k r → role_at r.places ws k ≡ role_of t r.waits
role_stands ws k Start r h = ap (role_at r.places ws) h.0
role_stands ws k Items r h = role_in_item r.places ws r.waits 0 k (omega arith) (omega (arith, h.0)) ∙ ap (item r.waits) h.1
role_stands ws k (Row i n) r h = place_role r.places ws h.0 n k h.2 h.3 h.4 ∙ ap place h.5
role_stands ws k Claimed r h = role_in_item r.places ws (suc r.waits) 0 k (omega arith) (omega (arith, h.0)) ∙ ap (item (suc r.waits)) h.1
role_stands ws k Closed r h = absurd h

-- no event count bears on the heading
heading_alike : (m n e k w : ℕ) → fault_of m n heading k w ≡ fault_of m e heading k w
heading_alike m n e k w = go (eqb k 1) refl
  where
    go : (b : Bool) → eqb k 1 ≡ b → fault_of m n heading k w ≡ fault_of m e heading k w
    go true q = let z = eqb-true k 1 q in rw (z)
    go false q = rw (q)

-- what the reader finds of a word is what the layout says of it
pub fault_found : (ws : List ℕ) (k : ℕ) (r : Reader) (w : ℕ) → Stands ws k r → w ≡ word_no ws k → fault_at r.measure r.places ws k ≡ fault_in r.measure r.events (role_of r.state r.waits) w
fault_found ws k r w h v =
    ap (λ x. fault_in r.measure (stated_events ws) x (word_no ws k)) (role_stands ws k r.state r h)
    ∙ ap (fault_in r.measure (stated_events ws) (role_of r.state r.waits)) (sym v)
    ∙ counted r.state h
  where
    counted : (t : State) → StandsIn t ws k r → fault_in r.measure (stated_events ws) (role_of t r.waits) w ≡ fault_in r.measure r.events (role_of t r.waits) w
    counted Start h = heading_alike r.measure (stated_events ws) r.events (kind_bits w) w
    counted Items h = ap (λ n. fault_in r.measure n (item r.waits false) w) (sym h.2)
    counted (Row i n) h = ap (λ n. fault_in r.measure n (place (claims i)) w) (sym h.6)
    counted Claimed h = ap (λ n. fault_in r.measure n (item (suc r.waits) true) w) (sym h.2)
    counted Closed h = absurd h

-- item j by the kind of its first word
no_claim : (d : ℕ) (ws : List ℕ) (j k w : ℕ) → k ≡ base d j → w ≡ word_no ws k → (kind_bits w ≡ 4 → ⊥) → is_claim d ws j ≡ false
no_claim d ws j k w p v n = ne_eqb (kind_bits (word_no ws (base d j))) 4 (λ z. n (ap kind_bits (v ∙ ap (word_no ws) p) ∙ z))

a_claim : (d : ℕ) (ws : List ℕ) (j k w : ℕ) → k ≡ base d j → w ≡ word_no ws k → kind_bits w ≡ 4 → is_claim d ws j ≡ true
a_claim d ws j k w p v e = eq-eqb (kind_bits (word_no ws (base d j))) 4 (sym (ap kind_bits (v ∙ ap (word_no ws) p)) ∙ e)

-- no word changes the measure
pub kept : (w : Word) (r s : Reader) → Goes w r s → (s.measure ≡ r.measure) × (s.places ≡ r.places)
kept w r s g = from r.state g
  where
    alike : (y : Reader) → s ≡ y → (s.measure ≡ y.measure) × (s.places ≡ y.places)
    alike y e = (ap (λ (z : Reader). z.measure) e, ap (λ (z : Reader). z.places) e)

    from : (t : State) → GoesFrom t w r s → (s.measure ≡ r.measure) × (s.places ≡ r.places)
    from Start g = alike _ g.1
    from Items g = elim g [
      | inl a ↦ alike _ a.1
      | inr b ↦ elim b [
        | inl a ↦ alike _ a.1
        | inr a ↦ alike _ a.1
      ]
    ]
    from (Row i n) g = alike _ g.2
    from Claimed g = alike _ g.1
    from Closed g = absurd g

-- the reader r has come to word k: every word before it is right, and none of them closes the file
pub record CameTo (ws : List ℕ) (k : ℕ) (r : Reader) : Type 0 where
  pub before : RightTo r.measure r.places ws k
  pub stands : Stands ws k r
  pub going : Going r.state

-- the state does not bear on whose row it is
same_item : (i : Item) (j : ℕ) (r : Reader) (t : State) → OfItem i j r → OfItem i j (record r { state = t })
same_item Wait j r t h = h
same_item Claim j r t h = h

-- the number of the items, without a claim and with one
plus_none : (j : ℕ) → j + 0 ≡ j
plus_none j = omega arith

plus_one : (j : ℕ) → j + 1 ≡ suc j
plus_one j = omega arith

-- word k, where reader r stands, leads on to reader s
module _ (ws : List ℕ) (k : ℕ) (w : Word) (r s : Reader) (at : w.at ≡ k) (bits : w.bits ≡ word_no ws k) where
  stood_on : (t : State) → 0 < r.places → StandsIn t ws k r → GoesFrom t w r s → Going s.state → Stands ws (k + 1) s × (kind_bits w.bits ≡ 5 → ⊥)
  stood_on Start p h g o =
      (subst (Stands ws (k + 1)) (sym g.1) (omega (arith, h.0, ap (base r.places) h.1), ap (after_claim r.places ws) h.1, ap lower (bits ∙ ap (word_no ws) h.0), h.2), λ q. omega (arith, g.0))
  stood_on Items p h g o =
      elim g [
        | inl a ↦
            (subst (Stands ws (k + 1)) (sym a.1) (r.waits, (omega arith, h.3), omega (arith, h.0, next_base r.places r.waits), p, omega arith, no_claim r.places ws r.waits k w.bits h.0 bits (λ q. omega (arith, a.0)), h.2), λ q. omega (arith, a.0))
        | inr b ↦ elim b [
          | inl a ↦
              (subst (Stands ws (k + 1)) (sym a.1) (r.waits, (refl, ap Some (at ∙ h.0)), omega (arith, h.0, next_base r.places r.waits), p, omega arith, a_claim r.places ws r.waits k w.bits h.0 bits a.0, h.2), λ q. omega (arith, a.0))
          | inr a ↦ absurd (subst (λ (y : Reader). Going y.state) a.1 o)
        ]
      ]
  stood_on (Row i zero) p h g o = absurd (let z : ⊥ = omega (arith, h.3) in z)
  stood_on (Row Wait (suc zero)) p h g o =
      (subst (Stands ws (k + 1)) (sym (g.2 ∙ ap (λ t. record r { state = t }) g.1)) (h.2 ∙ ap (base r.places) (sym h.1.0), ap (after_claim r.places ws) h.1.0 ∙ h.5, h.6, h.1.1), λ q. omega (arith, g.0))
  stood_on (Row Claim (suc zero)) p h g o =
      (subst (Stands ws (k + 1)) (sym (g.2 ∙ ap (λ t. record r { state = t }) g.1)) (h.2 ∙ ap (λ j. base r.places (suc j)) (sym h.1.0), ap (is_claim r.places ws) h.1.0 ∙ h.5, h.6, h.1.1 ∙ ap (λ j. Some (base r.places j)) (sym h.1.0)), λ q. omega (arith, g.0))
  stood_on (Row i (suc (suc n))) p h g o =
      (subst (Stands ws (k + 1)) (sym (g.2 ∙ ap (λ t. record r { state = t }) g.1)) (h.0, same_item i h.0 r (Row i (suc n)) h.1, omega (arith, h.2), omega arith, omega (arith, h.4), h.5, h.6), λ q. omega (arith, g.0))
  stood_on Claimed p h g o = absurd (subst (λ (y : Reader). Going y.state) g.1 o)
  stood_on Closed p h g o = absurd h

  -- one word on: where reader s stands, and that the word is not the closing word
  pub advance : 0 < r.places → Stands ws k r → Goes w r s → Going s.state → Stands ws (k + 1) s × (kind_bits w.bits ≡ 5 → ⊥)
  advance p h g o = stood_on r.state p h g o

-- no closed state has the closing word yet to come
never : {X : Type 0} (t : State) → Going t → Closed ≡ t → X
never t o e = absurd (subst Going (sym e) o)

-- the word that closes the file, and leads from reader r to reader s: where it stands, and what came before it
module _ (ws : List ℕ) (k : ℕ) (w : Word) (r s : Reader) where
  abbrev Found : Reader → Type 0
  Found y = (kind_bits w.bits ≡ 5) × (k ≡ base r.places (y.waits + cond (is_some y.claim) 1 0)) × (is_some y.claim ≡ after_claim r.places ws (y.waits + cond (is_some y.claim) 1 0)) × (y.events ≡ stated_events ws) × IfSome y.claim (λ i. i ≡ base r.places y.waits)

  found_from : (t : State) → StandsIn t ws k r → GoesFrom t w r s → s.state ≡ Closed → Found s
  found_from Start h g q = never Items tt (sym q ∙ ap (λ (y : Reader). y.state) g.1)
  found_from Items h g q =
      elim g [
        | inl a ↦ never (Row Wait r.places) tt (sym q ∙ ap (λ (y : Reader). y.state) a.1)
        | inr b ↦ elim b [
          | inl a ↦ never (Row Claim r.places) tt (sym q ∙ ap (λ (y : Reader). y.state) a.1)
          | inr a ↦
              subst Found (sym (a.1 ∙ ap (λ c. record r { state = Closed; claim = c }) h.3))
              (a.0, omega (arith, h.0, ap (base r.places) (plus_none r.waits)), sym h.1 ∙ ap (after_claim r.places ws) (sym (plus_none r.waits)), h.2, tt)
        ]
      ]
  found_from (Row i zero) h g q = absurd (let z : ⊥ = omega (arith, h.3) in z)
  found_from (Row Wait (suc zero)) h g q = never Items tt (sym q ∙ g.1)
  found_from (Row Claim (suc zero)) h g q = never Claimed tt (sym q ∙ g.1)
  found_from (Row i (suc (suc n))) h g q = never (Row i (suc n)) tt (sym q ∙ g.1)
  found_from Claimed h g q =
      subst Found (sym (g.1 ∙ ap (λ c. record r { state = Closed; claim = c }) h.3))
      (g.0, omega (arith, h.0, ap (base r.places) (plus_one r.waits)), sym h.1 ∙ ap (after_claim r.places ws) (sym (plus_one r.waits)), h.2, refl)
  found_from Closed h g q = absurd h

  pub finish : Stands ws k r → Goes w r s → s.state ≡ Closed → Found s
  finish h g q = found_from r.state h g q

-- a right word w leads on from reader r to reader s
module _ (ws : List ℕ) (k : ℕ) (w : Word) (r s : Reader) (x : CameTo ws k r) (at : w.at ≡ k) (bits : w.bits ≡ word_no ws k) (right : fault_in r.measure r.events (role_of r.state r.waits) w.bits ≡ 0) where
  -- past it, if it is not the closing word
  pub came_on : 0 < r.places → Goes w r s → Going s.state → CameTo ws (k + 1) s
  came_on p g o =
      let a = advance ws k w r s at bits p x.stands g o in
      let m = kept w r s g in
      record {
        before = subst₂ (λ m d. RightTo m d ws (k + 1)) (sym m.0) (sym m.1) (below_more (Right r.measure r.places ws) k x.before (fault_found ws k r w.bits x.stands bits ∙ right, λ z. a.1 (ap kind_bits bits ∙ z)));
        stands = a.0;
        going = o;
      }

  -- at the closing word, what the file holds if that is the last word
  pub closed : Goes w r s → s.state ≡ Closed → ClosedAt r.measure r.places ws k × (k + 1 ≡ length ws → Outlined r.places ws (record { events = s.events; waits = s.waits; claim = s.claim }))
  closed g q =
      let f = finish ws k w r s x.stands g q in (
        record { before = x.before; right = fault_found ws k r w.bits x.stands bits ∙ right; closing = sym (ap kind_bits bits) ∙ f.0 },
        λ n. record { counted = record { stated = f.3; items = sym n ∙ ap (λ i. i + 1) f.1; claims = f.2 }; claim_at = f.4 },
      )

pub going : (t : State) → (t ≡ Closed → ⊥) → Going t
going Start n = tt
going Items n = tt
going (Row i k) n = tt
going Claimed n = tt
going Closed n = n refl

-- no refusal has number 0
pub numbered : (f : FileFault) → (told f).number ≡ 0 → ⊥
numbered (Torn p) e = omega arith
numbered (Stray p) e = omega arith
numbered (Smudged p) e = omega arith
numbered (Unclosed p) e = omega arith
numbered (Trailed p) e = omega arith
numbered (OffCheck p) e = omega arith
numbered (ForeignMeasure p) e = omega arith
numbered (UnknownEvent p) e = omega arith
numbered (OutOfSpan p) e = omega arith
numbered (Full p) e = omega arith
numbered (BadCount p) e = omega arith
