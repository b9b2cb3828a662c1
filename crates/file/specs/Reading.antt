-- How the reader goes through the words. These say what its parts promise one another; what opening means stands in Opening.
use Rattle.std.specs.Prelude.{◌≡◌, ℕ, zero, suc, ◌+◌, ◌<◌, ◌≤◌, Bool, true, false, cond, ◌⊎◌, List, length, IfSome, Some, None, Result, Ok, Err}
use Rattle.std.specs.Option.{is_some}
use Rattle.file.specs.Words.{kind_bits, lower}
use Rattle.file.specs.Layout.{Role, heading, item, place, base, is_claim, after_claim, stated_events}
use Rattle.file.specs.Faults.{told}
use Rattle.file.specs.declared.fault.FileFault.{FileFault}
use Rattle.file.specs.declared.reader.Item.{Item}
use Rattle.file.specs.declared.reader.Item.TheVariants.{Wait, Claim}
use Rattle.file.specs.declared.reader.Outline.{Outline}
use Rattle.file.specs.declared.reader.Reader.{Reader}
use Rattle.file.specs.declared.reader.State.{State}
use Rattle.file.specs.declared.reader.State.TheVariants.{Start, Items, Row, Claimed, Closed}
use Rattle.file.specs.declared.reader.Word.{Word}

-- what testing word k answers, which earns the fault of number x or none: a right answer, or that fault there
abbrev pub Tested : {A : Type 0} → ℕ → ℕ → (A → Type 0) → Result A FileFault → Type 0
Tested x k right (Ok a) = (x ≡ 0) × right a
Tested x k right (Err f) = ((told f).number ≡ x) × ((told f).place ≡ k)

-- whether an item is a claim
abbrev pub claims : Item → Bool
claims Wait = false
claims Claim = true

-- what comes after its row
abbrev pub done : Item → State
done Wait = Items
done Claim = Claimed

-- the role that a state expects of the next word, after so many waits
abbrev pub role_of : State → ℕ → Role
role_of Start j = heading
role_of Items j = item j false
role_of (Row i left) j = place (claims i)
role_of Claimed j = item (suc j) true
role_of Closed j = heading

-- the closing word is yet to come
abbrev pub Going : State → Type 0
Going Start = Unit {0}
Going Items = Unit {0}
Going (Row i n) = Unit {0}
Going Claimed = Unit {0}
Going Closed = ⊥

-- what comes after a place of an item, when so many were left with it: another place, or what comes after the row
abbrev pub AfterPlace : Item → ℕ → State → Type 0
AfterPlace i zero s = Unit {0}
AfterPlace i (suc zero) s = s ≡ done i
AfterPlace i (suc (suc n)) s = s ≡ Row i (suc n)

-- how a right word leads from reader r, in the state given, to reader s
abbrev pub GoesFrom : State → Word → Reader → Reader → Type 0
GoesFrom Start w r s = (kind_bits w.bits ≡ 1) × (s ≡ record r { state = Items; events = lower w.bits })
GoesFrom Items w r s =
    ((kind_bits w.bits ≡ 2) × (s ≡ record r { state = Row Wait r.places; waits = r.waits + 1 }))
    ⊎ (((kind_bits w.bits ≡ 4) × (s ≡ record r { state = Row Claim r.places; claim = Some w.at }))
    ⊎ ((kind_bits w.bits ≡ 5) × (s ≡ record r { state = Closed })))
GoesFrom (Row i n) w r s = (kind_bits w.bits ≡ 3) × AfterPlace i n s.state × (s ≡ record r { state = s.state })
GoesFrom Claimed w r s = (kind_bits w.bits ≡ 5) × (s ≡ record r { state = Closed })
GoesFrom Closed w r s = ⊥

abbrev pub Goes : Word → Reader → Reader → Type 0
Goes w r s = GoesFrom r.state w r s

-- the row that is read belongs to item j
abbrev pub OfItem : Item → ℕ → Reader → Type 0
OfItem Wait j r = (r.waits ≡ suc j) × (r.claim ≡ None)
OfItem Claim j r = (r.waits ≡ j) × (r.claim ≡ Some (base r.places j))

-- where the reader r stands before word k, in the state given
abbrev pub StandsIn : State → List ℕ → ℕ → Reader → Type 0
StandsIn Start ws k r = (k ≡ 0) × (r.waits ≡ 0) × (r.claim ≡ None)
StandsIn Items ws k r = (k ≡ base r.places r.waits) × (after_claim r.places ws r.waits ≡ false) × (r.events ≡ stated_events ws) × (r.claim ≡ None)
StandsIn (Row i n) ws k r = (j : ℕ) × OfItem i j r × (k + n ≡ base r.places (suc j)) × (0 < n) × (n ≤ r.places) × (is_claim r.places ws j ≡ claims i) × (r.events ≡ stated_events ws)
StandsIn Claimed ws k r = (k ≡ base r.places (suc r.waits)) × (is_claim r.places ws r.waits ≡ true) × (r.events ≡ stated_events ws) × (r.claim ≡ Some (base r.places r.waits))
StandsIn Closed ws k r = ⊥

abbrev pub Stands : List ℕ → ℕ → Reader → Type 0
Stands ws k r = StandsIn r.state ws k r

-- the words of a file are a heading, so many waits, a claim if there is one, and the closing word
pub record Counted (d : ℕ) (ws : List ℕ) (events waits : ℕ) (claimed : Bool) : Type 0 where
  pub stated : events ≡ stated_events ws
  pub items : length ws ≡ base d (waits + cond claimed 1 0) + 1
  pub claims : claimed ≡ after_claim d ws (waits + cond claimed 1 0)

-- what the reader found when it closed
pub record Outlined (d : ℕ) (ws : List ℕ) (o : Outline) : Type 0 where
  pub counted : Counted d ws o.events o.waits (is_some o.claim)
  pub claim_at : IfSome o.claim (λ k. k ≡ base d o.waits)
