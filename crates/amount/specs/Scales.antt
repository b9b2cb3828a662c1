-- What a measure means: the row that each amount stands for, and the order of rows; and what its operators owe.
use Rattle.std.specs.Prelude.{◌≡◌, ℕ, zero, suc, ◌≤◌, Bool, refl}
use Rattle.std.specs.declared.cmp.Ordering.{Ordering}
use Rattle.std.specs.Ordering.{is_le}
use Rattle.amount.specs.Rows.{Row, add_row, neg_row, times_row, Within, OrderLaws}
use Rattle.amount.specs.Lawful.{turned}

-- a measure of the amounts X: each stands for a row of so many places, and an order that obeys the four laws compares the rows
pub record Scale (X : Type 0) : Type 0 where
  pub places : ℕ
  pub some : 1 ≤ places
  pub few : places ≤ 4
  pub row : X → Row places
  pub at_most : Row places → Row places → Bool
  pub order : OrderLaws places at_most

-- amounts that stand for the same rows as those of another measure, in opposite order
abbrev pub reversed : {X Y : Type 0} → Scale X → (Y → X) → Scale Y
reversed m of = record { places = m.places; some = m.some; few = m.few; row = λ y. m.row (of y); at_most = λ r s. m.at_most s r; order = turned m.order }

-- the row that two amounts add up to
abbrev pub sum_of : {X : Type 0} (m : Scale X) → X → X → Row m.places
sum_of m a b = add_row m.places (m.row a) (m.row b)

-- the row of their difference: the second's opposite added to the first
abbrev pub gap_of : {X : Type 0} (m : Scale X) → X → X → Row m.places
gap_of m a b = add_row m.places (m.row a) (neg_row m.places (m.row b))

-- the row of an amount's opposite
abbrev pub opposite_of : {X : Type 0} (m : Scale X) → X → Row m.places
opposite_of m a = neg_row m.places (m.row a)

-- the row of an amount taken k times
abbrev pub many_of : {X : Type 0} (m : Scale X) → X → ℕ → Row m.places
many_of m a k = times_row m.places k (m.row a)

-- how far from zero a result is exact
abbrev pub exact : ℕ
exact = 1000000000000

-- a row is exact where each of its places lies that near to zero
abbrev pub IsExact : {X : Type 0} (m : Scale X) → Row m.places → Type 0
IsExact m r = Within m.places exact r

-- when amounts may be added, subtracted, turned to their opposite, and taken k times
abbrev pub CanAdd : {X : Type 0} → Scale X → X → X → Type 0
CanAdd m a b = IsExact m (sum_of m a b)

abbrev pub CanSub : {X : Type 0} → Scale X → X → X → Type 0
CanSub m a b = IsExact m (gap_of m a b)

abbrev pub CanNeg : {X : Type 0} → Scale X → X → Type 0
CanNeg m a = IsExact m (opposite_of m a)

abbrev pub CanMul : {X : Type 0} → Scale X → X → ℕ → Type 0
CanMul m a k = (k ≤ 1000) × IsExact m (many_of m a k)

-- two rows agree at every place
abbrev pub Agree : (d : ℕ) → Row d → Row d → Type 0
Agree zero r s = Unit {0}
Agree (suc d) r s = (r.0 ≡ s.0) × Agree d r.1 s.1

-- what these give: an amount that stands for the row, place by place
abbrev pub AddGives : {X : Type 0} → Scale X → X → X → X → Type 0
AddGives m a b r = Agree m.places (m.row r) (sum_of m a b)

abbrev pub SubGives : {X : Type 0} → Scale X → X → X → X → Type 0
SubGives m a b r = Agree m.places (m.row r) (gap_of m a b)

abbrev pub NegGives : {X : Type 0} → Scale X → X → X → Type 0
NegGives m a r = Agree m.places (m.row r) (opposite_of m a)

abbrev pub MulGives : {X : Type 0} → Scale X → X → ℕ → X → Type 0
MulGives m a k r = Agree m.places (m.row r) (many_of m a k)

-- what an operator of two operands owes: it may be used wherever it can be, and its result stands for the row that it means
pub record Operates {X Y : Type 0} (m : Scale X) (Can : X → Y → Type 0) (means : X → Y → Row m.places) (allows : X → Y → Type 0) (answers : X → Y → X → Type 0) : Type 0 where
  pub can : (a : X) (b : Y) → Can a b → allows a b
  pub gives : (a : X) (b : Y) (r : X) → answers a b r → m.row r ≡ means a b

-- `+`, `-` between amounts, `*` and `-` before an amount are exact
abbrev pub Adds : {X : Type 0} → Scale X → (X → X → Type 0) → (X → X → X → Type 0) → Type 0
Adds m = Operates m (CanAdd m) (sum_of m)

abbrev pub Subtracts : {X : Type 0} → Scale X → (X → X → Type 0) → (X → X → X → Type 0) → Type 0
Subtracts m = Operates m (CanSub m) (gap_of m)

abbrev pub Multiplies : {X : Type 0} → Scale X → (X → ℕ → Type 0) → (X → ℕ → X → Type 0) → Type 0
Multiplies m = Operates m (CanMul m) (many_of m)

pub record Opposes {X : Type 0} (m : Scale X) (allows : X → Type 0) (answers : X → X → Type 0) : Type 0 where
  pub can : (a : X) → CanNeg m a → allows a
  pub gives : (a : X) (r : X) → answers a r → m.row r ≡ opposite_of m a

-- the comparison is that of the rows
abbrev pub Compares : {X : Type 0} → Scale X → (X → X → Ordering) → Type 0
Compares {X} m cmp = (a b : X) → is_le (cmp a b) ≡ m.at_most (m.row a) (m.row b)

-- rows that agree at every place are the same row
pub agree_same : (d : ℕ) (r s : Row d) → Agree d r s → r ≡ s
agree_same zero r s h = refl
agree_same (suc d) r s h = let p = agree_same d r.1 s.1 h.1 in λ i. (h.0 i, p i)

-- operators that say just this of themselves owe nothing more
module _ {X : Type 0} (m : Scale X) where
  pub adds_so : Adds m (CanAdd m) (AddGives m)
  adds_so = record { can = λ a b h. h; gives = λ a b r h. agree_same m.places _ _ h }

  pub subtracts_so : Subtracts m (CanSub m) (SubGives m)
  subtracts_so = record { can = λ a b h. h; gives = λ a b r h. agree_same m.places _ _ h }

  pub multiplies_so : Multiplies m (CanMul m) (MulGives m)
  multiplies_so = record { can = λ a b h. h; gives = λ a b r h. agree_same m.places _ _ h }

  pub opposes_so : Opposes m (CanNeg m) (NegGives m)
  opposes_so = record { can = λ a h. h; gives = λ a r h. agree_same m.places _ _ h }
