-- A group with a total order that sums keep: all that the theory of periods needs of amounts.
use Rattle.std.specs.Prelude.{◌≡◌, ℕ, zero, suc, Bool, T, ◌⊎◌, refl}
use Rattle.std.proofs.Math.IntN.{+ℤ_assoc, +ℤ_comm, +ℤ_idr, +ℤ_invr}
use Rattle.amount.specs.Rows.{Row, zero_row, add_row, neg_row, OrderLaws}

-- sums, opposites and an order, with the laws that they obey
pub record Ordered (A : Type 0) : Type 0 where
  pub nil : A
  pub add : A → A → A
  pub neg : A → A
  pub leq : A → A → Bool
  pub assoc : (a b c : A) → add (add a b) c ≡ add a (add b c)
  pub comm : (a b : A) → add a b ≡ add b a
  pub unit : (a : A) → add a nil ≡ a
  pub inv : (a : A) → add a (neg a) ≡ nil
  pub total : (a b : A) → T (leq a b) ⊎ T (leq b a)
  pub anti : (a b : A) → T (leq a b) → T (leq b a) → a ≡ b
  pub trans : (a b c : A) → T (leq a b) → T (leq b c) → T (leq a c)
  pub mono : (a b c : A) → T (leq a b) → T (leq (add a c) (add b c))

-- x added to nothing k times
unfoldable pub times : {A : Type 0} → Ordered A → ℕ → A → A
times G zero x = G.nil
times G (suc k) x = G.add x (times G k x)

pub add_assoc : (d : ℕ) (a b c : Row d) → add_row d (add_row d a b) c ≡ add_row d a (add_row d b c)
add_assoc zero a b c = refl
add_assoc (suc d) a b c = λ i. (+ℤ_assoc a.0 b.0 c.0 i, add_assoc d a.1 b.1 c.1 i)

pub add_comm : (d : ℕ) (a b : Row d) → add_row d a b ≡ add_row d b a
add_comm zero a b = refl
add_comm (suc d) a b = λ i. (+ℤ_comm a.0 b.0 i, add_comm d a.1 b.1 i)

pub add_zero : (d : ℕ) (a : Row d) → add_row d a (zero_row d) ≡ a
add_zero zero a = refl
add_zero (suc d) a = λ i. (+ℤ_idr a.0 i, add_zero d a.1 i)

pub add_neg : (d : ℕ) (a : Row d) → add_row d a (neg_row d a) ≡ zero_row d
add_neg zero a = refl
add_neg (suc d) a = λ i. (+ℤ_invr a.0 i, add_neg d a.1 i)

-- rows of d places, added place by place, under an order that obeys the laws
abbrev pub row_group : {d : ℕ} {le : Row d → Row d → Bool} → OrderLaws d le → Ordered (Row d)
row_group {d} {le} o = record {
  nil = zero_row d;
  add = add_row d;
  neg = neg_row d;
  leq = le;
  assoc = add_assoc d;
  comm = add_comm d;
  unit = add_zero d;
  inv = add_neg d;
  total = o.total;
  anti = o.same;
  trans = o.trans;
  mono = o.shift;
}
