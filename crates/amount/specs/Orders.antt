-- The orders of the three given measures.
use Rattle.std.specs.Prelude.{ℕ, zero, suc, Bool, true, false, cond, int_lt}
use Rattle.amount.specs.Rows.{Row}

-- the first place that differs decides, the smaller number first
abbrev pub lex_le : (d : ℕ) → Row d → Row d → Bool
lex_le zero r s = true
lex_le (suc d) r s = cond (int_lt r.0 s.0) true (cond (int_lt s.0 r.0) false (lex_le d r.1 s.1))

-- the same with the greater number first
abbrev pub reverse_le : (d : ℕ) → Row d → Row d → Bool
reverse_le d r s = lex_le d s r
