-- The waits that the accepted calls left.
use Rattle.std.specs.Prelude.{ℕ, cond, List, [], ◌∷◌, ◌++◌}
use Rattle.std.specs.List.{remove}
use Rattle.network.specs.Networks.{PlainWait}
use Rattle.plan.specs.Rules.{added, retimed}
use Rattle.plan.specs.Taking.{waits_in}
use Rattle.plan.specs.Calls.{PlainCall, put, retime, drop_wait, take_in, fix, reopen, solve, Answer, accepts}

-- those of the calls that were accepted
abbrev pub accepted : {X : Type 0} → List PlainCall → List (Answer X) → List PlainCall
accepted [] answers = []
accepted (c ∷ calls) [] = []
accepted (c ∷ calls) (a ∷ answers) = cond (accepts a) (c ∷ accepted calls answers) (accepted calls answers)

-- what an accepted call makes of the list, in a measure of d places
abbrev pub edited : ℕ → List PlainWait → PlainCall → List PlainWait
edited d ws (put w) = added ws w
edited d ws (retime i a) = retimed ws i a
edited d ws (drop_wait i) = remove ws i
edited d ws (take_in number bytes) = ws ++ waits_in d bytes
edited d ws fix = ws
edited d ws reopen = ws
edited d ws solve = ws

abbrev pub left_from : ℕ → List PlainWait → List PlainCall → List PlainWait
left_from d ws [] = ws
left_from d ws (c ∷ calls) = left_from d (edited d ws c) calls

-- the waits that these calls and answers left of a plan that was opened without any
abbrev pub left : {X : Type 0} → ℕ → List PlainCall → List (Answer X) → List PlainWait
left d calls answers = left_from d [] (accepted calls answers)
