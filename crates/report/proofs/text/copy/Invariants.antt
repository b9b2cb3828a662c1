use Rattle.std.proofs.Common.{◌≡◌, ℕ, ◌<◌, length, get_or}
use Rattle.report.proofs.text.copy.Given as goal

-- the bytes so far are copied
abbrev pub invariant-loop-at : goal.invariant-loop-at
invariant-loop-at l =
    record {
      len : length l.to ≡ length l.from;
      same : (k : ℕ) → k < l.at → get_or l.to k 0 ≡ get_or l.from k 0;
    }
