use Rattle.std.proofs.Common.{◌≡◌, ◌+◌, ◌++◌, take}
use Rattle.arrayvec.specs.ArrayString.{array_string_len}
use Rattle.report.proofs.text.append.Given as goal

-- the bytes so far are appended
abbrev pub invariant-loop-byte : goal.invariant-loop-byte
invariant-loop-byte g l =
    record {
      bytes : l.text.bytes ≡ l.initial.text.bytes ++ take l.byte-index l.byte-items;
      len : array_string_len l.text ≡ array_string_len l.initial.text + l.byte-index;
    }
