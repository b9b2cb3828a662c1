use Rattle.std.proofs.Common.{◌≡◌, ◌+◌, ◌*◌, ◌≤◌, ◌++◌, take, IsAscii}
use Rattle.std.specs.List.{flat_map}
use Rattle.arrayvec.specs.ArrayString.{array_string_len}
use Rattle.report.specs.Lines.{next_place}
use Rattle.report.proofs.text.row_text.Given as goal

-- the places so far are written, each in at most 21 bytes with its comma
abbrev pub invariant-loop-place : goal.invariant-loop-place
invariant-loop-place l =
    record {
      bytes : l.text.bytes ≡ l.initial.text.bytes ++ flat_map next_place (take l.place-index l.rest);
      ascii : IsAscii l.text.bytes;
      short : array_string_len l.text ≤ 20 + 21 * l.place-index;
    }
