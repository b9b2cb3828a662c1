use Rattle.std.proofs.Common.{◌≡◌, ◌+◌, ◌*◌, ◌≤◌, ◌++◌, take}
use Rattle.std.specs.List.{flat_map}
use Rattle.arrayvec.specs.ArrayString.{array_string_len}
use Rattle.report.specs.Lines.{next_event, starts_of}
use Rattle.report.proofs.lines.push_loop_line.Given as goal

-- the events so far are written, each in at most 11 bytes
abbrev pub invariant-loop-wait : goal.invariant-loop-wait
invariant-loop-wait g l =
    record {
      bytes : l.page.bytes ≡ l.initial.page.bytes ++ flat_map next_event (starts_of (g.N.Network.graph l.net).waits (take l.wait-index l.waits));
      short : array_string_len l.page ≤ array_string_len l.initial.page + 11 * l.wait-index;
    }
