use Rattle.std.proofs.Common.{◌≡◌, ◌+◌, ◌*◌, ◌≤◌, ◌++◌, take}
use Rattle.arrayvec.specs.ArrayString.{array_string_len}
use Rattle.report.specs.Reports.{rows_of, leaves_lines}
use Rattle.report.proofs.page.push_departure_lines.Given as goal

-- the departures so far are written, each in at most 53 bytes
abbrev pub invariant-loop-event : goal.invariant-loop-event
invariant-loop-event g l =
    record {
      bytes : l.page.bytes ≡ l.initial.page.bytes ++ leaves_lines 0 (rows_of g.X.Scaled.scale (take l.event l.departures));
      short : array_string_len l.page ≤ array_string_len l.initial.page + 53 * l.event;
    }
