use Rattle.std.proofs.Common.{◌≡◌, map, take}
use Rattle.std.specs.List.{All}
use Rattle.plan.specs.Records.{Between, recorded}
use Rattle.plan.proofs.Draft.append.Given as goal

-- the records written so far are those of the first waits
abbrev pub invariant-loop-i : goal.invariant-loop-i
invariant-loop-i g l = record {
  waits : map recorded (take l.i l.records) ≡ take l.i (g.N.Network.graph l.net).waits;
  between : All (Between (g.N.Network.graph l.net).events) (take l.i l.records);
}
