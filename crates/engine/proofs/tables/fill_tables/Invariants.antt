use Rattle.std.proofs.Common.{◌≡◌, drop}
use Rattle.engine.specs.Solved.{EntriesTo, table_size}
use Rattle.engine.proofs.tables.fill_tables.Given as goal

abbrev pub invariant-loop-k : goal.invariant-loop-k
invariant-loop-k g l =
    let graph = g.N.Network.graph l.net in
    let size = table_size graph.events in
    EntriesTo g.X.Scaled.scale graph l.k l.rows l.marks × (drop size l.rows ≡ drop size l.initial.rows) × (drop size l.marks ≡ drop size l.initial.marks)
