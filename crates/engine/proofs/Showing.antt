-- The period from the limiting turn, its loop and the departures.
use Rattle.std.proofs.Common.{ℕ, ◌<◌, Bool, List, sym, ◌∙◌}
use Rattle.amount.specs.declared.measure.Scaled.{Ghosts}
use Rattle.amount.specs.Rows.{Row, OrderLaws}
use Rattle.amount.specs.Scales.{Scale}
use Rattle.amount.specs.Groups.{row_group}
use Rattle.network.specs.Networks.{Sound}
use Rattle.network.specs.Walks.{net, Loop, NoClosed, Period}
use Rattle.network.proofs.Joined.{joined, count_waits}
use Rattle.engine.specs.declared.turn.Turn.{Turn}
use Rattle.engine.specs.Solved.{row_at, Entries}
use Rattle.engine.specs.Turns.{way, Turns}
use Rattle.engine.specs.Filled.{Tables, row_in, mark_in, Leaves}
use Rattle.engine.specs.Limits.{Limit, CanWalk, LoopOf}
use Rattle.engine.proofs.Entries.{Right}
use Rattle.engine.proofs.Back
use Rattle.engine.proofs.Turning
use Rattle.engine.proofs.Begun.{begun_size, begun_lowest, begun_loop, begun_total}
use Rattle.engine.proofs.Periods

-- a turn can be walked back
pub can_walk : {X : Type 0} {R : Ghosts X} {d : ℕ} {le : Row d → Row d → Bool} (order : OrderLaws d le) (t : Tables X) → Sound t.graph → (D : ℕ → ℕ → Row d) → Right (row_group order) (net d t.graph) D (mark_in t)
    → (v : ℕ) (r : Turn X R) (p : Row d) → Turns (row_group order) (net d t.graph) D (mark_in t) v r.end r.event r.count p → CanWalk d t r
can_walk {d = d} order t sound D right v r p turns =
    let G = row_group order in
    let N = net d t.graph in
    let ok = joined d t.graph sound in
    let here = Turning.turn_in G N ok D (mark_in t) right v _ _ _ _ turns in
    record {
      within = turns.within;
      here = here;
      some = turns.some;
      held = turns.held;
      told = Back.told G N ok D (mark_in t) right r.end r.event r.count turns.held turns.within here (Turning.turn_live G N ok D (mark_in t) right v _ _ _ _ turns);
    }

module _ {X : Type 0} (m : Scale X) (t : Tables X) (sound : Sound t.graph) (entries : Entries m t.graph t.rows t.marks) where
  -- where no walk of n waits ends at any event
  pub loopless : ((v : ℕ) → v < t.graph.events → ¬ (0 < mark_in t t.graph.events v)) → NoClosed (net m.places t.graph)
  loopless = Periods.none_closed (row_group m.order) (net m.places t.graph) (joined m.places t.graph sound) (row_in m t) (mark_in t) entries

  -- the limiting turn gives the period
  pub limit_period : {R : Ghosts X} (r : Turn X R) → Limit m t t.graph.events r → (es : List ℕ) → LoopOf m.places t r es
      → (leaves : List X) → ((v : ℕ) → v < t.graph.events → Leaves m t (m.row r.total) r.count v t.graph.events (row_at m leaves v))
      → Period (row_group m.order) (net m.places t.graph) (m.row r.total) r.count es (row_at m leaves)
  limit_period r l es begun leaves top =
      let G = row_group m.order in
      let N = net m.places t.graph in
      let ok = joined m.places t.graph sound in
      let D = row_in m t in
      let M = mark_in t in
      let loop : Loop N r.event (way N M r.end r.event r.count) = Turning.turn_loop G N ok D M entries l.v _ _ _ _ l.turns in
      Periods.solved G N ok D M entries (m.row r.total) r.count (row_at m leaves) l.most top es
      (begun_loop N ok M r.end r.event r.count es begun loop)
      (begun_lowest N ok M r.end r.event r.count es begun loop)
      (Turning.turn_total G N ok D M entries l.v _ _ _ _ l.turns ∙ sym (begun_total N ok M r.end r.event r.count es begun loop G))
      (sym (count_waits N es ∙ begun_size N ok M r.end r.event r.count es begun loop))
