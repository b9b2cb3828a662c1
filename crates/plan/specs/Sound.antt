-- The waits of a plan are those of a network. The proofs stand here because every fixed plan carries them.
use Rattle.std.specs.Prelude.{ℕ, zero, suc, ◌≤◌, List, take, slice_index_or}
use Rattle.std.specs.List.{All}
use Rattle.std.proofs.Common.{arith, length-take}
use Rattle.std.proofs.lemmas.List.{length-map}
use Rattle.std.proofs.lemmas.List.Elements.{All-map}
use Rattle.amount.specs.declared.measure.Scaled.{Ghosts}
use Rattle.amount.specs.declared.spanned.Spanned.{Spanned}
use Rattle.amount.specs.Rows.{Row, places, Within}
use Rattle.amount.specs.Spans.{span}
use Rattle.network.specs.declared.Wait.{Wait}
use Rattle.network.specs.Networks.{PlainWait, AllWithin, Owed, graph}
use Rattle.plan.specs.Records.{Between, recorded, meant}

-- a row within b has every place within it
within_all : (b d : ℕ) (r : Row d) → Within d b r → AllWithin b (places d r)
within_all b zero r h = tt
within_all b (suc d) r h = (h.0, h.1, within_all b d r.1 h.2)

-- the records of a list of waits mean a network's
pub records_owed : {X : Type 0} {G : Ghosts X} (n count : ℕ) (m : List (Wait (Spanned X G))) → n ≤ 1000 → count ≤ 20000 → All (Between n) (take count m) → Owed (graph n (meant count m))
records_owed {G = G} n count m few short known = record {
  few = few;
  short = simp length-map (omega (arith, length-take count m));
  sound = record { starts = λ e h. (between e _ h).0; ends = λ e h. (between e _ h).1; spans = λ e h. near e _ h };
}
  where
    between : All (Between n) (meant count m)
    between = All-map (Between n) recorded (take count m) known

    near : All (λ (w : PlainWait). AllWithin span w.amount) (meant count m)
    near = All-map (λ (w : PlainWait). AllWithin span w.amount) recorded (take count m) (λ k d h. within_all span G.scale.places _ (slice_index_or (take count m) k d).amount.near)
