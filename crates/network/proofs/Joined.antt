-- Waits that join events of their graph, the lists of waits that have such, and what a walk counts for.
use Rattle.std.proofs.Common.{◌≡◌, ℕ, suc, ◌<◌, List, [], ◌∷◌, length, refl}
use Rattle.network.specs.Networks.{Graph, Sound}
use Rattle.network.specs.Walks.{Net, net, count}

-- every wait joins two of the events
pub record Joined {A : Type 0} (N : Net A) : Type 0 where
  pub starts : (e : ℕ) → e < N.waits → N.from e < N.events
  pub ends : (e : ℕ) → e < N.waits → N.to e < N.events

-- as those of a network do
pub joined : (d : ℕ) (g : Graph) → Sound g → Joined (net d g)
joined d g s = record { starts = s.starts; ends = s.ends }

module _ {A : Type 0} (N : Net A) where
  -- a walk of no waits counts for nothing
  pub count_none : count N [] ≡ 0
  unfolding count
  count_none = refl

  -- each wait counts for one
  pub count_more : (e : ℕ) (es : List ℕ) → count N (e ∷ es) ≡ suc (count N es)
  unfolding count
  count_more e es = refl

  -- so a walk counts for the number of its waits
  pub count_waits : (es : List ℕ) → count N es ≡ length es
  unfolding count
  count_waits es = refl
