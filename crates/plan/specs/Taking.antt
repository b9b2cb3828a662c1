-- Taking in the waits of a supplier's file.
use Rattle.std.specs.Prelude.{◌≡◌, ℕ, ◌⊎◌, List, Err, Result}
use Rattle.network.specs.Networks.{PlainWait, graph}
use Rattle.file.specs.Words.{words_of}
use Rattle.file.specs.Contents.{contents}
use Rattle.file.specs.Opening.{Opens}
use Rattle.plan.specs.declared.fault.PlanFault.{PlanFault}
use Rattle.plan.specs.declared.fault.PlanFault.TheVariants.{NotTakenIn}
use Rattle.plan.specs.Plans.{Plan}
use Rattle.plan.specs.Rules.{Appends}

-- the event count and the waits that the bytes of a file spell, in a measure of d places
abbrev pub events_in : ℕ → List ℕ → ℕ
events_in d bytes = (contents d (words_of bytes)).events

abbrev pub waits_in : ℕ → List ℕ → List PlainWait
waits_in d bytes = (contents d (words_of bytes)).waits

-- the bytes open for measure m and their waits are added, all or none; or the bytes do not open
abbrev pub TakesIn : {S : Type 0} → ℕ → ℕ → Plan S → List ℕ → Result ℕ PlanFault → Plan S → Type 0
TakesIn m d p bytes r q = (Opens m d bytes × Appends p (graph (events_in d bytes) (waits_in d bytes)) r q) ⊎ ((Opens m d bytes → ⊥) × (r ≡ Err NotTakenIn) × (q ≡ p))
