use Rattle.std.proofs.Common.{◌≡◌, ℕ, List, ◌+◌, ◌-◌, ◌<◌, ◌≤◌, ap, ◌∙◌, ⊎_elim, arith, rules}
use Rattle.std.specs.List.{copy_within}
use Rattle.std.proofs.lemmas.Bool.{cases_lt}
use Rattle.std.proofs.lemmas.List.{same_lists, places}
use Rattle.plan.specs.Records.{Between, recorded}
use Rattle.plan.proofs.Lists.{meant_length, map_removed, all_removed, drop_edits, all_edited, edit_changes}
use Rattle.plan.proofs.Draft.drop_wait.Goals as goal

-- a move of the records old from place `from` on, where `from` is i and both moves leave the same, is the move of the records m from place i on
moves_as : {W : Type 0} {new : List W} (old m : List W) (from i end at : ℕ) → new ≡ copy_within old from end at → from ≡ i → copy_within old i end at ≡ copy_within m i end at → new ≡ copy_within m i end at
moves_as old m from i end at is begins same = is ∙ ap (λ k. copy_within old k end at) begins ∙ same

-- the move of the records that stand before it is compared, place by place, with that of the records found, and its start as a number
pub invariant_of-list-clause-known : goal.invariant_of-list-clause-known
invariant_of-list-clause-known g c =
    let list = c.args.self.now.list in
    let below : c.args.i < list.count = search rules in
    let moved = moves_as _ list.memory.now _ (c.args.i + 1) list.count c.args.i c.copy_within.ensures.after (omega (arith, below)) (same_lists _ _ (search (rules, places))
    (λ k d h. ⊎_elim (λ (l : k < c.args.i). grind (arith, places)) (λ (l : c.args.i ≤ k). grind (arith, places)) (cases_lt k c.args.i))) in
    all_edited (Between list.events) (drop_edits list.memory.now list.count c.args.i _ below list.fits moved) (all_removed (Between list.events) _ c.args.i list.known)

pub returns-clause-rule : goal.returns-clause-rule
returns-clause-rule g c =
    let list = c.args.self.now.list in
    let n = meant_length recorded list.count list.memory.now list.fits in
    let below : c.args.i < list.count = search rules in
    let moved = moves_as _ list.memory.now _ (c.args.i + 1) list.count c.args.i c.copy_within.ensures.after (omega (arith, below)) (same_lists _ _ (search (rules, places))
    (λ k d h. ⊎_elim (λ (l : k < c.args.i). grind (arith, places)) (λ (l : c.args.i ≤ k). grind (arith, places)) (cases_lt k c.args.i))) in
    (search rules, edit_changes recorded list.events list.count (list.count - 1) (drop_edits list.memory.now list.count c.args.i _ below list.fits moved) (map_removed recorded _ c.args.i))
