-- A wait of a network has an amount in the span, so that it makes a record.
use Rattle.std.proofs.Common.{◌≡◌, ℕ, suc, true, List, [], ◌∷◌, ℤ, pos, neg_ℤ, None, Ok, Err, Result, refl, ◌∙◌, sym, subst, arith}
use lib.Signed.{le_z}
use Rattle.std.specs.Result.{IsOk}
use Rattle.std.proofs.lemmas.Int.{ints}
use Rattle.amount.specs.declared.measure.Scaled.{Ghosts}
use Rattle.amount.specs.declared.spanned.Spanned.{Spanned}
use Rattle.amount.specs.declared.spanned.OutOfSpan.{OutOfSpan}
use Rattle.amount.specs.Rows.{first_beyond}
use Rattle.amount.specs.Spans.{span, first_outside}
use Rattle.network.specs.declared.Wait.{Wait}
use Rattle.network.specs.Networks.{PlainWait, plain, AllWithin}
use Rattle.plan.specs.Records.{recorded, MakesRecord}

-- of numbers within b none is beyond
pub none_beyond : (b i : ℕ) (xs : List ℤ) → AllWithin b xs → first_beyond b i xs ≡ None
none_beyond b i [] h = refl
none_beyond b i (x ∷ xs) h =
    let low : true ≡ le_z (neg_ℤ (pos b)) x = omega (arith, ints) in
    let high : true ≡ le_z x (pos b) = omega (arith, ints) in
    rw (← low, ← high) (none_beyond b (suc i) xs h.2)

module _ {X : Type 0} {G : Ghosts X} (w : Wait X) (v : PlainWait) (is : plain G.scale w ≡ v) where
  -- a wait that means one in the span makes a record
  pub makes_record : (r : Result (Wait (Spanned X G)) OutOfSpan) → MakesRecord w r → AllWithin span v.amount → IsOk r
  makes_record (Ok s) h near = refl
  makes_record (Err e) h near = let n : first_outside G.scale w.amount ≡ None = none_beyond span 0 _ (subst (λ (u : PlainWait). AllWithin span u.amount) (sym is) near) in cc

  -- which means the same
  pub record_means : (r : Result (Wait (Spanned X G)) OutOfSpan) (s : Wait (Spanned X G)) → MakesRecord w r → r ≡ Ok s → recorded s ≡ v
  record_means r s h e = (rw e at h).0 ∙ is
