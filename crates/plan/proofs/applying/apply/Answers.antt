use Rattle.std.proofs.Common.{rules}
use Rattle.plan.proofs.Laws.{law_kept}
use Rattle.plan.proofs.applying.apply.Goals as goal

pub returns-in-Editing-clause-law : goal.returns-in-Editing-clause-law
returns-in-Editing-clause-law g c = law_kept g.X.Scaled.scale _ _ _ _ _ _ (search rules)

pub returns-in-Settled-clause-law : goal.returns-in-Settled-clause-law
returns-in-Settled-clause-law g c = law_kept g.X.Scaled.scale _ _ _ _ _ _ (search rules)
