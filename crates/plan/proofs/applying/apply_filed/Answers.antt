use Rattle.std.proofs.Common.{rules}
use Rattle.plan.proofs.Laws.{law_kept}
use Rattle.plan.proofs.applying.apply_filed.Goals as goal

pub returns-in-Editing-clause-rule : goal.returns-in-Editing-clause-rule
returns-in-Editing-clause-rule g c = rw (c.in-Editing.is, c.in-TakeIn.is) (c.take_in-answer.ensures _)

pub returns-in-Editing-clause-law : goal.returns-in-Editing-clause-law
returns-in-Editing-clause-law g c = law_kept g.X.Scaled.scale _ _ _ _ _ _ (rw (c.in-Editing.is, c.in-TakeIn.is) (c.take_in-answer.ensures _))

pub returns-in-Settled-clause-law : goal.returns-in-Settled-clause-law
returns-in-Settled-clause-law g c = law_kept g.X.Scaled.scale _ _ _ _ _ _ (search rules)
