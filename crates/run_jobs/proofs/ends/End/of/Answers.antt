use Rattle.std.proofs.Common.{◌∙◌, sym}
use Rattle.run_jobs.proofs.ends.End.of.Goals as goal

pub returns-then-spent : goal.returns-then-spent
returns-then-spent c = λ past s l. sym s ∙ c.if-spent.true

pub returns-then-lost : goal.returns-then-lost
returns-then-lost c = λ past s l. (sym s ∙ c.if-spent.false, sym l ∙ c.if-lost.true)

pub returns-else-lost : goal.returns-else-lost
returns-else-lost c = λ past s l. (sym s ∙ c.if-spent.false, sym l ∙ c.if-lost.false)
