use Rattle.std.proofs.Common.{◌≡◌, ◌++◌, take}
use Rattle.job_print.specs.JobText.{plans_say, statements_text}
use Rattle.job_print.proofs.printer.push_plans.Given as goal

abbrev pub invariant-loop-plan : goal.invariant-loop-plan
invariant-loop-plan l = l.onto.items ≡ l.fn.onto.items ++ statements_text (plans_say (take l.plan-index l.plans))
