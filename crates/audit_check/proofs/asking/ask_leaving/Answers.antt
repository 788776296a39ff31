use Rattle.audit_check.proofs.AskLaws.{breaks, gone}
use Rattle.audit_check.proofs.asking.ask_leaving.Goals as goal

pub returns-in-Broken-clause-answer : goal.returns-in-Broken-clause-answer
returns-in-Broken-clause-answer c =
    λ can. breaks c.args.machine.now _ c.args.entry.now can c.in-Broken.rule (rw c.in-Broken.is at c.in_ok-rule.ensures.takes)

pub returns-in_ok-keep-in-Gone-clause-answer : goal.returns-in_ok-keep-in-Gone-clause-answer
returns-in_ok-keep-in-Gone-clause-answer c =
    λ can. gone c.args.machine.now _ c.args.entry.now can c.args.frame c.requires.own c.in-Gone.work _
    (rw c.in-Gone.is at c.in_ok-rule.ensures.takes) _ c.in-Some.page c.in-Some.ensures c.in_ok-keep-in-Gone.ensures.kept
