use Rattle.std.proofs.Common.{sym, subst, Some}
use Rattle.history_rules.specs.inner.Histories.{is_machines}
use Rattle.history_machine.specs.Histories.{FailsAmong}
use Rattle.audit_machine.proofs.RivalLaws as laws
use Rattle.audit_machine.proofs.rivals.first_broken.Goals as goal

pub returns : goal.returns
returns c = λ j past rivals keeps.
    subst (FailsAmong is_machines j past (Some c.args.entry.now)) (sym c.rule_of.ensures)
    (laws.first_broken j past c.args.entry.now c.args.made.now rivals keeps)
