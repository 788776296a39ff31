use Rattle.std.proofs.Common.{sym, ◌∙◌}
use Rattle.audit_machine.proofs.ComeLaws.{brought, not_brought}
use Rattle.audit_machine.proofs.coming.bring.Goals as goal

pub eld_commit-made-requires-clause-can_end : goal.eld_commit-made-requires-clause-can_end
eld_commit-made-requires-clause-can_end c = λ coming allowed. c.requires.can_bring

pub returns-then-same_end-clause-takes : goal.returns-then-same_end-clause-takes
returns-then-same_end-clause-takes c =
    brought _ _ c.args.entry.now _ c.args.frame _ c.requires.done c.eld_commit-made.ensures.step c.eld_commit-made.ensures.back
    (sym c.same_end.ensures ∙ c.if-same_end.true)

pub returns-clause-takes : goal.returns-clause-takes
returns-clause-takes c =
    not_brought _ _ c.args.entry.now _ c.args.frame _ c.requires.done c.eld_commit-made.ensures.step c.eld_commit-made.ensures.back _
    (sym c.same_end.ensures ∙ c.if-same_end.false) c.first_broken.ensures
