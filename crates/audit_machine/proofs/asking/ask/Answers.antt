use Rattle.std.proofs.Common.{sym, ◌∙◌}
use Rattle.audit_machine.proofs.AskLaws.{asked_alike, asked_apart, asked_step}
use Rattle.audit_machine.proofs.asking.ask.Goals as goal

pub returns-then-same_end-clause-takes : goal.returns-then-same_end-clause-takes
returns-then-same_end-clause-takes c =
    asked_alike _ _ _ c.args.action.now c.args.entry.now c.in_ok-made.made c.requires.own c.requires.asked c.in_ok-made.ensures.step
    c.in_ok-made.ensures.history (sym c.same_end.ensures ∙ c.if-same_end.true)

pub returns-then-same_end-clause-step : goal.returns-then-same_end-clause-step
returns-then-same_end-clause-step c =
    λ told. asked_step _ _ _ c.args.action.now c.args.entry.now c.in_ok-made.made c.requires.own c.requires.asked c.in_ok-made.ensures.step
    c.in_ok-made.ensures.history (sym c.same_end.ensures ∙ c.if-same_end.true)

pub returns-clause-takes : goal.returns-clause-takes
returns-clause-takes c =
    asked_apart _ _ _ c.args.action.now c.args.entry.now c.in_ok-made.made c.requires.own c.requires.asked c.in_ok-made.ensures.step
    c.in_ok-made.ensures.history _ (sym c.same_end.ensures ∙ c.if-same_end.false) c.first_broken.ensures
