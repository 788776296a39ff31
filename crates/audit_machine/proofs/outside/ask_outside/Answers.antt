use Rattle.std.proofs.Common.{subst, sym, ◌∙◌}
use Rattle.sgx_machine.specs.inner.Parts.{state_of}
use Rattle.audit_machine.specs.inner.Asked.{Breaks, Takes}
use Rattle.audit_machine.proofs.OutsideLaws.{done_breaks, refused_takes}
use Rattle.audit_machine.proofs.outside.ask_outside.Goals as goal

pub returns-in-Some : goal.returns-in-Some
returns-in-Some c =
    subst (Takes (state_of c.args.machine.now) c.args.entry.now (state_of c.args.machine.now)) (sym c.rule_of_refused.ensures)
    (refused_takes (state_of c.args.machine.now) c.note_outsiders.ensures.inside c.args.entry.now c.args.action.now c.requires.own
    c.requires.of_cpus c.requires.nobody c.in-Some.found (sym c.refusal_outside.ensures ∙ c.in-Some.is)
    (λ k past records h. c.note_outsiders.ensures.refused k past records c.args.entry.now.actor c.args.action.now c.in-Some.found
    c.requires.of_cpus c.requires.nobody (sym c.refusal_outside.ensures ∙ c.in-Some.is) h))

pub returns-in-None : goal.returns-in-None
returns-in-None c =
    subst (Breaks (state_of c.args.machine.now) c.args.entry.now) (sym c.rule_of_done.ensures)
    (done_breaks (state_of c.args.machine.now) c.note_outsiders.ensures.inside c.args.entry.now c.args.action.now c.requires.own
    c.requires.of_cpus c.requires.nobody (sym c.refusal_outside.ensures ∙ c.in-None.is))
