use Rattle.std.proofs.Common.{sym, ◌∙◌, ap, subst}
use Rattle.sgx_machine.specs.inner.Parts.{state_of}
use Rattle.audit_check.specs.inner.Tests.{is_one_too_many, is_outsiders}
use Rattle.audit_check.proofs.AskLaws.{answered, answered_outside, can_apply, can_move, nobody, of_cpus, out_of}
use Rattle.audit_check.proofs.asking.ask_row.Goals as goal

pub ask_outside-requires-clause-of_cpus : goal.ask_outside-requires-clause-of_cpus
ask_outside-requires-clause-of_cpus c =
    of_cpus c.cpus.result c.args.entry.now.actor c.args.action.now (sym c.is_outsiders.ensures ∙ c.if-is_outsiders.true)

pub ask_outside-requires-clause-nobody : goal.ask_outside-requires-clause-nobody
ask_outside-requires-clause-nobody c =
    nobody _ c.args.entry.now.actor c.args.action.now c.requires.actor
    (ap (λ n. is_outsiders n c.args.entry.now.actor c.args.action.now) (sym c.cpus.ensures.value) ∙ sym c.is_outsiders.ensures
    ∙ c.if-is_outsiders.true)

pub returns-then-is_outsiders-clause-answer : goal.returns-then-is_outsiders-clause-answer
returns-then-is_outsiders-clause-answer c =
    λ kept can. answered_outside c.args.machine.now kept c.args.entry.now can c.args.action.now c.requires.own c.requires.row
    c.args.machine.now
    (ap (λ n. is_outsiders n c.args.entry.now.actor c.args.action.now) (sym c.cpus.ensures.value) ∙ sym c.is_outsiders.ensures
    ∙ c.if-is_outsiders.true)
    c.ask_outside.result c.ask_outside.ensures

pub ask-requires-clause-asked : goal.ask-requires-clause-asked
ask-requires-clause-asked c =
    can_apply _ c.args.entry.now.actor c.args.action.now c.requires.row
    (ap (λ n. is_outsiders n c.args.entry.now.actor c.args.action.now) (sym c.cpus.ensures.value) ∙ sym c.is_outsiders.ensures
    ∙ c.if-is_outsiders.false)

pub ask-requires-clause-moves : goal.ask-requires-clause-moves
ask-requires-clause-moves c =
    can_move (state_of c.args.machine.now) c.args.action.now
    (ap (λ n. is_one_too_many n c.args.action.now) (sym c.arrays_made.ensures) ∙ sym c.is_one_too_many.ensures
    ∙ c.if-is_one_too_many.false)

pub returns-clause-answer : goal.returns-clause-answer
returns-clause-answer c =
    out_of c.args.machine.now c.args.entry.now _ c.ask.result
    (λ kept can. answered c.args.machine.now kept c.args.entry.now can c.args.action.now c.requires.own c.requires.row _ c.ask.result
    c.ask.ensures.takes c.ask.ensures.step)
