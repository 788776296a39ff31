use Rattle.std.proofs.Common.{sym, ◌∙◌}
use Rattle.seal_record.specs.inner.Sealing.{made_by}
use Rattle.audit_machine.specs.inner.Asked.{made_for}
use Rattle.audit_check.proofs.AskLaws.{note_of, noted}
use Rattle.audit_check.proofs.asking.ask.Goals as goal

pub note-requires : goal.note-requires
note-requires c = note_of c.args.entry.now.event (sym c.action_of.ensures ∙ c.in_default.is)

pub returns-in_default-clause-answer : goal.returns-in_default-clause-answer
returns-in_default-clause-answer c =
    λ can. noted c.args.machine.now _ c.args.entry.now can
    (note_of c.args.entry.now.event (sym c.action_of.ensures ∙ c.in_default.is))
    (c.note.ensures.history (made_for can.j can.cpus) can.past (made_by can.j.key can.past) can.checked.stands)
