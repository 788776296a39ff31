use Rattle.due_notes.proofs.FitLaws.{entry_fits}
use Rattle.due_notes.proofs.NotedLaws.{entry_noted}
use Rattle.due_notes.proofs.notes.note_tables.Goals as goal

pub note_event-requires : goal.note_event-requires
note_event-requires c =
    entry_fits c.args.turns.now c.args.driver.now c.args.first c.args.before c.args.entry.now c.requires

pub returns : goal.returns
returns c = λ can.
    entry_noted c.args.turns.now c.args.driver.now c.note_event.new.driver c.args.first c.args.before c.args.entry.now can
    c.note_event.ensures
