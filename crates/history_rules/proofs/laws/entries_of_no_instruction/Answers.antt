use Rattle.history_rules.proofs.NoteLaws.{note_goes_on, note_says}
use Rattle.history_rules.proofs.laws.entries_of_no_instruction.Goals as goal

pub returns : goal.returns
returns c = record { says = note_says; goes_on = note_goes_on }
