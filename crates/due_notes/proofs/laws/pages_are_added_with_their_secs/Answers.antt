use Rattle.due_notes.proofs.SecsLaws.{added_with_secs}
use Rattle.due_notes.proofs.laws.pages_are_added_with_their_secs.Goals as goal

pub returns : goal.returns
returns c = added_with_secs
