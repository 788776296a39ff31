use Rattle.due_notes.proofs.FromLaws.{auditors_keep, drivers_keep}
use Rattle.due_notes.proofs.laws.keepers_keep_from.Goals as goal

pub returns : goal.returns
returns c = record { driver = drivers_keep; auditor = auditors_keep }
