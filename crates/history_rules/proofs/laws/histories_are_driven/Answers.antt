use Rattle.history_rules.proofs.HistoryLaws.{driven, pages, sound, three, tracks}
use Rattle.history_rules.proofs.laws.histories_are_driven.Goals as goal

pub returns : goal.returns
returns c = record { driven = driven; sound = sound; tracks = tracks; pages = pages; three = three }
