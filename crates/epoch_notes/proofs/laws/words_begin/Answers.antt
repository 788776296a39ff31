use Rattle.epoch_notes.proofs.NoteLaws.{tells_none}
use Rattle.epoch_notes.proofs.laws.words_begin.Goals as goal

pub returns : goal.returns
returns c = tells_none
