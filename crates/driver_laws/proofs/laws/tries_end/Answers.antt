use Rattle.driver_laws.proofs.EpochLaws.{block_epoch_before, block_epoch_now, drained_then, none_older}
use Rattle.driver_laws.proofs.laws.tries_end.Goals as goal

pub returns : goal.returns
returns c = record { older = none_older; now = block_epoch_now; before = block_epoch_before; drained = drained_then }
