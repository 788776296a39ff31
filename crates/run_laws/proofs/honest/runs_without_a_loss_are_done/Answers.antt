use Rattle.run_laws.proofs.DoneLaws.{all_done}
use Rattle.run_laws.proofs.honest.runs_without_a_loss_are_done.Goals as goal

pub returns : goal.returns
returns c = all_done
