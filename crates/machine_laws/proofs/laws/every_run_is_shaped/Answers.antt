use Rattle.machine_laws.proofs.RunLaws.{every_run}
use Rattle.machine_laws.proofs.laws.every_run_is_shaped.Goals as goal

pub returns : goal.returns
returns c = every_run
