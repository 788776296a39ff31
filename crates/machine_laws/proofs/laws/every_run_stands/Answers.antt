use Rattle.machine_laws.proofs.RunLaws.{every_stands}
use Rattle.machine_laws.proofs.laws.every_run_stands.Goals as goal

pub returns : goal.returns
returns c = every_stands
