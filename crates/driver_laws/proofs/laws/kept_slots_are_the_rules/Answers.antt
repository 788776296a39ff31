use Rattle.driver_laws.proofs.OutLaws.{keeper_out}
use Rattle.driver_laws.proofs.laws.kept_slots_are_the_rules.Goals as goal

pub returns : goal.returns
returns c = keeper_out
