use Rattle.history_machine.proofs.SomeLaws.{fails_nowhere, first_of_all, machines_part}
use Rattle.history_machine.proofs.laws.the_processors_rules_are_some_of_all.Goals as goal

pub returns : goal.returns
returns c = record { history = machines_part; fails = fails_nowhere; here = first_of_all }
