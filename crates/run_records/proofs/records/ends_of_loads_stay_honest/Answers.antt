use Rattle.run_records.proofs.HonestEnds.{ended_back, ended_honest}
use Rattle.run_records.proofs.records.ends_of_loads_stay_honest.Goals as goal

pub returns-clause-back : goal.returns-clause-back
returns-clause-back c = ended_back

pub returns-clause-stays : goal.returns-clause-stays
returns-clause-stays c = ended_honest
