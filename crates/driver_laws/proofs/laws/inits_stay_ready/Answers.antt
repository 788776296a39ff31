use Rattle.driver_laws.proofs.InitLaws.{first_inits, more_inits, row_inits}
use Rattle.driver_laws.proofs.laws.inits_stay_ready.Goals as goal

pub returns-clause-first : goal.returns-clause-first
returns-clause-first c = first_inits

pub returns-clause-more : goal.returns-clause-more
returns-clause-more c past e s can tells before = more_inits past e s can tells before

pub returns-clause-told : goal.returns-clause-told
returns-clause-told c made past e along refusal = row_inits made past e along refusal
