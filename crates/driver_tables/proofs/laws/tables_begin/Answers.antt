use Rattle.driver_tables.proofs.FirstLaws.{shows_first}
use Rattle.driver_tables.proofs.laws.tables_begin.Goals as goal

pub returns : goal.returns
returns c k j d v new = shows_first k j d v new
