use Rattle.audit_tables.proofs.AgreeLaws.{loads_apart}
use Rattle.audit_tables.proofs.laws.loads_are_apart.Goals as goal

pub returns : goal.returns
returns c = loads_apart
