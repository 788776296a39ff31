use Rattle.audit_tables.proofs.AgreeLaws.{tells_shown}
use Rattle.audit_tables.proofs.laws.telling_tables_show.Goals as goal

pub returns : goal.returns
returns c = tells_shown
