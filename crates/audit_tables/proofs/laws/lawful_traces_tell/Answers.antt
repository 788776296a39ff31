use Rattle.audit_tables.proofs.AgreeLaws.{tells_by_rules}
use Rattle.audit_tables.proofs.laws.lawful_traces_tell.Goals as goal

pub returns : goal.returns
returns c = tells_by_rules
