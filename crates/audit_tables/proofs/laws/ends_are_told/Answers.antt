use Rattle.audit_tables.proofs.EndLaws.{ends_told}
use Rattle.audit_tables.proofs.laws.ends_are_told.Goals as goal

pub returns : goal.returns
returns c = ends_told
