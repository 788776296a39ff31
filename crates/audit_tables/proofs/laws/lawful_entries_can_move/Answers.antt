use Rattle.audit_tables.proofs.AgreeLaws.{lawful_can, lawful_starts}
use Rattle.audit_tables.proofs.laws.lawful_entries_can_move.Goals as goal

pub returns : goal.returns
returns c = record { can = lawful_can; starts = lawful_starts }
