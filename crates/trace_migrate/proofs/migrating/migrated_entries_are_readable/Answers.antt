use Rattle.trace_migrate.proofs.NumberLaws.{migrated_readable}
use Rattle.trace_migrate.proofs.migrating.migrated_entries_are_readable.Goals as goal

pub returns : goal.returns
returns c = migrated_readable
