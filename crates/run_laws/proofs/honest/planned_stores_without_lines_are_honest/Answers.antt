use Rattle.run_laws.proofs.PlannedLaws.{honest_without_lines}
use Rattle.run_laws.proofs.honest.planned_stores_without_lines_are_honest.Goals as goal

pub returns : goal.returns
returns c = honest_without_lines
