use Rattle.std.proofs.Common.{◌∙◌}
use Rattle.run_laws.proofs.PlannedLaws.{honest_without_lines}
use Rattle.run_jobs.proofs.RunLaws.{no_bus}
use Rattle.run_jobs.proofs.laws.planned_runs_without_lines_lose_nothing.Goals as goal

pub returns : goal.returns
returns c = λ j past end store rule each none run.
    (let back = run.honest (honest_without_lines store rule each (run.store.0 ∙ none)) in (back, no_bus past end run.end_is back))
