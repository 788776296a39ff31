use Rattle.due_tables.proofs.EndLaws.{ends_first, ends_go_on, run_ended}
use Rattle.due_tables.proofs.laws.finished_runs_are_ended.Goals as goal

pub returns : goal.returns
returns c = record { ended = run_ended; first = ends_first; more = ends_go_on }
