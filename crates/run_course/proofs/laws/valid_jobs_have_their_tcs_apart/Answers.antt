use Rattle.run_laws.proofs.TcsLaws.{tcs_apart}
use Rattle.run_course.proofs.laws.valid_jobs_have_their_tcs_apart.Goals as goal

pub returns : goal.returns
returns c = tcs_apart
