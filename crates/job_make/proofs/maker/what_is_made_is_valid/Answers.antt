use Rattle.job_make.proofs.ValidJobs.{made_valid}
use Rattle.job_make.proofs.maker.what_is_made_is_valid.Goals as goal

pub returns : goal.returns
returns c = made_valid
