use Rattle.job_make.proofs.EnclaveSizes.{least_is_least}
use Rattle.job_make.proofs.maker.the_enclave_is_the_least.Goals as goal

pub returns : goal.returns
returns c = least_is_least
