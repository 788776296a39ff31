use Rattle.run_course.proofs.PromiseLaws.{promises}
use Rattle.run_course.proofs.promises.courses_keep_their_promises.Goals as goal

pub returns : goal.returns
returns c = promises
