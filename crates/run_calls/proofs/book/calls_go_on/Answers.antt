use Rattle.run_calls.proofs.StoreLaws.{tells_first, tells_more}
use Rattle.run_calls.proofs.book.calls_go_on.Goals as goal

pub returns : goal.returns
returns c = record { first = tells_first; more = tells_more }
