use Rattle.driver_reclaim.proofs.NextLaws.{next_is_pass}
use Rattle.driver_reclaim.proofs.laws.the_pass_is_due.Goals as goal

pub returns : goal.returns
returns c made j past v d m kicked r age idle going some = next_is_pass made j past v d m kicked r age idle going some
