use Rattle.driver_pass.proofs.DueLaws.{can_be_due, dues_are}
use Rattle.driver_pass.proofs.laws.dues_are_told.Goals as goal

pub returns-clause-can : goal.returns-clause-can
returns-clause-can c k made j past d m v a stands = can_be_due k made j past d m a v stands

pub returns-clause-due : goal.returns-clause-due
returns-clause-due c k made j past out d m v a all shown held stands = dues_are k made j past d m a out all shown held v stands
