use Rattle.driver_tables.proofs.TargetLaws.{array_of, first_is, fixed_few, fixed_is, secs_of, slot_here_is, target_is}
use Rattle.driver_tables.proofs.laws.targets_are_shown.Goals as goal

pub returns-clause-target : goal.returns-clause-target
returns-clause-target c k j d past g slot t sound away = target_is k j d past t g slot sound away

pub returns-clause-secs : goal.returns-clause-secs
returns-clause-secs c k j d past g t own there = secs_of k j d past t g own there

pub returns-clause-array : goal.returns-clause-array
returns-clause-array c k j d past g slot t sound away = array_of k j d past t g slot sound away

pub returns-clause-slot : goal.returns-clause-slot
returns-clause-slot c k j d past slot t placed = slot_here_is k j d past t slot placed

pub returns-clause-fixed : goal.returns-clause-fixed
returns-clause-fixed c k j d past g t = fixed_is k j d past t g

pub returns-clause-few : goal.returns-clause-few
returns-clause-few c k j d past g t placed va = fixed_few k j d past t g placed va

pub returns-clause-first : goal.returns-clause-first
returns-clause-first c k j d past va t = first_is k j d past t va
