use Rattle.driver_list.proofs.TableLaws.{sound}
use Rattle.driver_list.proofs.page_list.PageList.head.Goals as goal

pub returns-clause-sound : goal.returns-clause-sound
returns-clause-sound c = rw (← c.self.view_is) (sound _ _ _ _ _ c.self.invariant)
