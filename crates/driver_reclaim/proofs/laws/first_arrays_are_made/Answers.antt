use Rattle.driver_reclaim.proofs.FirstLaws.{none_first, stays_first}
use Rattle.driver_reclaim.proofs.laws.first_arrays_are_made.Goals as goal

pub returns : goal.returns
returns c = record {
  first = none_first;
  more = λ made j past v d m e r age. stays_first made j past v d m r e age;
}
