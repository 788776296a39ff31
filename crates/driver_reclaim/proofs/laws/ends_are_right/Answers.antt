use Rattle.driver_reclaim.proofs.StoredLaws.{place_used, stored_ends}
use Rattle.driver_reclaim.proofs.laws.ends_are_right.Goals as goal

pub returns : goal.returns
returns c = record {
  ended = λ made j past v d d' m m' told told' before after e r age kick says.
      stored_ends made j past v d d' m m' told told' before after e r age kick says;
  spare = λ v d d' m m' told told' before after e n n' says used low.
      place_used v d d' m m' told told' before after e n n' says used low;
}
