use Rattle.free_map.proofs.Marks.{full_map}
use Rattle.free_map.proofs.map.FreeMap.full.Goals as goal

pub invariant_of-result : goal.invariant_of-result
invariant_of-result c = (full_map _ _ c.requires c.in_ok-full_marks.ensures).0

pub returns : goal.returns
returns c = (full_map _ _ c.requires c.in_ok-full_marks.ensures).1
