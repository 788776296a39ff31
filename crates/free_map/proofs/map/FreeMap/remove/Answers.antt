use Rattle.std.proofs.Common.{arith}
use Rattle.free_map.proofs.Marks.{mark_within, removed}
use Rattle.free_map.proofs.map.FreeMap.remove.Goals as goal

pub index_mut-requires : goal.index_mut-requires
index_mut-requires c = omega (arith, (mark_within _ _ _ _ _ c.self.invariant c.self.view_is c.requires.within).1, c.self.inside.marks.ok.0)

pub invariant_of-self : goal.invariant_of-self
invariant_of-self c =
    (removed _ _ _ _ _ _ c.self.invariant c.self.view_is c.requires.within c.requires.present c.index_mut.ensures.value).map

pub returns : goal.returns
returns c = (removed _ _ _ _ _ _ c.self.invariant c.self.view_is c.requires.within c.requires.present c.index_mut.ensures.value).members
