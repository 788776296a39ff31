use Rattle.std.proofs.Common.{arith}
use Rattle.free_map.proofs.Marks.{mark_within, insert_fits, inserted}
use Rattle.free_map.proofs.map.FreeMap.insert.Goals as goal

pub index_mut-requires : goal.index_mut-requires
index_mut-requires c = omega (arith, (mark_within _ _ _ _ _ c.self.invariant c.self.view_is c.requires.within).1, c.self.inside.marks.ok.0)

pub overflow_add-self : goal.overflow_add-self
overflow_add-self c =
    omega (arith, c.self.invariant.small, insert_fits _ _ _ _ _ c.self.invariant c.self.view_is c.requires.within c.requires.absent)

pub invariant_of-self : goal.invariant_of-self
invariant_of-self c =
    (inserted _ _ _ _ _ _ c.self.invariant c.self.view_is c.requires.within c.requires.absent c.index_mut.ensures.value).map

pub returns : goal.returns
returns c = (inserted _ _ _ _ _ _ c.self.invariant c.self.view_is c.requires.within c.requires.absent c.index_mut.ensures.value).members
