use Rattle.std.proofs.Common.{◌≡◌, ◌∙◌, ◌==◌, subst, sym, false}
use Rattle.driver_slots.specs.inner.Keeper.{ArrayView, free_of, IsArray}
use Rattle.driver_slots.proofs.ArrayLaws.{least_passes, some_least, takes_array}
use Rattle.driver_slots.proofs.array_slots.ArraySlots.take_least.Goals as goal

pub unreachable-requires : goal.unreachable-requires
unreachable-requires c =
    let some : (free_of (record { va = c.self.inside.va; first = c.self.inside.first; free = c.self.inside.free }) == 0) ≡ false =
    rw (← c.self.view_is) at c.requires in
    some_least c.self.inside.free some (sym c.first.ensures ∙ c.in_default.is)

pub update-requires-clause-known : goal.update-requires-clause-known
update-requires-clause-known c = least_passes c.self.inside.free c.in-Some.index (sym c.first.ensures ∙ c.in-Some.is)

pub invariant_of-self : goal.invariant_of-self
invariant_of-self c =
    let a : ArrayView = record { va = c.self.inside.va; first = c.self.inside.first; free = c.self.inside.free } in
    subst (λ xs. IsArray (record { va = c.self.inside.va; first = c.self.inside.first; free = xs })) (sym c.update.ensures)
    (takes_array a c.in-Some.index c.self.invariant
    (least_passes c.self.inside.free c.in-Some.index (sym c.first.ensures ∙ c.in-Some.is)))
