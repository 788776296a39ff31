use Rattle.std.proofs.Common.{◌∙◌, ◌≤◌, ap, subst, sym, set, true}
use Rattle.driver_slots.specs.inner.Keeper.{ArrayView, IsArray}
use Rattle.driver_slots.proofs.ArrayLaws.{gives_array}
use Rattle.driver_slots.proofs.array_slots.ArraySlots.give.Goals as goal

pub invariant_of-self : goal.invariant_of-self
invariant_of-self c =
    let a : ArrayView = record { va = c.self.inside.va; first = c.self.inside.first; free = c.self.inside.free } in
    let from : c.self.inside.first ≤ c.args.index = rw (← c.self.view_is) at c.requires.first in
    subst (λ xs. IsArray (record { va = c.self.inside.va; first = c.self.inside.first; free = xs }))
    (sym (c.update.ensures ∙ ap (λ n. set c.self.inside.free n true) c.from.ensures))
    (gives_array a c.args.index c.self.invariant c.requires.within from)
