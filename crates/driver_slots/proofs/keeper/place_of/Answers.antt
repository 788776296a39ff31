use Rattle.std.proofs.Common.{◌∙◌, ap, sym, arith, []}
use Rattle.std.proofs.lemmas.List.{get_or_default}
use Rattle.driver_slots.specs.inner.Keeper.{ArrayView}
use Rattle.driver_slots.proofs.KeeperLaws.{first_found, none_found}
use Rattle.driver_slots.proofs.keeper.place_of.Goals as goal

pub returns-then-va-clause-there : goal.returns-then-va-clause-there
returns-then-va-clause-there c = λ d.
    first_found c.args.arrays.now c.args.va c.loop-place.place d c.loop-place-test.true (λ k low. c.loop-place.invariant k d low)
    (ap (λ (a : ArrayView). a.va) (get_or_default c.args.arrays.now c.loop-place.place d c.index-arrays-place.result c.loop-place-test.true)
    ∙ ap (λ (a : ArrayView). a.va) (sym c.index-arrays-place.is) ∙ sym c.va.ensures ∙ c.if-va.true)

pub unreachable-requires : goal.unreachable-requires
unreachable-requires c = none_found c.args.arrays.now c.args.va
    (record { va = 0; first = 0; free = [] })
    c.requires (λ k low. c.loop-place.invariant k (record { va = 0; first = 0; free = [] }) (omega arith))
