use Rattle.std.proofs.Common.{◌≡◌, ◌∙◌, List, map, nat_lt, sym, ap, subst}
use Rattle.sgx_types.specs.declared.names.Page.{Page}
use Rattle.driver_list.specs.inner.Places.{IsPlaced}
use Rattle.driver_list.specs.inner.Holds.{HoldTable}
use Rattle.driver_list.specs.inner.KeptHolds.{pages_in, hold_count}
use Rattle.driver_list.proofs.HoldLaws.{mark_read, held_is}
use Rattle.driver_list.proofs.holds.Holds.is_held.Goals as goal

pub returns-clause-value : goal.returns-clause-value
returns-clause-value c =
    let own : List (List Page) = map pages_in c.self.inside.own.items in
    let placed : IsPlaced c.self.inside.places c.args.page =
    subst (λ (a : HoldTable). IsPlaced a.counts c.args.page) (sym c.self.view_is) c.requires in
    let count : c.index.result.now ≡ hold_count own c.args.page =
    mark_read c.self.inside.held.items c.self.inside.places own c.args.page c.place.result c.index.result.now c.self.invariant.holds
    placed c.place.ensures.value c.index.ensures in
    rw (← c.self.view_is) (ap (nat_lt 0) count ∙ held_is own c.args.page)
