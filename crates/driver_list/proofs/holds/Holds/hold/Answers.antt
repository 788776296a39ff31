use Rattle.std.proofs.Common.{◌≡◌, ℕ, ◌<◌, ◌≤◌, List, length, map, sym, ap, subst, arith}
use Rattle.std.specs.Global.{Vec}
use Rattle.std.proofs.lemmas.List.{length-map}
use Rattle.sgx_types.specs.declared.names.Page.{Page}
use Rattle.driver_list.specs.inner.Places.{IsPlaced}
use Rattle.driver_list.specs.inner.Holds.{HoldTable, holder_of, own_of}
use Rattle.driver_list.specs.inner.KeptHolds.{pages_in, hold_count}
use Rattle.driver_list.proofs.HoldLaws.{own_read, IsRoomy, held_kept, mark_read, count_few}
use Rattle.driver_list.proofs.holds.Holds.hold.Goals as goal

pub overflow_add-index_mut : goal.overflow_add-index_mut
overflow_add-index_mut c =
    let placed : IsPlaced c.self.inside.places c.args.page =
    subst (λ (a : HoldTable). IsPlaced a.counts c.args.page) (sym c.self.view_is) c.requires.placed in
    let own : List (List Page) = map pages_in c.self.inside.own.items in
    let count : c.index_mut-2.result.now ≡ hold_count own c.args.page =
    mark_read c.self.inside.held.items c.self.inside.places own c.args.page c.place-place.result c.index_mut-2.result.now
    c.self.invariant.holds placed c.place-place.ensures.value c.index_mut-2.ensures.value in
    let few : hold_count own c.args.page ≤ 187 =
    count_few c.self.inside.held.items c.self.inside.places own c.args.page c.self.invariant.holds in
    omega (arith, count, few)

pub invariant_of-self : goal.invariant_of-self
invariant_of-self c =
    let vs : List (Vec Page) = c.self.inside.own.items in
    let h : ℕ = c.number_of.result in
    let is = c.self.invariant.holds in
    let low : h < 17 = omega (arith, c.number_of.ensures, c.requires.holder) in
    let within : h < length vs = omega (arith, low, is.holders, length-map vs pages_in) in
    let read : own_of (map pages_in vs) h ≡ c.index_mut.result.now.items =
    own_read vs h c.index_mut.result.now within c.index_mut.ensures.value in
    let roomy : IsRoomy c.index_mut.result.now =
    subst IsRoomy (sym c.index_mut.ensures.value) (c.self.invariant.room h c.index_mut.result.now within) in
    let placed : IsPlaced c.self.inside.places c.args.page =
    subst (λ (a : HoldTable). IsPlaced a.counts c.args.page) (sym c.self.view_is) c.requires.placed in
    let few : length c.index_mut.result.now.items < 11 =
    omega (
      arith,
      ap length read,
      ap (λ n. length (own_of (map pages_in vs) n)) c.number_of.ensures,
      ap (λ (a : HoldTable). length (own_of a.own (holder_of c.args.who))) c.self.view_is,
      c.requires.room,
    ) in
    let kept = held_kept c.self.inside.held.items c.self.inside.places vs h c.index_mut.result.now c.push_reserved.new.self c.args.page
    c.place-place.result c.index_mut-2.result.now is c.self.invariant.room low read roomy
    c.push_reserved.ensures.items c.push_reserved.ensures.capacity few placed c.place-place.ensures.value c.index_mut-2.ensures.value in
    record { holds = kept.holds; room = kept.room }

pub returns : goal.returns
returns c =
    let vs : List (Vec Page) = c.self.inside.own.items in
    let h : ℕ = c.number_of.result in
    let is = c.self.invariant.holds in
    let low : h < 17 = omega (arith, c.number_of.ensures, c.requires.holder) in
    let within : h < length vs = omega (arith, low, is.holders, length-map vs pages_in) in
    let read : own_of (map pages_in vs) h ≡ c.index_mut.result.now.items =
    own_read vs h c.index_mut.result.now within c.index_mut.ensures.value in
    let roomy : IsRoomy c.index_mut.result.now =
    subst IsRoomy (sym c.index_mut.ensures.value) (c.self.invariant.room h c.index_mut.result.now within) in
    let placed : IsPlaced c.self.inside.places c.args.page =
    subst (λ (a : HoldTable). IsPlaced a.counts c.args.page) (sym c.self.view_is) c.requires.placed in
    let few : length c.index_mut.result.now.items < 11 =
    omega (
      arith,
      ap length read,
      ap (λ n. length (own_of (map pages_in vs) n)) c.number_of.ensures,
      ap (λ (a : HoldTable). length (own_of a.own (holder_of c.args.who))) c.self.view_is,
      c.requires.room,
    ) in
    let kept = held_kept c.self.inside.held.items c.self.inside.places vs h c.index_mut.result.now c.push_reserved.new.self c.args.page
    c.place-place.result c.index_mut-2.result.now is c.self.invariant.room low read roomy
    c.push_reserved.ensures.items c.push_reserved.ensures.capacity few placed c.place-place.ensures.value c.index_mut-2.ensures.value in
    rw (← c.self.view_is, ← c.number_of.ensures)
    (ap (λ (own : List (List Page)). record { counts = c.self.inside.places; own = own }) kept.own)
