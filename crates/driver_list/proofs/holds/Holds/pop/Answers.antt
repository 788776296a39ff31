use Rattle.std.proofs.Common.{◌≡◌, ◌∙◌, ℕ, ◌-◌, ◌<◌, ◌∷◌, [], ◌++◌, List, length, map, set, take, sym, ap}
use Rattle.std.proofs.Common.{subst, arith}
use Rattle.std.specs.Global.{Vec}
use Rattle.std.proofs.lemmas.List.{length-map, append-nil, get_or-set_same}
use Rattle.sgx_types.specs.declared.names.Page.{Page}
use Rattle.driver_list.specs.inner.Holds.{own_of, but_last}
use Rattle.driver_list.specs.inner.KeptHolds.{pages_in}
use Rattle.driver_list.proofs.HoldLaws.{own_read, IsRoomy, dropped_kept, same_kept, last_placed}
use Rattle.driver_list.proofs.holds.Holds.pop.Goals as goal

pub invariant_of-self : goal.invariant_of-self
invariant_of-self c =
    let vs : List (Vec Page) = c.self.inside.own.items in
    let own : List (List Page) = map pages_in vs in
    let h : ℕ = c.number_of.result in
    let is = c.self.invariant.holds in
    let low : h < 17 = omega (arith, c.number_of.ensures, c.requires) in
    let within : h < length vs = omega (arith, low, is.holders, length-map vs pages_in) in
    let read : own_of own h ≡ c.index_mut.result.now.items = own_read vs h c.index_mut.result.now within c.index_mut.ensures.value in
    let roomy : IsRoomy c.index_mut.result.now =
    subst IsRoomy (sym c.index_mut.ensures.value) (c.self.invariant.room h c.index_mut.result.now within) in
    let items : c.index_mut.result.now.items ≡ c.pop.new.self.items = c.in_err-page.ensures.items ∙ append-nil c.pop.new.self.items in
    let kept = same_kept c.self.inside.held.items c.self.inside.places vs h c.index_mut.result.now c.pop.new.self is c.self.invariant.room
    low read roomy items c.in_err-page.ensures.capacity in
    record { holds = kept.1.holds; room = kept.1.room }

pub returns-in_err-page-clause-new : goal.returns-in_err-page-clause-new
returns-in_err-page-clause-new c =
    let vs : List (Vec Page) = c.self.inside.own.items in
    let own : List (List Page) = map pages_in vs in
    let h : ℕ = c.number_of.result in
    let is = c.self.invariant.holds in
    let low : h < 17 = omega (arith, c.number_of.ensures, c.requires) in
    let within : h < length vs = omega (arith, low, is.holders, length-map vs pages_in) in
    let read : own_of own h ≡ c.index_mut.result.now.items = own_read vs h c.index_mut.result.now within c.index_mut.ensures.value in
    let roomy : IsRoomy c.index_mut.result.now =
    subst IsRoomy (sym c.index_mut.ensures.value) (c.self.invariant.room h c.index_mut.result.now within) in
    let items : c.index_mut.result.now.items ≡ c.pop.new.self.items = c.in_err-page.ensures.items ∙ append-nil c.pop.new.self.items in
    let kept = same_kept c.self.inside.held.items c.self.inside.places vs h c.index_mut.result.now c.pop.new.self is c.self.invariant.room
    low read roomy items c.in_err-page.ensures.capacity in
    let last : c.pop.new.self.items ≡ but_last (own_of own h) =
    c.in_err-page.ensures.rest ∙ ap (λ n. take (n - 1) c.index_mut.result.now.items) c.index_mut.result.now.ok.0
    ∙ ap but_last (sym read) in
    rw (← c.self.view_is, ← c.number_of.ensures)
    (ap (λ (o : List (List Page)). record { counts = c.self.inside.places; own = o }) (kept.1.own ∙ ap (set own h) last))

pub returns-in_err-page-clause-splits : goal.returns-in_err-page-clause-splits
returns-in_err-page-clause-splits c =
    let vs : List (Vec Page) = c.self.inside.own.items in
    let own : List (List Page) = map pages_in vs in
    let h : ℕ = c.number_of.result in
    let is = c.self.invariant.holds in
    let low : h < 17 = omega (arith, c.number_of.ensures, c.requires) in
    let within : h < length vs = omega (arith, low, is.holders, length-map vs pages_in) in
    let read : own_of own h ≡ c.index_mut.result.now.items = own_read vs h c.index_mut.result.now within c.index_mut.ensures.value in
    let roomy : IsRoomy c.index_mut.result.now =
    subst IsRoomy (sym c.index_mut.ensures.value) (c.self.invariant.room h c.index_mut.result.now within) in
    let items : c.index_mut.result.now.items ≡ c.pop.new.self.items = c.in_err-page.ensures.items ∙ append-nil c.pop.new.self.items in
    let kept = same_kept c.self.inside.held.items c.self.inside.places vs h c.index_mut.result.now c.pop.new.self is c.self.invariant.room
    low read roomy items c.in_err-page.ensures.capacity in
    rw (← c.self.view_is, ← c.number_of.ensures, c.from_residual.ensures)
    (ap (λ (o : List (List Page)). own_of o h) (sym kept.0) ∙ sym (append-nil (own_of (map pages_in (set vs h c.pop.new.self)) h)))

pub place-place-requires : goal.place-place-requires
place-place-requires c =
    let vs : List (Vec Page) = c.self.inside.own.items in
    let own : List (List Page) = map pages_in vs in
    let h : ℕ = c.number_of.result in
    let is = c.self.invariant.holds in
    let low : h < 17 = omega (arith, c.number_of.ensures, c.requires) in
    let within : h < length vs = omega (arith, low, is.holders, length-map vs pages_in) in
    let read : own_of own h ≡ c.index_mut.result.now.items = own_read vs h c.index_mut.result.now within c.index_mut.ensures.value in
    let roomy : IsRoomy c.index_mut.result.now =
    subst IsRoomy (sym c.index_mut.ensures.value) (c.self.invariant.room h c.index_mut.result.now within) in
    let items : c.index_mut.result.now.items ≡ c.pop.new.self.items ++ c.in_ok-page.page ∷ [] = c.in_ok-page.ensures.items in
    last_placed c.self.inside.held.items c.self.inside.places own h c.pop.new.self.items c.in_ok-page.page is (read ∙ items)

pub overflow_sub-index_mut : goal.overflow_sub-index_mut
overflow_sub-index_mut c =
    let vs : List (Vec Page) = c.self.inside.own.items in
    let own : List (List Page) = map pages_in vs in
    let h : ℕ = c.number_of.result in
    let is = c.self.invariant.holds in
    let low : h < 17 = omega (arith, c.number_of.ensures, c.requires) in
    let within : h < length vs = omega (arith, low, is.holders, length-map vs pages_in) in
    let read : own_of own h ≡ c.index_mut.result.now.items = own_read vs h c.index_mut.result.now within c.index_mut.ensures.value in
    let roomy : IsRoomy c.index_mut.result.now =
    subst IsRoomy (sym c.index_mut.ensures.value) (c.self.invariant.room h c.index_mut.result.now within) in
    let items : c.index_mut.result.now.items ≡ c.pop.new.self.items ++ c.in_ok-page.page ∷ [] = c.in_ok-page.ensures.items in
    let kept = dropped_kept c.self.inside.held.items c.self.inside.places vs h c.index_mut.result.now c.pop.new.self c.in_ok-page.page
    c.place-place.result c.index_mut-2.result.now is c.self.invariant.room low read roomy
    items c.in_ok-page.ensures.capacity c.place-place.ensures.value c.index_mut-2.ensures.value in
    kept.0

pub invariant_of-self-2 : goal.invariant_of-self-2
invariant_of-self-2 c =
    let vs : List (Vec Page) = c.self.inside.own.items in
    let own : List (List Page) = map pages_in vs in
    let h : ℕ = c.number_of.result in
    let is = c.self.invariant.holds in
    let low : h < 17 = omega (arith, c.number_of.ensures, c.requires) in
    let within : h < length vs = omega (arith, low, is.holders, length-map vs pages_in) in
    let read : own_of own h ≡ c.index_mut.result.now.items = own_read vs h c.index_mut.result.now within c.index_mut.ensures.value in
    let roomy : IsRoomy c.index_mut.result.now =
    subst IsRoomy (sym c.index_mut.ensures.value) (c.self.invariant.room h c.index_mut.result.now within) in
    let items : c.index_mut.result.now.items ≡ c.pop.new.self.items ++ c.in_ok-page.page ∷ [] = c.in_ok-page.ensures.items in
    let kept = dropped_kept c.self.inside.held.items c.self.inside.places vs h c.index_mut.result.now c.pop.new.self c.in_ok-page.page
    c.place-place.result c.index_mut-2.result.now is c.self.invariant.room low read roomy
    items c.in_ok-page.ensures.capacity c.place-place.ensures.value c.index_mut-2.ensures.value in
    record { holds = kept.1.holds; room = kept.1.room }

pub returns-clause-new : goal.returns-clause-new
returns-clause-new c =
    let vs : List (Vec Page) = c.self.inside.own.items in
    let own : List (List Page) = map pages_in vs in
    let h : ℕ = c.number_of.result in
    let is = c.self.invariant.holds in
    let low : h < 17 = omega (arith, c.number_of.ensures, c.requires) in
    let within : h < length vs = omega (arith, low, is.holders, length-map vs pages_in) in
    let read : own_of own h ≡ c.index_mut.result.now.items = own_read vs h c.index_mut.result.now within c.index_mut.ensures.value in
    let roomy : IsRoomy c.index_mut.result.now =
    subst IsRoomy (sym c.index_mut.ensures.value) (c.self.invariant.room h c.index_mut.result.now within) in
    let items : c.index_mut.result.now.items ≡ c.pop.new.self.items ++ c.in_ok-page.page ∷ [] = c.in_ok-page.ensures.items in
    let kept = dropped_kept c.self.inside.held.items c.self.inside.places vs h c.index_mut.result.now c.pop.new.self c.in_ok-page.page
    c.place-place.result c.index_mut-2.result.now is c.self.invariant.room low read roomy
    items c.in_ok-page.ensures.capacity c.place-place.ensures.value c.index_mut-2.ensures.value in
    let last : c.pop.new.self.items ≡ but_last (own_of own h) =
    c.in_ok-page.ensures.rest ∙ ap (λ n. take (n - 1) c.index_mut.result.now.items) c.index_mut.result.now.ok.0
    ∙ ap but_last (sym read) in
    rw (← c.self.view_is, ← c.number_of.ensures)
    (ap (λ (o : List (List Page)). record { counts = c.self.inside.places; own = o }) (kept.1.own ∙ ap (set own h) last))

pub returns-clause-splits : goal.returns-clause-splits
returns-clause-splits c =
    let vs : List (Vec Page) = c.self.inside.own.items in
    let own : List (List Page) = map pages_in vs in
    let h : ℕ = c.number_of.result in
    let is = c.self.invariant.holds in
    let low : h < 17 = omega (arith, c.number_of.ensures, c.requires) in
    let within : h < length vs = omega (arith, low, is.holders, length-map vs pages_in) in
    let read : own_of own h ≡ c.index_mut.result.now.items = own_read vs h c.index_mut.result.now within c.index_mut.ensures.value in
    let roomy : IsRoomy c.index_mut.result.now =
    subst IsRoomy (sym c.index_mut.ensures.value) (c.self.invariant.room h c.index_mut.result.now within) in
    let items : c.index_mut.result.now.items ≡ c.pop.new.self.items ++ c.in_ok-page.page ∷ [] = c.in_ok-page.ensures.items in
    let kept = dropped_kept c.self.inside.held.items c.self.inside.places vs h c.index_mut.result.now c.pop.new.self c.in_ok-page.page
    c.place-place.result c.index_mut-2.result.now is c.self.invariant.room low read roomy
    items c.in_ok-page.ensures.capacity c.place-place.ensures.value c.index_mut-2.ensures.value in
    let now : own_of (map pages_in (set vs h c.pop.new.self)) h ≡ c.pop.new.self.items =
    ap (λ (o : List (List Page)). own_of o h) kept.1.own ∙ get_or-set_same own h c.pop.new.self.items [] (omega (arith, is.holders)) in
    rw (← c.self.view_is, ← c.number_of.ensures) (read ∙ items ∙ ap (λ ps. ps ++ c.in_ok-page.page ∷ []) (sym now))

pub returns-clause-placed : goal.returns-clause-placed
returns-clause-placed c =
    let vs : List (Vec Page) = c.self.inside.own.items in
    let own : List (List Page) = map pages_in vs in
    let h : ℕ = c.number_of.result in
    let is = c.self.invariant.holds in
    let low : h < 17 = omega (arith, c.number_of.ensures, c.requires) in
    let within : h < length vs = omega (arith, low, is.holders, length-map vs pages_in) in
    let read : own_of own h ≡ c.index_mut.result.now.items = own_read vs h c.index_mut.result.now within c.index_mut.ensures.value in
    let roomy : IsRoomy c.index_mut.result.now =
    subst IsRoomy (sym c.index_mut.ensures.value) (c.self.invariant.room h c.index_mut.result.now within) in
    let items : c.index_mut.result.now.items ≡ c.pop.new.self.items ++ c.in_ok-page.page ∷ [] = c.in_ok-page.ensures.items in
    rw (← c.self.view_is)
    (last_placed c.self.inside.held.items c.self.inside.places own h c.pop.new.self.items c.in_ok-page.page is (read ∙ items))
