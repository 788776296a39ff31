use Rattle.std.proofs.Common.{◌≡◌, ◌+◌, ◌++◌, ◌∷◌, [], if◌then◌else◌, Option, Some, sym, ap, ◌∙◌, subst, arith}
use Rattle.std.specs.Global.{Vec}
use Rattle.std.specs.HashMap.{get}
use Rattle.trace_query.specs.declared.page_moves.Move.{Move}
use Rattle.trace_query.specs.inner.Lists.{moves_in}
use Rattle.trace_spans.proofs.MapLaws.{written, holds_written, spare_less}
use Rattle.trace_spans.specs.inner.Listed.{items_of, HasSpare}
use Rattle.sgx_types.specs.Pages.{same_page}
use Rattle.sgx_types.proofs.Pages.{same_pages}
use Rattle.trace_query.proofs.move_lists.MoveLists.push.Goals as goal

pub add-requires : goal.add-requires
add-requires c =
    let Spare : Option (Vec Move) → Type 0 = λ o. HasSpare o 1 in
    subst Spare (sym c.in-Some.ensures.value) c.requires.room

pub returns-in-Some-clause-moves : goal.returns-in-Some-clause-moves
returns-in-Some-clause-moves c = λ g.
    let here : get same_page c.args.self.now.lists c.args.page ≡ Some c.in-Some.list.now = sym c.in-Some.ensures.value in
    let changes = (c.get_mut.follows.holds c.add.new.list).3 (search here) in
    written same_page items_of (λ xs. xs ++ c.args.step ∷ []) c.args.page g (get same_page c.args.self.now.lists)
    (get same_page (c.get_mut.follows.lender c.add.new.list)) c.in-Some.list.now c.add.new.list same_pages here
    c.add.ensures.items changes.0

pub returns-in-Some-clause-room : goal.returns-in-Some-clause-room
returns-in-Some-clause-room c = λ g k.
    let here : get same_page c.args.self.now.lists c.args.page ≡ Some c.in-Some.list.now = sym c.in-Some.ensures.value in
    let changes = (c.get_mut.follows.holds c.add.new.list).3 (search here) in
    holds_written same_page (λ list. HasSpare list (k + 1)) (λ list. HasSpare list k) c.args.page g
    (get same_page c.args.self.now.lists) (get same_page (c.get_mut.follows.lender c.add.new.list)) c.in-Some.list.now c.add.new.list
    same_pages here (λ h. omega (arith, h, c.add.ensures.len, c.add.ensures.capacity)) (λ o h. spare_less o k h) changes.0
