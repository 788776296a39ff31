use Rattle.std.proofs.Common.{◌≡◌, Some, sym, ◌∙◌, arith}
use Rattle.std.specs.HashMap.{get}
use Rattle.trace_spans.proofs.MapLaws.{rewritten, holds_written}
use Rattle.trace_spans.specs.inner.Listed.{items_of, HasSpare}
use Rattle.sgx_types.specs.Pages.{same_page}
use Rattle.sgx_types.proofs.Pages.{same_pages}
use Rattle.trace_query.proofs.move_lists.MoveLists.reserve.Goals as goal

pub returns-in_err-reserve-clause-same : goal.returns-in_err-reserve-clause-same
returns-in_err-reserve-clause-same c = λ g.
    let here : get same_page c.begin.new.self.lists c.args.page ≡ Some c.in-Some.list.now = sym c.in-Some.ensures.value in
    let changes = (c.get_mut.follows.holds c.reserve.new.self).3 (search here) in
    rewritten same_page items_of c.args.page g (get same_page c.begin.new.self.lists)
    (get same_page (c.get_mut.follows.lender c.reserve.new.self)) c.in-Some.list.now c.reserve.new.self same_pages here
    c.reserve.ensures.items changes.0
    ∙ c.begin.ensures.same g

pub returns-in_err-reserve-clause-kept : goal.returns-in_err-reserve-clause-kept
returns-in_err-reserve-clause-kept c = λ g k room.
    let here : get same_page c.begin.new.self.lists c.args.page ≡ Some c.in-Some.list.now = sym c.in-Some.ensures.value in
    let changes = (c.get_mut.follows.holds c.reserve.new.self).3 (search here) in
    holds_written same_page (λ list. HasSpare list k) (λ list. HasSpare list k) c.args.page g
    (get same_page c.begin.new.self.lists) (get same_page (c.get_mut.follows.lender c.reserve.new.self)) c.in-Some.list.now
    c.reserve.new.self same_pages here (λ h. omega (arith, h, c.reserve.ensures.len, c.reserve.ensures.capacity)) (λ o h. h) changes.0
    (c.begin.ensures.kept g k room)

pub returns-in_ok-reserve-clause-same : goal.returns-in_ok-reserve-clause-same
returns-in_ok-reserve-clause-same c = λ g.
    let here : get same_page c.begin.new.self.lists c.args.page ≡ Some c.in-Some.list.now = sym c.in-Some.ensures.value in
    let changes = (c.get_mut.follows.holds c.reserve.new.self).3 (search here) in
    rewritten same_page items_of c.args.page g (get same_page c.begin.new.self.lists)
    (get same_page (c.get_mut.follows.lender c.reserve.new.self)) c.in-Some.list.now c.reserve.new.self same_pages here
    c.reserve.ensures.items changes.0
    ∙ c.begin.ensures.same g

pub returns-in_ok-reserve-clause-kept : goal.returns-in_ok-reserve-clause-kept
returns-in_ok-reserve-clause-kept c = λ g k room.
    let here : get same_page c.begin.new.self.lists c.args.page ≡ Some c.in-Some.list.now = sym c.in-Some.ensures.value in
    let changes = (c.get_mut.follows.holds c.reserve.new.self).3 (search here) in
    holds_written same_page (λ list. HasSpare list k) (λ list. HasSpare list k) c.args.page g
    (get same_page c.begin.new.self.lists) (get same_page (c.get_mut.follows.lender c.reserve.new.self)) c.in-Some.list.now
    c.reserve.new.self same_pages here (λ h. omega (arith, h, c.reserve.ensures.len, c.reserve.ensures.capacity)) (λ o h. h) changes.0
    (c.begin.ensures.kept g k room)
