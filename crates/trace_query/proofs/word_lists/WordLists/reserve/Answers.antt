use Rattle.std.proofs.Common.{◌≡◌, Some, sym, ◌∙◌, arith}
use Rattle.std.specs.HashMap.{get}
use Rattle.trace_query.specs.inner.WordLists.{same_word}
use Rattle.trace_spans.proofs.MapLaws.{rewritten, holds_written}
use Rattle.trace_spans.specs.inner.Listed.{items_of, HasSpare}
use Rattle.trace_query.proofs.WordKeys.{same_words}
use Rattle.trace_query.proofs.word_lists.WordLists.reserve.Goals as goal

pub returns-in_err-reserve-clause-same : goal.returns-in_err-reserve-clause-same
returns-in_err-reserve-clause-same c = λ w.
    let here : get same_word c.begin.new.self.lists c.args.at ≡ Some c.in-Some.list.now = sym c.in-Some.ensures.value in
    let changes = (c.get_mut.follows.holds c.reserve.new.self).3 (search here) in
    rewritten same_word items_of c.args.at w (get same_word c.begin.new.self.lists)
    (get same_word (c.get_mut.follows.lender c.reserve.new.self)) c.in-Some.list.now c.reserve.new.self same_words here
    c.reserve.ensures.items changes.0
    ∙ c.begin.ensures.same w

pub returns-in_err-reserve-clause-kept : goal.returns-in_err-reserve-clause-kept
returns-in_err-reserve-clause-kept c = λ w k room.
    let here : get same_word c.begin.new.self.lists c.args.at ≡ Some c.in-Some.list.now = sym c.in-Some.ensures.value in
    let changes = (c.get_mut.follows.holds c.reserve.new.self).3 (search here) in
    holds_written same_word (λ list. HasSpare list k) (λ list. HasSpare list k) c.args.at w (get same_word c.begin.new.self.lists)
    (get same_word (c.get_mut.follows.lender c.reserve.new.self)) c.in-Some.list.now c.reserve.new.self same_words here
    (λ h. omega (arith, h, c.reserve.ensures.len, c.reserve.ensures.capacity)) (λ o h. h) changes.0 (c.begin.ensures.kept w k room)

pub returns-in_ok-reserve-clause-same : goal.returns-in_ok-reserve-clause-same
returns-in_ok-reserve-clause-same c = λ w.
    let here : get same_word c.begin.new.self.lists c.args.at ≡ Some c.in-Some.list.now = sym c.in-Some.ensures.value in
    let changes = (c.get_mut.follows.holds c.reserve.new.self).3 (search here) in
    rewritten same_word items_of c.args.at w (get same_word c.begin.new.self.lists)
    (get same_word (c.get_mut.follows.lender c.reserve.new.self)) c.in-Some.list.now c.reserve.new.self same_words here
    c.reserve.ensures.items changes.0
    ∙ c.begin.ensures.same w

pub returns-in_ok-reserve-clause-kept : goal.returns-in_ok-reserve-clause-kept
returns-in_ok-reserve-clause-kept c = λ w k room.
    let here : get same_word c.begin.new.self.lists c.args.at ≡ Some c.in-Some.list.now = sym c.in-Some.ensures.value in
    let changes = (c.get_mut.follows.holds c.reserve.new.self).3 (search here) in
    holds_written same_word (λ list. HasSpare list k) (λ list. HasSpare list k) c.args.at w (get same_word c.begin.new.self.lists)
    (get same_word (c.get_mut.follows.lender c.reserve.new.self)) c.in-Some.list.now c.reserve.new.self same_words here
    (λ h. omega (arith, h, c.reserve.ensures.len, c.reserve.ensures.capacity)) (λ o h. h) changes.0 (c.begin.ensures.kept w k room)
