use Rattle.std.proofs.Common.{◌≡◌, ◌≤◌, Some, sym, subst, ◌∙◌}
use Rattle.std.specs.HashMap.{get}
use Rattle.trace_spans.specs.inner.SpanLists.{same_span_key, up_to}
use Rattle.trace_spans.proofs.MapLaws.{rewritten}
use Rattle.trace_spans.proofs.SpanWrites.{same_keys}
use Rattle.trace_spans.specs.inner.Listed.{items_of}
use Rattle.trace_spans.proofs.span_lists.SpanLists.reserve.Goals as goal

pub returns-in_err-reserve-clause-same : goal.returns-in_err-reserve-clause-same
returns-in_err-reserve-clause-same c = λ q.
    let here : get same_span_key c.begin.new.self.lists c.args.key ≡ Some c.in-Some.list.now = sym c.in-Some.ensures.value in
    let changes = (c.get_mut.follows.holds c.reserve.new.self).3 (search here) in
    rewritten same_span_key items_of c.args.key q (get same_span_key c.begin.new.self.lists)
    (get same_span_key (c.get_mut.follows.lender c.reserve.new.self)) c.in-Some.list.now c.reserve.new.self same_keys here
    c.reserve.ensures.items changes.0
    ∙ c.begin.ensures.same q

pub returns-in_ok-reserve-clause-same : goal.returns-in_ok-reserve-clause-same
returns-in_ok-reserve-clause-same c = λ q.
    let here : get same_span_key c.begin.new.self.lists c.args.key ≡ Some c.in-Some.list.now = sym c.in-Some.ensures.value in
    let changes = (c.get_mut.follows.holds c.reserve.new.self).3 (search here) in
    rewritten same_span_key items_of c.args.key q (get same_span_key c.begin.new.self.lists)
    (get same_span_key (c.get_mut.follows.lender c.reserve.new.self)) c.in-Some.list.now c.reserve.new.self same_keys here
    c.reserve.ensures.items changes.0
    ∙ c.begin.ensures.same q

pub returns-in_err-reserve-clause-covers : goal.returns-in_err-reserve-clause-covers
returns-in_err-reserve-clause-covers c = λ covers q le.
    let here : get same_span_key c.begin.new.self.lists c.args.key ≡ Some c.in-Some.list.now = sym c.in-Some.ensures.value in
    let changes = (c.get_mut.follows.holds c.reserve.new.self).3 (search here) in
    rewritten same_span_key items_of c.args.key q (get same_span_key c.begin.new.self.lists)
    (get same_span_key (c.get_mut.follows.lender c.reserve.new.self)) c.in-Some.list.now c.reserve.new.self same_keys here
    c.reserve.ensures.items changes.0
    ∙ c.begin.ensures.same q ∙ covers q (subst (λ last. up_to last ≤ q.cpu) c.begin.ensures.last le)

pub returns-in_ok-reserve-clause-covers : goal.returns-in_ok-reserve-clause-covers
returns-in_ok-reserve-clause-covers c = λ covers q le.
    let here : get same_span_key c.begin.new.self.lists c.args.key ≡ Some c.in-Some.list.now = sym c.in-Some.ensures.value in
    let changes = (c.get_mut.follows.holds c.reserve.new.self).3 (search here) in
    rewritten same_span_key items_of c.args.key q (get same_span_key c.begin.new.self.lists)
    (get same_span_key (c.get_mut.follows.lender c.reserve.new.self)) c.in-Some.list.now c.reserve.new.self same_keys here
    c.reserve.ensures.items changes.0
    ∙ c.begin.ensures.same q ∙ covers q (subst (λ last. up_to last ≤ q.cpu) c.begin.ensures.last le)
