use Rattle.std.proofs.Common.{◌≡◌, Some, refl, sym}
use Rattle.std.specs.HashMap.{get}
use Rattle.trace_spans.specs.declared.span_lists.SpanKey.{SpanKey}
use Rattle.trace_spans.specs.inner.SpanLists.{same_span_key, ended}
use Rattle.trace_spans.proofs.MapLaws.{written}
use Rattle.trace_spans.proofs.SpanWrites.{same_keys, covers_ended}
use Rattle.trace_spans.specs.inner.Listed.{items_of}
use Rattle.trace_spans.proofs.span_lists.SpanLists.close_span.Goals as goal

pub returns-in-Some-clause-covers : goal.returns-in-Some-clause-covers
returns-in-Some-clause-covers c = λ covers.
    let here : get same_span_key c.args.self.now.lists c.args.key ≡ Some c.in-Some.list.now = sym c.in-Some.ensures.value in
    let changes = (c.get_mut.follows.holds c.end.new.list).3 (search here) in
    let was = get same_span_key c.args.self.now.lists in
    let is = get same_span_key (c.get_mut.follows.lender c.end.new.list) in
    covers_ended c.args.key c.args.place c.args.self.now.last c.args.self.now.last (λ (q : SpanKey). items_of (was q))
    (λ (q : SpanKey). items_of (is q)) refl
    (λ q.
    written same_span_key items_of (ended c.args.place) c.args.key q was is c.in-Some.list.now c.end.new.list same_keys here
    c.end.ensures changes.0)
    covers
