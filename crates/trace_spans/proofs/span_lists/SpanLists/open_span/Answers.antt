use Rattle.std.proofs.Common.{◌≡◌, Some, sym}
use Rattle.std.specs.HashMap.{get}
use Rattle.trace_spans.specs.declared.span_lists.SpanKey.{SpanKey}
use Rattle.trace_spans.specs.inner.SpanLists.{same_span_key, begun}
use Rattle.trace_spans.proofs.MapLaws.{written}
use Rattle.trace_spans.proofs.SpanWrites.{same_keys, covers_begun}
use Rattle.trace_spans.specs.inner.Listed.{items_of}
use Rattle.trace_spans.proofs.span_lists.SpanLists.open_span.Goals as goal

pub returns-in-Some-clause-covers : goal.returns-in-Some-clause-covers
returns-in-Some-clause-covers c = λ covers.
    let here : get same_span_key c.args.self.now.lists c.args.key ≡ Some c.in-Some.list.now = sym c.in-Some.ensures.value in
    let changes = (c.get_mut.follows.holds c.add.new.list).3 (search here) in
    let was = get same_span_key c.args.self.now.lists in
    let is = get same_span_key (c.get_mut.follows.lender c.add.new.list) in
    covers_begun c.args.key c.args.place c.args.self.now.last c.greatest-self.result (λ (q : SpanKey). items_of (was q))
    (λ (q : SpanKey). items_of (is q)) c.greatest-self.ensures
    (λ q.
    written same_span_key items_of (begun c.args.place) c.args.key q was is c.in-Some.list.now c.add.new.list same_keys here
    c.add.ensures changes.0)
    covers
