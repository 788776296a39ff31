use Rattle.std.proofs.Common.{sym, ◌∙◌}
use Rattle.std.specs.HashMap.{get}
use Rattle.trace_spans.specs.inner.SpanLists.{same_span_key}
use Rattle.trace_spans.proofs.MapLaws.{begun}
use Rattle.trace_spans.proofs.SpanWrites.{same_keys}
use Rattle.trace_spans.specs.inner.Listed.{items_of}
use Rattle.trace_spans.proofs.span_lists.SpanLists.begin.Goals as goal

pub returns-in_ok-insert-clause-same : goal.returns-in_ok-insert-clause-same
returns-in_ok-insert-clause-same c = λ q.
    begun same_span_key items_of c.args.key q (get same_span_key c.args.self.now.lists)
    (get same_span_key c.insert.new.self) c.new.result same_keys
    (sym c.contains_key.ensures ∙ c.if-not-contains_key.true) c.new.ensures.items c.in_ok-insert.ensures.updates.0
