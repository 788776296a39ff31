use Rattle.std.proofs.Common.{◌≡◌, drop}
use Rattle.trace_spans.specs.declared.span_lists.SpanKey.{SpanKey}
use Rattle.trace_spans.specs.inner.SpanLists.{spans_in, all_ended, Covers}
use Rattle.trace_spans.proofs.span_lists.SpanLists.close_all.Given as goal

abbrev pub invariant-loop-number : goal.invariant-loop-number
invariant-loop-number l = record {
  spans : (q : SpanKey) → all_ended l.place l.cpu l.enclave (drop l.number-index l.numbers) q (spans_in l.self q)
      ≡ all_ended l.place l.cpu l.enclave l.numbers q (spans_in l.initial.self q);
  covers : Covers l.initial.self → Covers l.self;
}
