use Rattle.std.proofs.Common.{◌+◌, drop, sym, ap, ◌∙◌}
use Rattle.std.proofs.lemmas.List.{drop_more}
use Rattle.trace_spans.specs.inner.SpanLists.{spans_in, all_ended}
use Rattle.trace_spans.proofs.span_lists.SpanLists.close_all.Goals as goal

pub loop-number-preserved : goal.loop-number-preserved
loop-number-preserved c =
    let numbers = c.args.numbers.now in
    let i = c.loop-number.number-index in
    record {
      spans = λ q.
          ap (all_ended c.args.place c.args.cpu c.args.enclave (drop (i + 1) numbers) q) (c.close_span.ensures.spans q)
          ∙ ap (λ ns. all_ended c.args.place c.args.cpu c.args.enclave ns q (spans_in c.loop-number.self q))
          (sym (drop_more numbers i 0 c.loop-number-test.true))
          ∙ c.loop-number.invariant.spans q;
      covers = λ covers. c.close_span.ensures.covers (c.loop-number.invariant.covers covers);
    }
