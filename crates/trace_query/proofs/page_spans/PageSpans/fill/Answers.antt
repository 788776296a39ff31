use Rattle.std.proofs.Common.{sym, ap, ◌∙◌}
use Rattle.trace_query.specs.inner.Sights.{sight_in}
use Rattle.trace_spans.specs.inner.SpanLists.{spans_in}
use Rattle.trace_query.specs.inner.Seen.{ended_if, spans_filled}
use Rattle.trace_query.proofs.page_spans.PageSpans.fill.Goals as goal

pub returns-in-Some : goal.returns-in-Some
returns-in-Some c =
    let old = c.args.self.now in
    let opens = c.open_span.ensures in
    let closes = c.close_dropped.ensures in
    let filled = c.in-Some.filled in
    record {
      sights = λ p. ap (λ known. sight_in known p) closes.processors ∙ c.fill.ensures.sights p;
      lists = λ q.
          closes.lists q
          ∙ ap (ended_if filled.dropped old.len c.args.cpu filled.enclave q) (opens.spans q)
          ∙ ap (λ o. spans_filled o old.len c.args.cpu c.args.number q (spans_in old.lists q)) (sym c.in-Some.is ∙ c.fill.ensures.change);
      covers = λ h. closes.covers (opens.covers h);
      len = closes.len;
    }
