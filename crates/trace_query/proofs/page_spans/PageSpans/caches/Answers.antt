use Rattle.std.proofs.Common.{List, sym, ap, subst, ◌∙◌}
use Rattle.trace_spans.specs.declared.span_lists.Span.{Span}
use Rattle.trace_spans.specs.inner.SpanLists.{span_key, cached_at, SpansRise}
use Rattle.trace_query.proofs.SpanPlaces.{spans_rise, cached_before}
use Rattle.trace_query.proofs.page_spans.PageSpans.caches.Goals as goal

pub returns : goal.returns
returns c = λ past f.
    let AreRising : List Span → Type 0 = SpansRise in
    let q = span_key c.args.cpu c.args.page.enclave c.args.page.number in
    c.at.ensures (subst AreRising (sym (f.lists q)) (spans_rise past q))
    ∙ ap (λ spans. cached_at spans c.args.n) (f.lists q)
    ∙ cached_before past q c.args.n
