use Rattle.std.proofs.Common.{◌≡◌, ◌∙◌, arith}
use Rattle.trace_spans.specs.inner.SpanLists.{up_to}
use Rattle.trace_query.proofs.SpanPlaces.{none_beyond}
use Rattle.trace_query.proofs.page_spans.PageSpans.who_caches.Goals as goal

pub returns : goal.returns
returns c = λ past f.
    let all : c.loop-number.number ≡ up_to c.args.self.now.lists.last = omega (arith, c.loop-number-test.false) in
    c.loop-number.invariant past f
    ∙ none_beyond c.args.self.now past c.args.n c.args.page c.loop-number.number f all (omega (arith, all, c.loop-number.auto.number-end))
