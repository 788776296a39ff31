-- What is kept of the caches is that of one entry more.
use Rattle.std.proofs.Common.{◌≡◌, ◌+◌, List, ◌∷◌, length, Option, sym, ap, ◌∙◌, subst, arith}
use Rattle.sgx_rules.specs.declared.entries.Entry.{Entry}
use Rattle.trace_query.specs.declared.steps.Step.{Step}
use Rattle.trace_query.specs.declared.page_spans.PageSpans.{PageSpans}
use Rattle.trace_spans.specs.inner.SpanLists.{spans_in, Covers}
use Rattle.trace_spans.specs.declared.span_lists.SpanLists.{SpanLists}
use Rattle.trace_query.specs.inner.Sights.{sight, sight_in, sight_after, step_by}
use Rattle.trace_query.specs.inner.Seen.{SpansFollow, SpansMake, SpansStay, spans_after}
use Rattle.trace_query.proofs.SpanLaws.{sight_more, spans_more}

pub follows_more : (old mid new : PageSpans) (e : Entry) (past : List Entry) (step : Option Step) → SpansFollow old past
    → step ≡ step_by e.actor e.event → mid.processors ≡ old.processors → mid.lists ≡ old.lists → mid.len ≡ old.len + 1
    → SpansMake mid step new → SpansFollow new (e ∷ past)
follows_more old mid new e past step f is processors lists len makes =
    let place : mid.len ≡ length past + 1 = omega (arith, len, f.len) in
    let seen : sight_in mid.processors ≡ sight past = ap sight_in processors ∙ (λ i p. f.sights p i) in
    record {
      sights = λ p.
          makes.sights p
          ∙ ap (λ k. sight_after step p (sight_in k p)) processors
          ∙ ap (sight_after step p) (f.sights p)
          ∙ ap (λ s. sight_after s p (sight past p)) is
          ∙ sym (sight_more e past p);
      lists = λ q.
          makes.lists q
          ∙ ap (λ s. spans_after s mid.len (sight_in mid.processors) q (spans_in mid.lists q)) is
          ∙ ap (λ b. spans_after (step_by e.actor e.event) b (sight_in mid.processors) q (spans_in mid.lists q)) place
          ∙ ap (λ s. spans_after (step_by e.actor e.event) (length past + 1) s q (spans_in mid.lists q)) seen
          ∙ ap (spans_after (step_by e.actor e.event) (length past + 1) (sight past) q) (ap (λ k. spans_in k q) lists ∙ f.lists q)
          ∙ spans_more e past q;
      covers = makes.covers (subst (λ (k : SpanLists). Covers k) (sym lists) f.covers);
      len = omega (arith, makes.len, len, f.len);
    }

pub follows_kept : (old new : PageSpans) (past : List Entry) → SpansStay old new → SpansFollow old past → SpansFollow new past
follows_kept old new past keeps f = record {
  sights = λ p. keeps.sights p ∙ f.sights p;
  lists = λ q. keeps.lists q ∙ f.lists q;
  covers = keeps.covers f.covers;
  len = keeps.len ∙ f.len;
}
