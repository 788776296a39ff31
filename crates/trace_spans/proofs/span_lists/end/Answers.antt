use Rattle.std.proofs.Common.{◌≡◌, ℕ, ◌+◌, ◌-◌, ◌<◌, length, get_or, set, Some, subst, is_some, not, sym, ap, ◌∙◌, arith}
use Rattle.std.proofs.lemmas.List.{get_or_read}
use Rattle.trace_spans.specs.declared.span_lists.Span.{Span}
use Rattle.trace_spans.specs.inner.SpanLists.{ended}
use Rattle.trace_spans.proofs.SpanWrites.{set_ended, same_ended, none_ended}
use Rattle.trace_spans.proofs.span_lists.end.Goals as goal
use Rattle.trace_spans.proofs.span_lists.end.Goals.{else-count-gt0-via-then-count-gt0+else-is_none, else-count-gt0-via-else-count-gt0}

pub returns-then-is_none : goal.returns-then-is_none
returns-then-is_none c =
    let list = c.args.list.now.items in
    let at : ℕ = c.len-count.result - 1 in
    let within : at < length list = omega (arith, c.if-count-gt0.true, c.len-count.ensures, c.args.list.now.ok.0) in
    let last : at + 1 ≡ length list = omega (arith, c.if-count-gt0.true, c.len-count.ensures, c.args.list.now.ok.0) in
    let d = c.index_mut.result.now in
    let reads : get_or list at d ≡ c.index_mut.result.now = sym (get_or_read list at _ within c.index_mut.ensures.value d) in
    let same : get_or list at d ≡ c.index.result.now = sym (get_or_read list at _ within c.index.ensures d) in
    let IsSet : Span → Type 0 = λ s. set list at (record { from = s.from; to = Some c.args.place }) ≡ ended c.args.place list in
    subst IsSet reads
    (set_ended c.args.place list at d last
    (ap (λ (s : Span). is_some s.to) same ∙ c.is_none.ensures ∙ ap not c.if-is_none.true))

pub returns-else-count-gt0 : goal.returns-else-count-gt0
returns-else-count-gt0 c =
    let list = c.args.list.now.items in
    elim c.else-count-gt0.branch [
      | else-count-gt0-via-then-count-gt0+else-is_none w ↦
          let at : ℕ = c.len-count.result - 1 in
          let within : at < length list = omega (arith, w.if-count-gt0.true, c.len-count.ensures, c.args.list.now.ok.0) in
          same_ended c.args.place list at w.index.result.now
          (omega (arith, w.if-count-gt0.true, c.len-count.ensures, c.args.list.now.ok.0))
          (ap (λ (s : Span). is_some s.to) (sym (get_or_read list at _ within w.index.ensures w.index.result.now))
          ∙ w.is_none.ensures ∙ ap not w.if-is_none.false)
      | else-count-gt0-via-else-count-gt0 w ↦
          none_ended c.args.place list (omega (arith, w.if-count-gt0.false, c.len-count.ensures, c.args.list.now.ok.0))
    ]
