use Rattle.std.proofs.Common.{ℕ, ◌-◌, ◌<◌, nat_le, false, None, length, sym, ◌∙◌, arith, rules}
use Rattle.std.proofs.lemmas.List.Sorted.{IsPartitionedBy-leb, IsPartitionPoint-from_clause}
use Rattle.trace_spans.specs.declared.span_lists.Span.{Span}
use Rattle.trace_spans.specs.inner.SpanLists.{is_before}
use Rattle.trace_spans.proofs.LastLaws.{none_up_to, some_up_to}
use Rattle.trace_spans.proofs.span_lists.is_cached.Goals as goal

abbrev none : Span
none = record { from = 0; to = None }

pub returns-then-count-eq0 : goal.returns-then-count-eq0
returns-then-count-eq0 c = λ rises.
    let list = c.args.list.now in
    let n : ℕ = c.args.n in
    let count : ℕ = c.partition_point-count.result in
    let parts = IsPartitionPoint-from_clause (λ (span : Span). nat_le span.from n) list count c.partition_point-count.ensures.partitioned
    (IsPartitionedBy-leb (λ (span : Span). span.from) list n rises) (λ a r f h. search rules) in
    sym (none_up_to (λ (span : Span). span.from) (λ (span : Span). is_before n span.to) false list n none
    (λ k h. parts.1 k none (omega (arith, c.if-count-eq0.true)) h))

pub returns : goal.returns
returns c = λ rises.
    let list = c.args.list.now in
    let n : ℕ = c.args.n in
    let count : ℕ = c.partition_point-count.result in
    let within : count - 1 < length list = omega (arith, c.partition_point-count.ensures.bound, c.if-count-eq0.false) in
    let parts = IsPartitionPoint-from_clause (λ (span : Span). nat_le span.from n) list count c.partition_point-count.ensures.partitioned
    (IsPartitionedBy-leb (λ (span : Span). span.from) list n rises) (λ a r f h. search rules) in
    c.is_before.ensures
    ∙ sym (some_up_to (λ (span : Span). span.from) (λ (span : Span). is_before n span.to) false list n (count - 1) none within
    (λ k h. parts.0 k none (omega arith) (omega (arith, h, c.if-count-eq0.false)))
    (λ k h l. parts.1 k none (omega (arith, h, c.if-count-eq0.false)) l))
