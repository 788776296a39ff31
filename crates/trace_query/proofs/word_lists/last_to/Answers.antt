use Rattle.std.proofs.Common.{ℕ, ◌-◌, nat_le, sym, arith, rules}
use Rattle.std.proofs.lemmas.List.Sorted.{IsPartitionedBy-leb, IsPartitionPoint-from_clause}
use Rattle.trace_query.specs.declared.word_lists.Change.{Change}
use Rattle.trace_spans.proofs.LastLaws.{none_up_to, some_up_to}
use Rattle.trace_query.proofs.word_lists.last_to.Goals as goal

abbrev none : Change
none = record { place = 0; value = 0 }

pub returns-then-count-eq0 : goal.returns-then-count-eq0
returns-then-count-eq0 c = λ rises.
    let list = c.args.list.now in
    let n : ℕ = c.args.n in
    let count : ℕ = c.partition_point-count.result in
    let parts = IsPartitionPoint-from_clause (λ (change : Change). nat_le change.place n) list count
    c.partition_point-count.ensures.partitioned (IsPartitionedBy-leb (λ (change : Change). change.place) list n rises)
    (λ a r f h. search rules) in
    sym (none_up_to (λ (change : Change). change.place) (λ (change : Change). change.value) c.args.first list n none
    (λ k h. parts.1 k none (omega (arith, c.if-count-eq0.true)) h))

pub returns : goal.returns
returns c = λ rises.
    let list = c.args.list.now in
    let n : ℕ = c.args.n in
    let count : ℕ = c.partition_point-count.result in
    let parts = IsPartitionPoint-from_clause (λ (change : Change). nat_le change.place n) list count
    c.partition_point-count.ensures.partitioned (IsPartitionedBy-leb (λ (change : Change). change.place) list n rises)
    (λ a r f h. search rules) in
    sym (some_up_to (λ (change : Change). change.place) (λ (change : Change). change.value) c.args.first list n (count - 1) none
    (omega (arith, c.partition_point-count.ensures.bound, c.if-count-eq0.false))
    (λ k h. parts.0 k none (omega arith) (omega (arith, h, c.if-count-eq0.false)))
    (λ k h l. parts.1 k none (omega (arith, h, c.if-count-eq0.false)) l))
