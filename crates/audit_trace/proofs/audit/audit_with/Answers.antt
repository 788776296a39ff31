use Rattle.std.proofs.Common.{◌≡◌, ◌<◌, ◌≤◌, ◌^◌, ℕ, sym, subst, reverse, arith}
use Rattle.history_rules.specs.declared.rules.Rule.TheVariants as rules
use Rattle.history_rules.specs.Histories.{FailsFirst}
use Rattle.audit_trace.proofs.LoopLaws.{auditing, fault_at, no_at_end, taken_at, yes_at_end}
use Rattle.audit_trace.proofs.audit.audit_with.Goals as goal

short : {n count : ℕ} → count ≡ n → count < 2 ^ 63 → n < 2 ^ 63
short value few = omega (arith, value, few)

over : {n count i : ℕ} → count ≡ n → count ≤ i → n ≤ i
over value past = omega (arith, value, past)

pub loop-place-init : goal.loop-place-init
loop-place-init g c = c.requires

pub judge-requires : goal.judge-requires
judge-requires g c =
    auditing c.args.job.now c.loop-place.auditing c.args.entries.now c.loop-place.place c.loop-place.invariant
    (short c.count-count.ensures.value c.count-count.ensures.few)

pub returns-in-Some : goal.returns-in-Some
returns-in-Some g c =
    fault_at c.args.job.now c.loop-place.auditing c.args.entries.now c.loop-place.place c.loop-place.invariant _
    (short c.count-count.ensures.value c.count-count.ensures.few)
    (omega (arith, c.count-count.ensures.value, c.loop-place-test.true)) _ _ c.in_ok-rule.ensures c.in-Some.rule c.in-Some.is

pub loop-place-preserved : goal.loop-place-preserved
loop-place-preserved g c =
    taken_at c.args.job.now c.loop-place.auditing c.args.entries.now c.loop-place.place c.loop-place.invariant _
    (short c.count-count.ensures.value c.count-count.ensures.few)
    (omega (arith, c.count-count.ensures.value, c.loop-place-test.true)) _ _ c.in_ok-rule.ensures c.in_default.is

pub may_end-requires : goal.may_end-requires
may_end-requires g c =
    auditing c.args.job.now c.loop-place.auditing c.args.entries.now c.loop-place.place c.loop-place.invariant
    (short c.count-count.ensures.value c.count-count.ensures.few)

pub returns-then-may_end : goal.returns-then-may_end
returns-then-may_end g c =
    yes_at_end c.args.job.now c.loop-place.auditing c.args.entries.now c.loop-place.place c.loop-place.invariant
    (over c.count-count.ensures.value c.loop-place-test.false) (short c.count-count.ensures.value c.count-count.ensures.few)
    c.may_end.result
    c.may_end.ensures c.if-may_end.true

pub returns : goal.returns
returns g c =
    subst (λ n. FailsFirst c.args.job.now (reverse c.args.entries.now) n rules.Script) (sym c.count-count.ensures.value)
    (no_at_end c.args.job.now c.loop-place.auditing c.args.entries.now c.loop-place.place c.loop-place.invariant
    (over c.count-count.ensures.value c.loop-place-test.false) (short c.count-count.ensures.value c.count-count.ensures.few)
    c.may_end.result
    c.may_end.ensures c.if-may_end.false)
