use Rattle.std.proofs.Common.{◌≡◌, ◌≤◌, ◌∙◌, ℕ, arith}
use Rattle.audit_check.proofs.PlaceLaws.{can_check, fault_at, kept_throughout, named_at, taken_at}
use Rattle.audit_check.proofs.checking.check_with.Goals as goal

over : {n count i : ℕ} → count ≡ n → count ≤ i → n ≤ i
over value past = omega (arith, value, past)

pub loop-place-init : goal.loop-place-init
loop-place-init g c = (c.requires.cpus, c.requires.checked)

pub ask_any-requires-clause-can : goal.ask_any-requires-clause-can
ask_any-requires-clause-can g c =
    can_check c.args.job.now 16 c.loop-place.machine _ c.args.entries.now c.loop-place.place c.loop-place.invariant.1

pub returns-in-Some-clause-verdict : goal.returns-in-Some-clause-verdict
returns-in-Some-clause-verdict g c =
    fault_at c.args.job.now 16 c.loop-place.machine _ c.args.entries.now c.loop-place.place c.loop-place.invariant.1 _
    (omega (arith, c.count-count.ensures.value, c.loop-place-test.true)) _ _ _ c.in_ok-rule.ensures.answer c.in-Some.rule c.in-Some.is

pub loop-place-preserved : goal.loop-place-preserved
loop-place-preserved g c = (
  c.in_ok-rule.ensures.cpus ∙ c.loop-place.invariant.0,
  taken_at c.args.job.now 16 c.loop-place.machine _ c.args.entries.now c.loop-place.place c.loop-place.invariant.1 _
      (omega (arith, c.count-count.ensures.value, c.loop-place-test.true)) _ _ _ c.in_ok-rule.ensures.answer c.in_default.is,
)

pub returns-clause-verdict : goal.returns-clause-verdict
returns-clause-verdict g c =
    kept_throughout c.args.job.now 16 c.loop-place.machine _ c.args.entries.now c.loop-place.place c.loop-place.invariant.1
    (over c.count-count.ensures.value c.loop-place-test.false)

pub returns-in-Some-clause-named : goal.returns-in-Some-clause-named
returns-in-Some-clause-named g c =
    named_at c.args.job.now 16 c.loop-place.machine _ c.args.entries.now c.loop-place.place c.loop-place.invariant.1 _
    (omega (arith, c.count-count.ensures.value, c.loop-place-test.true)) _ _ _ c.in_ok-rule.ensures.answer c.in-Some.rule c.in-Some.is
