use Rattle.std.proofs.Common.{◌≡◌, ◌+◌, None, not, arith, ap, ◌∙◌}
use Rattle.cached_translations.specs.inner.Probe.{slot_at}
use Rattle.cached_translations.proofs.ProbeLaws.{none_from_test}
use Rattle.cached_translations.proofs.ProbeSweep.{sweep_none, sweep_more, fewer_more, swept_probed, swept_gone}
use Rattle.cached_translations.proofs.probe_table.sweep.Goals as goal

pub loop-step-init : goal.loop-step-init
loop-step-init c = record { swept = sweep_none c.args.slots.now c.args.number c.requires; fewer = λ n place leads. leads }

pub loop-step-preserved : goal.loop-step-preserved
loop-step-preserved c =
    let loop = c.loop-step in
    record {
      swept = sweep_more loop.slots c.args.number loop.step loop.invariant.swept c.loop-step-test.true;
      fewer =
          λ m q leads. loop.invariant.fewer m q (fewer_more loop.slots c.args.number loop.step loop.invariant.swept c.loop-step-test.true m
          q leads);
    }

-- up to a free place
pub returns-then-is_none-clause-probed : goal.returns-then-is_none-clause-probed
returns-then-is_none-clause-probed c =
    let free : slot_at c.loop-step.slots (c.args.number + c.loop-step.step) ≡ None =
    none_from_test _ (c.is_none.ensures ∙ ap not c.if-is_none.true) in
    swept_probed c.loop-step.slots c.args.number c.loop-step.step c.loop-step.invariant.swept (omega arith) (λ few. free)

pub returns-then-is_none-clause-gone : goal.returns-then-is_none-clause-gone
returns-then-is_none-clause-gone c =
    let free : slot_at c.loop-step.slots (c.args.number + c.loop-step.step) ≡ None =
    none_from_test _ (c.is_none.ensures ∙ ap not c.if-is_none.true) in
    swept_gone c.loop-step.slots c.args.number c.loop-step.step c.loop-step.invariant.swept (omega arith) (λ few. free)

-- all around
pub returns-clause-probed : goal.returns-clause-probed
returns-clause-probed c =
    swept_probed c.loop-step.slots c.args.number c.loop-step.step c.loop-step.invariant.swept (omega arith) (λ few. absurd (omega arith))

pub returns-clause-gone : goal.returns-clause-gone
returns-clause-gone c =
    swept_gone c.loop-step.slots c.args.number c.loop-step.step c.loop-step.invariant.swept (omega arith) (λ few. absurd (omega arith))
