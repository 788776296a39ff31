use Rattle.std.proofs.Common.{◌≤◌, ◌+◌, ◌%◌, arith}
use Rattle.std.proofs.lemmas.List.Sorted.{IsPermutation-refl, IsPermutation-trans, IsPermutation-swap}
use Rattle.cached_translations.proofs.ProbeRemove.{free_ahead, closed, stays, beyond, moves, free_still}
use Rattle.cached_translations.proofs.probe_table.close_gap.Goals as goal
use Rattle.cached_translations.proofs.probe_table.close_gap.Goals.{then-steps_to-step, else-steps_to-step}

pub loop-step-init : goal.loop-step-init
loop-step-init c = record {
  gapped = c.requires.gapped;
  before = omega arith;
  ahead = free_ahead c.args.slots.now c.args.from c.requires.place c.requires.gapped c.requires.room;
  same = IsPermutation-refl c.args.slots.now;
}

-- the next place is free
pub returns-in_default-clause-probed : goal.returns-in_default-clause-probed
returns-in_default-clause-probed c =
    let loop = c.loop-step in
    closed loop.slots c.args.from loop.filled loop.step loop.invariant.gapped loop.invariant.before (omega arith) c.in_default.is

-- a page stands there, and moves or stays
pub loop-step-preserved : goal.loop-step-preserved
loop-step-preserved c =
    let loop = c.loop-step in
    let from = c.args.from in
    let kept = loop.invariant in
    let steps = c.steps_to in
    let past = beyond loop.slots from loop.filled loop.step kept.gapped kept.before (omega arith) c.in-Some.slot c.in-Some.is steps.result
    steps.ensures.within steps.ensures.there
    kept.ahead.0 kept.ahead.1 kept.ahead.3 in
    elim c.if-steps_to-step.branch [
      | then-steps_to-step w ↦
          rw (w.slots-is, w.filled-is) (
          let long : loop.step ≤ steps.result + loop.filled = omega (arith, w.if-steps_to-step.true) in
          record {
            gapped = moves loop.slots from loop.filled loop.step kept.gapped kept.before (omega arith) c.in-Some.slot c.in-Some.is
                steps.result steps.ensures.within steps.ensures.there
                long w.swap.new.self w.swap.ensures.after;
            before = omega arith;
            ahead = (
              kept.ahead.0,
              past,
              kept.ahead.2,
              free_still loop.slots from loop.filled loop.step kept.gapped kept.before (omega arith) c.in-Some.slot c.in-Some.is
                  steps.result steps.ensures.within steps.ensures.there
                  long w.swap.new.self w.swap.ensures.after kept.ahead.0 kept.ahead.1 kept.ahead.2 kept.ahead.3,
            );
            same = IsPermutation-trans c.args.slots.now loop.slots w.swap.new.self kept.same
                (IsPermutation-swap loop.slots w.swap.new.self ((from + loop.filled) % 128) ((from + loop.step) % 128)
                (omega (arith, kept.gapped.whole)) (omega (arith, kept.gapped.whole)) w.swap.ensures.after);
          }
          )
      | else-steps_to-step w ↦
          rw (w.slots-is, w.filled-is) (record {
            gapped = stays loop.slots from loop.filled loop.step kept.gapped kept.before (omega arith) c.in-Some.slot c.in-Some.is
                steps.result steps.ensures.within steps.ensures.there
                (omega (arith, w.if-steps_to-step.false));
            before = omega arith;
            ahead = (kept.ahead.0, past, kept.ahead.2, kept.ahead.3);
            same = kept.same;
          })
    ]
