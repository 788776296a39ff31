use Rattle.std.proofs.Common.{get_or, subst, arith}
use Rattle.std.proofs.lemmas.Bool.{MatchBool-at_true}
use Rattle.sgx_types.specs.declared.names.Page.{Page}
use Rattle.least_reloads.specs.Plans.{StepView, IsStep, held_behind}
use Rattle.least_reloads.specs.inner.Sets.{AreOf}
use Rattle.least_reloads.proofs.RunLaws.{run_none, run_more}
use Rattle.least_reloads.proofs.lawful.is_run.Goals as goal

pub loop-i-init : goal.loop-i-init
loop-i-init c = run_none c.args.frames c.args.accesses.now c.args.steps.now c.new-held.result c.new-held.ensures

pub loop-i-preserved : goal.loop-i-preserved
loop-i-preserved c =
    let so_far = c.loop-i.invariant in
    let none : Page = record { enclave = 0; number = 0 } in
    let Done : StepView → Type 0 = λ step.
    IsStep c.args.frames so_far.pages (get_or c.args.accesses.now c.loop-i.i none) step × AreOf c.serves.new.held
    (held_behind so_far.pages step) in
    let done = subst Done c.index-steps-i.is
    (MatchBool-at_true _ _ c.if-not-branch.false (c.in_ok-serves.ensures so_far.pages so_far.of)) in
    run_more c.args.frames c.args.accesses.now c.args.steps.now c.loop-i.held c.serves.new.held c.loop-i.i none c.index-steps-i.result
    (omega (arith, c.requires, c.loop-i-test.true)) c.loop-i-test.true so_far done.0 done.1
