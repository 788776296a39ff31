use Rattle.sgx_rules.specs.declared.entries.Action.TheVariants.{EwbStart}
use Rattle.sgx_machine.specs.inner.Parts.{state_of}
use Rattle.driver_reclaim.proofs.TriedLaws.{step_calm}
use Rattle.driver_reclaim.proofs.passes.go_aside.Goals as goal

pub made-requires : goal.made-requires
made-requires c = record {
  calm = step_calm (state_of c.args.machine.now) (state_of c.start_aside-entry.new.machine)
      (EwbStart c.args.one.frame c.start_aside-entry.ensures.started.at) c.start_aside-entry.result
      c.start_aside-entry.ensures.started.step;
}
