use Rattle.sgx_rules.specs.declared.entries.Action.TheVariants.{EwbStart}
use Rattle.sgx_machine.specs.inner.Parts.{state_of}
use Rattle.driver_reclaim.proofs.TriedLaws.{step_calm}
use Rattle.driver_reclaim.proofs.passes.try_page.Goals as goal

pub made-requires : goal.made-requires
made-requires c = record {
  calm = step_calm (state_of c.args.machine.now) (state_of c.try_out.new.machine)
      (EwbStart c.args.one.frame c.in-Some.ensures.tried.at) c.in-Some.entry c.in-Some.ensures.tried.step;
}
