use Rattle.std.proofs.Common.{ap, sym, ◌∙◌}
use Rattle.driver_tables.specs.inner.Targets.{slot_here_in}
use Rattle.driver_reclaim.proofs.tries.start_aside.Goals as goal

pub returns-clause-started : goal.returns-clause-started
returns-clause-started c = record {
  at = c.in-Some.at;
  named = ap (slot_here_in c.args.driver.now) (sym c.fixed.ensures) ∙ sym c.slot_here.ensures ∙ c.in-Some.is;
  step = c.step.ensures.step;
}
