use Rattle.std.proofs.Common.{sym, subst}
use Rattle.sgx_rules.specs.declared.entries.Action.{Action}
use Rattle.machine_laws.specs.inner.Steps.{IsStep}
use Rattle.sgx_machine.specs.inner.Parts.{state_of}
use Rattle.sgx_machine.proofs.machine.Machine.row.Goals as goal

pub returns-in_default-EwbStart-clause-step : goal.returns-in_default-EwbStart-clause-step
returns-in_default-EwbStart-clause-step c =
    subst (λ (action : Action). IsStep (state_of c.args.self.now) c.args.actor action c.ewb_start-entry.result
    (state_of c.ewb_start-entry.new.self))
    (sym c.in_default-EwbStart.is-1) c.ewb_start-entry.ensures.step
