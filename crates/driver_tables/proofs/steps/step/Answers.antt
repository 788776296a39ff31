use Rattle.sgx_rules.specs.declared.entries.Action.{Action}
use Rattle.sgx_rules.specs.declared.entries.Action.TheVariants.{Epa}
use Rattle.machine_laws.specs.inner.State.{State}
use Rattle.machine_laws.specs.inner.Steps.{CanMove, MayNeedMemory}
use Rattle.sgx_machine.specs.inner.Parts.{state_of}
use Rattle.driver_tables.proofs.steps.step.Goals as goal

-- what takes no memory makes no version array page
none_made : (s : State) (action : Action) → (MayNeedMemory action → ⊥) → CanMove s action
none_made s (Epa f) sure = absurd (sure tt)
none_made s action sure = tt

pub apply-requires-clause-can_move : goal.apply-requires-clause-can_move
apply-requires-clause-can_move c = none_made (state_of c.args.machine.now) c.args.action c.requires.sure
