use Rattle.std.proofs.Common.{◌≡◌, List, ◌∷◌, length}
use Rattle.sgx_rules.specs.declared.entries.Entry.{Entry}
use Rattle.sgx_types.specs.declared.names.Actor.{Actor}
use Rattle.sgx_rules.specs.declared.entries.Action.{Action}
use Rattle.sgx_rules.specs.inner.Rules.{LoadsAwayRule}
use Rattle.sgx_types.specs.Making.{Making}
use Rattle.sgx_machine.specs.declared.machine.Machine.TheInside.{Inside}
use Rattle.sgx_machine.specs.inner.Parts.{Parts, state_of}
use Rattle.machine_laws.specs.inner.Shape.{ShapeWithRules, FitsApart}
use Rattle.seal_record.specs.Records.{Made}
use Rattle.machine_laws.specs.inner.Columns.{HasAllVersions}
use Rattle.machine_laws.specs.inner.Histories.{StandsWithAllRules}
use Rattle.machine_laws.specs.inner.State.{State}
use Rattle.machine_laws.specs.inner.Steps.{IsStep, CanApply}
use Rattle.sgx_machine.specs.inner.Whole.{IsWhole, parts_of}
use Rattle.sgx_machine.proofs.ProcessorBridge.{pages_made}
use Rattle.machine_laws.proofs.FitLaws.{step_fits}
use Rattle.machine_laws.proofs.MakingLaws.{step_making}
use Rattle.machine_laws.proofs.ShapeSteps.{step_arrays, step_shaped}
use Rattle.machine_laws.proofs.WholeLaws.{step_all}
use Rattle.sgx_machine.proofs.machine.Machine.apply.Goals as goal

-- what every machine keeps is all that a step's laws ask
module _ (m : Inside) (now : Parts) (a : Actor) (action : Action) (e : Entry) (is : parts_of m ≡ now) (whole : IsWhole m)
    (can : CanApply (length now.cpus) a action) where
  fits : (m' : Inside) (next : Parts) → parts_of m' ≡ next → IsWhole m' → IsStep (state_of now) a action e (state_of next)
      → (made : Making) (past : List Entry) → ShapeWithRules made (state_of now) past
      → LoadsAwayRule past e → FitsApart made.frames past → FitsApart made.frames (e ∷ past)
  fits m' next is' whole' step made past h away k =
      step_fits (state_of now) (state_of next) made past (length now.cpus) a action e (rw (← is) whole.processors) can
      (rw (← is) whole.sound)
      (rw (← is) whole.guarded) (rw (← is) whole.framed) (rw (← is) (pages_made (parts_of m) whole.held.owned)) (rw (← is') whole'.guarded)
      step h away k

  arrays : (t : State) → IsStep (state_of now) a action e t → (made : Making) (past : List Entry) → ShapeWithRules made (state_of now) past
      → HasAllVersions (state_of now) past → HasAllVersions t (e ∷ past)
  arrays t step made past h all =
      step_arrays (state_of now) t made past (length now.cpus) a action e can (rw (← is) whole.sound) (rw (← is) whole.guarded) step h all

  shaped : (m' : Inside) (next : Parts) → parts_of m' ≡ next → IsWhole m' → IsStep (state_of now) a action e (state_of next)
      → (made : Making) (past : List Entry) → ShapeWithRules made (state_of now) past → ShapeWithRules made (state_of next) (e ∷ past)
  shaped m' next is' whole' step made past h =
      step_shaped (state_of now) (state_of next) made past (length now.cpus) a action e (rw (← is) whole.processors) can
      (rw (← is) whole.sound) (rw (← is) whole.guarded) (rw (← is') whole'.sound) (rw (← is') whole'.guarded) step h

  all : (m' : Inside) (next : Parts) → parts_of m' ≡ next → IsWhole m' → IsStep (state_of now) a action e (state_of next)
      → (made : Making) (past : List Entry) (records : List Made) → StandsWithAllRules made (state_of now) past records
      → StandsWithAllRules made (state_of next) (e ∷ past) records
  all m' next is' whole' step made past records h =
      step_all (state_of now) (state_of next) made past records (length now.cpus) a action e (rw (← is) whole.processors) can
      (rw (← is) whole.sound) (rw (← is) whole.guarded) (rw (← is) (pages_made (parts_of m) whole.held.owned))
      (rw (← is') whole'.sound) (rw (← is') whole'.guarded) step h

pub returns-clause-shape : goal.returns-clause-shape
returns-clause-shape c =
    shaped c.self.inside c.args.self.now c.args.actor c.args.action.now c.in_ok-entry.entry c.self.view_is c.self.invariant
    c.requires.can_apply
    c.self-2.inside c.row.new.self c.self-2.view_is c.self-2.invariant (c.in_ok-entry.ensures {u = tt}).step

pub returns-clause-fits : goal.returns-clause-fits
returns-clause-fits c =
    fits c.self.inside c.args.self.now c.args.actor c.args.action.now c.in_ok-entry.entry c.self.view_is c.self.invariant
    c.requires.can_apply
    c.self-2.inside c.row.new.self c.self-2.view_is c.self-2.invariant (c.in_ok-entry.ensures {u = tt}).step

pub returns-clause-arrays : goal.returns-clause-arrays
returns-clause-arrays c =
    arrays c.self.inside c.args.self.now c.args.actor c.args.action.now c.in_ok-entry.entry c.self.view_is c.self.invariant
    c.requires.can_apply (state_of c.row.new.self) (c.in_ok-entry.ensures {u = tt}).step

pub returns-clause-history : goal.returns-clause-history
returns-clause-history c =
    all c.self.inside c.args.self.now c.args.actor c.args.action.now c.in_ok-entry.entry c.self.view_is c.self.invariant
    c.requires.can_apply
    c.self-2.inside c.row.new.self c.self-2.view_is c.self-2.invariant (c.in_ok-entry.ensures {u = tt}).step

pub returns-clause-making : goal.returns-clause-making
returns-clause-making c =
    step_making (state_of c.args.self.now) (state_of c.row.new.self) c.args.actor c.args.action.now c.in_ok-entry.entry
    (c.in_ok-entry.ensures {u = tt}).step
