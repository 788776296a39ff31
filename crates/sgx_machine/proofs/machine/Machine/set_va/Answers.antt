use Rattle.std.proofs.Common.{refl}
use Rattle.sgx_machine.specs.inner.Whole.{parts_of}
use Rattle.sgx_machine.specs.inner.Parts.{state_of}
use Rattle.machine_laws.specs.inner.State.{after_epa}
use Rattle.sgx_machine.proofs.BuildBridge.{takes-epa}
use Rattle.sgx_machine.proofs.BuildSteps.{epa_leaves}
use Rattle.sgx_machine.proofs.WholeMachines.{whole}
use Rattle.sgx_machine.proofs.machine.Machine.set_va.Goals as goal

pub invariant_of-self : goal.invariant_of-self
invariant_of-self c = rw (c.in_err-epa.ensures {u = tt}).refused c.self.invariant

pub invariant_of-self-2 : goal.invariant_of-self-2
invariant_of-self-2 c =
    let m = c.self.inside in
    let f = c.args.frame.0 in
    let k = takes-epa (parts_of m) f (rw (← c.self.view_is) at c.requires.row) in
    whole _ (after_epa (state_of (parts_of m)) f)
    (epa_leaves m c.self.invariant f _ _ c.set.new.self c.epa.new.self k c.made-made.ensures.value refl c.set.ensures
    (c.in_ok-epa.ensures {u = tt}).done)

pub returns-clause-done : goal.returns-clause-done
returns-clause-done c =
    let m = c.self.inside in
    let f = c.args.frame.0 in
    let k = takes-epa (parts_of m) f (rw (← c.self.view_is) at c.requires.row) in
    let left = epa_leaves m c.self.invariant f _ _ c.set.new.self c.epa.new.self k c.made-made.ensures.value refl c.set.ensures
    (c.in_ok-epa.ensures {u = tt}).done in
    rw (← c.self.view_is) left.state
