use Rattle.std.proofs.Common.{◌≡◌, ◌<◌, true, refl, sym, length}
use Rattle.sgx_machine.specs.inner.Whole.{parts_of}
use Rattle.sgx_machine.specs.inner.Parts.{state_of, cpu_at}
use Rattle.machine_laws.specs.inner.State.{with_acc}
use Rattle.sgx_machine.proofs.ProcessorBridge.{cpu_there}
use Rattle.sgx_machine.proofs.AccessBridge.{inside_only, acc_leaves}
use Rattle.sgx_machine.proofs.WholeMachines.{whole, done_step}
use Rattle.cached_translations.specs.inner.Modes.{is_inside}
use Rattle.sgx_machine.proofs.machine.Machine.set.Goals as goal

pub invariant_of-self : goal.invariant_of-self
invariant_of-self c =
    let m = c.self.inside in
    let d = parts_of m in
    let h = c.self.invariant in
    let p = c.args.cpu.0 in
    let v = c.index_mut-processor.result.now in
    let low : p < length d.cpus = rw (← c.self.view_is) at c.requires in
    let there : v ≡ cpu_at d p = cpu_there d p v low (rw c.from.ensures at c.index_mut-processor.ensures.value) in
    rw c.from.ensures (whole _ (with_acc (state_of d) p c.args.value) (acc_leaves m h p c.args.value v _ low there refl))

pub returns-clause-step : goal.returns-clause-step
returns-clause-step c =
    let m = c.self.inside in
    let d = parts_of m in
    let h = c.self.invariant in
    let p = c.args.cpu.0 in
    let v = c.index_mut-processor.result.now in
    let low : p < length d.cpus = rw (← c.self.view_is) at c.requires in
    let there : v ≡ cpu_at d p = cpu_there d p v low (rw c.from.ensures at c.index_mut-processor.ensures.value) in
    let left = acc_leaves m h p c.args.value v _ low there refl in
    let inside : is_inside (cpu_at d p).mode ≡ true =
    rw (c.mode.ensures, ← c.self.view_is) at (sym (c.if-not-is_inside.ensures {u = tt})) in
    rw (c.from.ensures, ← c.self.view_is) (done_step _ _ _ (inside_only (cpu_at d p).mode inside) (c.done.ensures, left.state))
