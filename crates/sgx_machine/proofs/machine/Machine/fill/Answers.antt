use Rattle.std.proofs.Common.{◌≡◌, ◌<◌, ◌∙◌, sym, ap, length}
use Rattle.sgx_machine.specs.inner.Whole.{parts_of}
use Rattle.sgx_machine.specs.inner.Parts.{state_of, cpu_at}
use Rattle.sgx_machine.proofs.ProcessorBridge.{cpu_there}
use Rattle.sgx_machine.proofs.AccessBridge.{fill_row_at, fill_leaves}
use Rattle.sgx_machine.proofs.WholeMachines.{whole, whole_same, cpus_same, done_step, refused_step}
use Rattle.sgx_machine.proofs.machine.Machine.fill.Goals.{in-Ok, in-Err}
use Rattle.sgx_machine.proofs.machine.Machine.fill.Goals as goal

pub invariant_of-self : goal.invariant_of-self
invariant_of-self c =
    let m = c.self.inside in
    let d = parts_of m in
    let h = c.self.invariant in
    let p = c.args.cpu.0 in
    let v = c.index_mut-processor.result.now in
    let low : p < length d.cpus = rw (← c.self.view_is) at c.requires in
    let there : v ≡ cpu_at d p = cpu_there d p v low (rw c.from.ensures at c.index_mut-processor.ensures.value) in
    elim c.match-fill.branch [
      | in-Ok w ↦ (let left = fill_leaves m h p c.args.number c.args.frame v c.fill.new.cpu low there w.in-Ok.ensures.row
          w.in-Ok.ensures.done in rw c.from.ensures (whole _ _ left))
      | in-Err w ↦ rw c.from.ensures (whole_same m _ (cpus_same d p v c.fill.new.cpu there w.in-Err.ensures.refused) h)
    ]

pub returns-clause-step : goal.returns-clause-step
returns-clause-step c =
    let m = c.self.inside in
    let d = parts_of m in
    let h = c.self.invariant in
    let p = c.args.cpu.0 in
    let v = c.index_mut-processor.result.now in
    let low : p < length d.cpus = rw (← c.self.view_is) at c.requires in
    let there : v ≡ cpu_at d p = cpu_there d p v low (rw c.from.ensures at c.index_mut-processor.ensures.value) in
    let row = fill_row_at d p c.args.number c.args.frame v there in
    elim c.match-fill.branch [
      | in-Ok w ↦
          (let left = fill_leaves m h p c.args.number c.args.frame v c.fill.new.cpu low there w.in-Ok.ensures.row w.in-Ok.ensures.done in
          rw (c.from.ensures, ← c.self.view_is) (done_step _ _ _ (row ∙ sym w.in-Ok.ensures.row)
          (w.result-is ∙ w.done.ensures, left.state)))
      | in-Err w ↦
          rw (c.from.ensures, ← c.self.view_is) (refused_step _ _ _ _ (row ∙ sym w.in-Err.ensures.row)
          (w.result-is ∙ w.refused.ensures, ap state_of (cpus_same d p v c.fill.new.cpu there w.in-Err.ensures.refused)))
    ]
