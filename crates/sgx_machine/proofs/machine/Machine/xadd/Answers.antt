use Rattle.std.proofs.Common.{◌≡◌, ◌<◌, ◌∙◌, Some, None, sym, ap, length}
use Rattle.sgx_machine.specs.inner.Whole.{parts_of}
use Rattle.sgx_machine.specs.inner.Parts.{state_of, cpu_at}
use Rattle.machine_laws.specs.inner.State.{row_of, word_at, after_xadd}
use Rattle.sgx_machine.proofs.ProcessorBridge.{cpu_there}
use Rattle.sgx_machine.proofs.AccessBridge.{access_row_at, through, store_leaves, word_seen}
use Rattle.sgx_machine.proofs.WholeMachines.{whole, whole_same, done_step, refused_step, by_view}
use Rattle.sgx_types.specs.declared.names.Actor.TheVariants as actors
use Rattle.sgx_rules.specs.declared.entries.Action.TheVariants.{Xadd}
use Rattle.sgx_rules.specs.Flat.{sum_of}
use Rattle.enclave_access.specs.inner.Access.{with_stored}
use Rattle.sgx_rules.specs.declared.entries.Answer.TheVariants.{Value}
use Rattle.machine_laws.specs.inner.Steps.{did_by}
use Rattle.sgx_types.specs.Cases.{first_of_row}
use Rattle.sgx_rules.specs.Table.{allows_update}
use Rattle.sgx_machine.proofs.machine.Machine.xadd.Goals.{in-Ok, in-Err}
use Rattle.sgx_machine.proofs.machine.Machine.xadd.Goals as goal

pub invariant_of-self : goal.invariant_of-self
invariant_of-self c =
    let m = c.self.inside in
    let d = parts_of m in
    let h = c.self.invariant in
    let p = c.args.cpu.0 in
    let v = c.index-processor.result.now in
    let low : p < length d.cpus = rw (← c.self.view_is) at c.requires in
    let there : v ≡ cpu_at d p = cpu_there d p v low (rw c.from.ensures at c.index-processor.ensures) in
    let row = access_row_at d p c.args.off v allows_update there in
    elim c.match-xadd.branch [
      | in-Ok w ↦
          (let k = through (state_of d) p c.args.off allows_update h.sound (row ∙ sym w.in-Ok.ensures.row) in
          whole _ (after_xadd (state_of d) p c.args.off c.args.value)
          (store_leaves m h p c.args.off (sum_of (word_at (state_of d) p c.args.off) c.args.value) v c.xadd.new.epc there k
          (w.in-Ok.ensures.done ∙ ap (λ n. with_stored d.epc v.cache c.args.off (sum_of n c.args.value))
          (word_seen d p c.args.off v there k))))
      | in-Err w ↦ whole_same m _ (ap (λ epc. record d { epc = epc }) w.in-Err.ensures.refused) h
    ]

pub returns-clause-step : goal.returns-clause-step
returns-clause-step c =
    let m = c.self.inside in
    let d = parts_of m in
    let h = c.self.invariant in
    let p = c.args.cpu.0 in
    let v = c.index-processor.result.now in
    let low : p < length d.cpus = rw (← c.self.view_is) at c.requires in
    let there : v ≡ cpu_at d p = cpu_there d p v low (rw c.from.ensures at c.index-processor.ensures) in
    let row = access_row_at d p c.args.off v allows_update there in
    elim c.match-xadd.branch [
      | in-Ok w ↦
          (let k = through (state_of d) p c.args.off allows_update h.sound (row ∙ sym w.in-Ok.ensures.row) in
          let left = store_leaves m h p c.args.off (sum_of (word_at (state_of d) p c.args.off) c.args.value) v c.xadd.new.epc there k
          (w.in-Ok.ensures.done ∙ ap (λ n. with_stored d.epc v.cache c.args.off (sum_of n c.args.value))
          (word_seen d p c.args.off v there k)) in
          let allowed : first_of_row (row_of (state_of d) (actors.Cpu c.args.cpu) (Xadd c.args.off c.args.value)) ≡ None = row
          ∙ sym w.in-Ok.ensures.row in
          by_view m c.args.self.now (actors.Cpu c.args.cpu) (Xadd c.args.off c.args.value) _ _ c.self.view_is
          (done_step _ _ _ allowed (
            w.result-is ∙ w.done.ensures
                ∙ ap (λ n. did_by (actors.Cpu c.args.cpu) (Xadd c.args.off c.args.value) (Value n))
                (w.in-Ok.ensures.answer ∙ word_seen d p c.args.off v there k),
            left.state,
          )))
      | in-Err w ↦
          (let refused : first_of_row (row_of (state_of d) (actors.Cpu c.args.cpu) (Xadd c.args.off c.args.value)) ≡ Some w.in-Err.refusal =
          row ∙ sym w.in-Err.ensures.row in
          by_view m c.args.self.now (actors.Cpu c.args.cpu) (Xadd c.args.off c.args.value) _ _ c.self.view_is
          (refused_step _ _ _ _ refused (
            w.result-is
                ∙ w.refused.ensures,
            ap (λ epc. state_of (record d { epc = epc })) w.in-Err.ensures.refused,
          )))
    ]
