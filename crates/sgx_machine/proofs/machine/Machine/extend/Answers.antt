use Rattle.std.proofs.Common.{◌≡◌, ◌∙◌, refl, sym, ap, Some, length-set}
use Rattle.epcm_entry.specs.inner.Epc.{entry_at}
use Rattle.epcm_entry.specs.inner.Sights.{held}
use Rattle.secs_state.specs.inner.Table.{enclave_at}
use Rattle.sgx_rules.specs.Frames.{page_of}
use Rattle.sgx_machine.specs.inner.Whole.{parts_of}
use Rattle.sgx_machine.specs.inner.Parts.{state_of}
use Rattle.machine_laws.specs.inner.State.{after_extend}
use Rattle.sgx_machine.proofs.BuildBridge.{extend_state}
use Rattle.sgx_machine.proofs.BuildSteps.{owner, measure_place, measure_there, extend_row_at, extend_done}
use Rattle.sgx_machine.proofs.KeptStates.{kept_extend}
use Rattle.sgx_machine.proofs.WholeMachines.{kept_of, whole, builds, whole_same, measures_same, done_step, refused_step}
use Rattle.sgx_machine.proofs.machine.Machine.extend.Goals.{in-Ok, in-Err}
use Rattle.sgx_machine.proofs.machine.Machine.extend.Goals as goal

pub eextend-requires : goal.eextend-requires
eextend-requires c =
    let d = parts_of c.self.inside in
    let g = c.in-Some.page in
    let here : page_of (held (entry_at d.epc c.args.frame.0)) ≡ Some g = rw (← c.self.view_is) at (sym c.in-Some.ensures) in
    let found : enclave_at d.secs g.enclave ≡ Some c.unwrap-secs.result.now = sym (rw c.unwrap-secs.ensures at c.get.ensures.value) in
    owner d c.args.frame.0 g c.unwrap-secs.result.now c.self.invariant.table here found

pub invariant_of-self : goal.invariant_of-self
invariant_of-self c =
    let m = c.self.inside in
    let d = parts_of m in
    let g = c.in-Some.page in
    let x = c.unwrap-secs.result.now in
    let y = c.unwrap-measure.result.now in
    let h = c.self.invariant in
    let here : page_of (held (entry_at d.epc c.args.frame.0)) ≡ Some g = rw (← c.self.view_is) at (sym c.in-Some.ensures) in
    let found : enclave_at d.secs g.enclave ≡ Some x = sym (rw c.unwrap-secs.ensures at c.get.ensures.value) in
    let low = measure_place d g.enclave x h.table found h.places in
    let read : Some y ≡ c.index_mut.result.now = rw c.unwrap-measure.ensures at c.as_mut.ensures.value in
    let there = measure_there d.measures g.enclave c.index_mut.result.now y low (rw c.from.ensures at c.index_mut.ensures.value) read in
    elim c.match-eextend.branch [
      | in-Ok w ↦
          rw c.from.ensures
          (whole _ (after_extend (state_of d) g.enclave c.eextend.new.log)
          (builds m h _ _ _ _ (extend_state d g.enclave c.eextend.new.log low)
          (kept_extend (state_of d) g.enclave c.eextend.new.log (kept_of m h)) (length-set d.measures _ _ ∙ h.places) h.table h.held
          refl))
      | in-Err w ↦ rw c.from.ensures (whole_same m _ (measures_same d g.enclave y c.eextend.new.log there w.in-Err.ensures.refused) h)
    ]

pub returns-clause-step : goal.returns-clause-step
returns-clause-step c =
    let d = parts_of c.self.inside in
    let g = c.in-Some.page in
    let x = c.unwrap-secs.result.now in
    let y = c.unwrap-measure.result.now in
    let h = c.self.invariant in
    let here : page_of (held (entry_at d.epc c.args.frame.0)) ≡ Some g = rw (← c.self.view_is) at (sym c.in-Some.ensures) in
    let found : enclave_at d.secs g.enclave ≡ Some x = sym (rw c.unwrap-secs.ensures at c.get.ensures.value) in
    let low = measure_place d g.enclave x h.table found h.places in
    let read : Some y ≡ c.index_mut.result.now = rw c.unwrap-measure.ensures at c.as_mut.ensures.value in
    let there = measure_there d.measures g.enclave c.index_mut.result.now y low (rw c.from.ensures at c.index_mut.ensures.value) read in
    let row = extend_row_at d c.args.actor c.args.frame c.args.chunk g x here found in
    elim c.match-eextend.branch [
      | in-Ok w ↦
          rw (c.from.ensures, ← c.self.view_is)
          (done_step _ _ _ (row ∙ sym w.in-Ok.ensures.row) (
            w.result-is ∙ w.done.ensures,
            extend_done d c.args.frame.0 c.args.chunk g x y c.eextend.new.log h.table here found h.places
                there w.in-Ok.ensures.done,
          ))
      | in-Err w ↦
          rw (c.from.ensures, ← c.self.view_is)
          (refused_step _ _ _ _ (row ∙ sym w.in-Err.ensures.row) (
            w.result-is ∙ w.refused-in-Err.ensures,
            ap state_of
                (measures_same d g.enclave y c.eextend.new.log there w.in-Err.ensures.refused),
          ))
    ]
