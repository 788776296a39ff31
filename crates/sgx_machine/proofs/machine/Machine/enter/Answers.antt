use Rattle.std.proofs.Common.{◌≡◌, ◌<◌, ◌∙◌, refl, sym, ap, Some, length}
use Rattle.sgx_types.specs.declared.names.Actor.TheVariants as actors
use Rattle.sgx_rules.specs.declared.entries.Action.TheVariants.{Enter}
use Rattle.sgx_rules.specs.declared.entries.Answer.TheVariants.{Cssa}
use Rattle.sgx_rules.specs.Sights.{seat_of}
use Rattle.secs_state.specs.inner.Table.{enclave_at}
use Rattle.cached_translations.specs.declared.processor.Processor.{Processor}
use Rattle.cached_translations.specs.inner.Modes.{is_inside}
use Rattle.track_epoch.specs.inner.Tracks.{track_of}
use Rattle.sgx_machine.specs.inner.Whole.{parts_of}
use Rattle.sgx_machine.specs.inner.Parts.{state_of, cpu_at}
use Rattle.machine_laws.specs.inner.State.{after_enter}
use Rattle.machine_laws.specs.inner.Steps.{did_by}
use Rattle.sgx_machine.proofs.Columns.{numbered}
use Rattle.sgx_machine.proofs.ProcessorBridge.{cpu_there, frame_added}
use Rattle.sgx_machine.proofs.TrackLaws.{room}
use Rattle.sgx_machine.proofs.EntryBridge.{enter_row_at, enter_leaves}
use Rattle.sgx_machine.proofs.WholeMachines.{whole, whole_same, seats_same, done_step, refused_step}
use Rattle.sgx_machine.proofs.machine.Machine.enter.Goals.{in-Ok, in-Err}
use Rattle.sgx_machine.proofs.machine.Machine.enter.Goals as goal

pub eenter-requires-clause-room : goal.eenter-requires-clause-room
eenter-requires-clause-room c =
    let m = c.self.inside in
    let d = parts_of m in
    let h = c.self.invariant in
    let p = c.args.cpu.0 in
    let e = c.args.enclave in
    let x = c.in-Some.secs.now in
    let t = c.get_mut-track.result.now in
    let v = c.index_mut-processor.result.now in
    let low : p < length d.cpus = rw (← c.self.view_is) at c.requires in
    let found : enclave_at d.secs e ≡ Some x = sym c.in-Some.ensures.value in
    let track : track_of d.tracks e ≡ Some t = c.get_mut-track.ensures.value in
    let there : v ≡ cpu_at d p = cpu_there d p v low (rw c.from-2.ensures at c.index_mut-processor.ensures.value) in
    let number = numbered d.secs e x h.table.places found in
    λ out. room d.tracks d.cpus p e t v h.track_places number.0 number.1 low track h.tracked h.processors
    (ap (λ (x : Processor). is_inside x.mode) (sym there) ∙ out)

pub eenter-requires-clause-added : goal.eenter-requires-clause-added
eenter-requires-clause-added c =
    let d = parts_of c.self.inside in
    let h = c.self.invariant in
    λ _. frame_added d c.args.enclave c.args.tcs_frame.0 c.in-Some.secs.now h.table (sym c.in-Some.ensures.value) h.framed

pub invariant_of-self-2 : goal.invariant_of-self-2
invariant_of-self-2 c =
    let m = c.self.inside in
    let d = parts_of m in
    let h = c.self.invariant in
    let p = c.args.cpu.0 in
    let e = c.args.enclave in
    let x = c.in-Some.secs.now in
    let t = c.get_mut-track.result.now in
    let v = c.index_mut-processor.result.now in
    let low : p < length d.cpus = rw (← c.self.view_is) at c.requires in
    let found : enclave_at d.secs e ≡ Some x = sym c.in-Some.ensures.value in
    let track : track_of d.tracks e ≡ Some t = c.get_mut-track.ensures.value in
    let there : v ≡ cpu_at d p = cpu_there d p v low (rw c.from-2.ensures at c.index_mut-processor.ensures.value) in
    elim c.match-eenter.branch [
      | in-Ok w ↦ rw c.from-2.ensures (whole _ (after_enter (state_of d) p (seat_of e c.args.tcs c.args.tcs_frame.0 c.args.ssa_frame.0))
          (enter_leaves m h p e x t low found track v there c.args.tcs c.args.tcs_frame c.args.ssa_frame c.eenter.new.secs
          c.eenter.new.track c.eenter.new.cpu w.in-Ok.ensures.row w.in-Ok.ensures.secs w.in-Ok.ensures.track w.in-Ok.ensures.cpu))
      | in-Err w ↦ (let kept = w.in-Err.ensures.refused in
          rw c.from-2.ensures (whole_same m _ (seats_same d d.epc e p x c.eenter.new.secs t c.eenter.new.track v c.eenter.new.cpu h.table
          found track there refl kept.0 kept.1 kept.2) h))
    ]

pub returns-clause-step : goal.returns-clause-step
returns-clause-step c =
    let m = c.self.inside in
    let d = parts_of m in
    let h = c.self.invariant in
    let p = c.args.cpu.0 in
    let e = c.args.enclave in
    let x = c.in-Some.secs.now in
    let t = c.get_mut-track.result.now in
    let v = c.index_mut-processor.result.now in
    let low : p < length d.cpus = rw (← c.self.view_is) at c.requires in
    let found : enclave_at d.secs e ≡ Some x = sym c.in-Some.ensures.value in
    let track : track_of d.tracks e ≡ Some t = c.get_mut-track.ensures.value in
    let there : v ≡ cpu_at d p = cpu_there d p v low (rw c.from-2.ensures at c.index_mut-processor.ensures.value) in
    let row = enter_row_at m h p e x t low found track v there c.args.tcs c.args.tcs_frame c.args.ssa_frame in
    elim c.match-eenter.branch [
      | in-Ok w ↦
          (let left = enter_leaves m h p e x t low found track v there c.args.tcs c.args.tcs_frame c.args.ssa_frame c.eenter.new.secs
          c.eenter.new.track c.eenter.new.cpu w.in-Ok.ensures.row w.in-Ok.ensures.secs w.in-Ok.ensures.track w.in-Ok.ensures.cpu in
          let answer = ap (λ n. did_by (actors.Cpu c.args.cpu) (Enter e c.args.tcs c.args.tcs_frame c.args.ssa_frame) (Cssa n))
          w.in-Ok.ensures.answer in
          rw (c.from-2.ensures, ← c.self.view_is)
          (done_step _ _ _ (row ∙ sym w.in-Ok.ensures.row) (w.result-is ∙ w.done.ensures ∙ answer, left.state)))
      | in-Err w ↦
          (let kept = w.in-Err.ensures.refused in
          rw (c.from-2.ensures, ← c.self.view_is)
          (refused_step _ _ _ _ (row ∙ sym w.in-Err.ensures.row) (
            w.result-is ∙ w.refused-in-Err.ensures,
            ap state_of
                (seats_same d d.epc e p x c.eenter.new.secs t c.eenter.new.track v c.eenter.new.cpu h.table found track there refl kept.0
                kept.1 kept.2),
          )))
    ]
