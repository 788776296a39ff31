use Rattle.std.proofs.Common.{◌≡◌, ◌<◌, ◌∙◌, sym, ap, Some, length}
use Rattle.sgx_types.specs.declared.names.Actor.TheVariants as actors
use Rattle.sgx_rules.specs.declared.entries.Action.TheVariants.{Resume}
use Rattle.sgx_rules.specs.declared.entries.Answer.TheVariants.{Value}
use Rattle.sgx_rules.specs.Sights.{seat_of}
use Rattle.secs_state.specs.inner.Table.{enclave_at}
use Rattle.cached_translations.specs.declared.processor.Processor.{Processor}
use Rattle.cached_translations.specs.inner.Modes.{is_inside}
use Rattle.track_epoch.specs.inner.Tracks.{track_of}
use Rattle.sgx_machine.specs.inner.Whole.{parts_of}
use Rattle.sgx_machine.specs.inner.Parts.{state_of, cpu_at}
use Rattle.machine_laws.specs.inner.State.{after_resume}
use Rattle.machine_laws.specs.inner.Steps.{did_by}
use Rattle.sgx_machine.proofs.Columns.{numbered}
use Rattle.sgx_machine.proofs.ProcessorBridge.{cpu_there, frame_added}
use Rattle.sgx_machine.proofs.TrackLaws.{room}
use Rattle.sgx_machine.proofs.EntryBridge.{resume_row_at, resume_leaves}
use Rattle.sgx_machine.proofs.WholeMachines.{whole, whole_same, seats_same, done_step, refused_step}
use Rattle.sgx_machine.proofs.machine.Machine.resume.Goals.{in-Ok, in-Err}
use Rattle.sgx_machine.proofs.machine.Machine.resume.Goals as goal

pub eresume-requires-clause-room : goal.eresume-requires-clause-room
eresume-requires-clause-room c =
    let m = c.self.inside in
    let d = parts_of m in
    let h = c.self.invariant in
    let p = c.args.cpu.0 in
    let e = c.args.enclave in
    let x = c.in-Some.secs.now in
    let t = c.get_mut-track.result.now in
    let v = c.index_mut-processor.result.now in
    let low : p < length d.cpus = rw (← c.self.view_is) at c.requires in
    let found : enclave_at d.secs e ≡ Some x = sym c.in-Some.ensures.value in
    let track : track_of d.tracks e ≡ Some t = c.get_mut-track.ensures.value in
    let there : v ≡ cpu_at d p = cpu_there d p v low (rw c.from-2.ensures at c.index_mut-processor.ensures.value) in
    let number = numbered d.secs e x h.table.places found in
    λ out. room d.tracks d.cpus p e t v h.track_places number.0 number.1 low track h.tracked h.processors
    (ap (λ (x : Processor). is_inside x.mode) (sym there) ∙ out)

pub eresume-requires-clause-added : goal.eresume-requires-clause-added
eresume-requires-clause-added c =
    let d = parts_of c.self.inside in
    let h = c.self.invariant in
    λ _. frame_added d c.args.enclave c.args.tcs_frame.0 c.in-Some.secs.now h.table (sym c.in-Some.ensures.value) h.framed

pub invariant_of-self-2 : goal.invariant_of-self-2
invariant_of-self-2 c =
    let m = c.self.inside in
    let d = parts_of m in
    let h = c.self.invariant in
    let p = c.args.cpu.0 in
    let e = c.args.enclave in
    let x = c.in-Some.secs.now in
    let t = c.get_mut-track.result.now in
    let v = c.index_mut-processor.result.now in
    let low : p < length d.cpus = rw (← c.self.view_is) at c.requires in
    let found : enclave_at d.secs e ≡ Some x = sym c.in-Some.ensures.value in
    let track : track_of d.tracks e ≡ Some t = c.get_mut-track.ensures.value in
    let there : v ≡ cpu_at d p = cpu_there d p v low (rw c.from-2.ensures at c.index_mut-processor.ensures.value) in
    elim c.match-eresume.branch [
      | in-Ok w ↦ rw c.from-2.ensures (whole _ (after_resume (state_of d) p (seat_of e c.args.tcs c.args.tcs_frame.0 c.args.ssa_frame.0))
          (resume_leaves m h p e x t low found track v there c.args.tcs c.args.tcs_frame c.args.ssa_frame c.eresume.new.epc
          c.eresume.new.secs c.eresume.new.track c.eresume.new.cpu w.in-Ok.ensures.row w.in-Ok.ensures.epc w.in-Ok.ensures.secs
          w.in-Ok.ensures.track w.in-Ok.ensures.cpu))
      | in-Err w ↦ (let kept = w.in-Err.ensures.refused in
          rw c.from-2.ensures (whole_same m _ (seats_same d c.eresume.new.epc e p x c.eresume.new.secs t c.eresume.new.track v
          c.eresume.new.cpu h.table found track there kept.0 kept.1 kept.2 kept.3) h))
    ]

pub returns-clause-step : goal.returns-clause-step
returns-clause-step c =
    let m = c.self.inside in
    let d = parts_of m in
    let h = c.self.invariant in
    let p = c.args.cpu.0 in
    let e = c.args.enclave in
    let x = c.in-Some.secs.now in
    let t = c.get_mut-track.result.now in
    let v = c.index_mut-processor.result.now in
    let low : p < length d.cpus = rw (← c.self.view_is) at c.requires in
    let found : enclave_at d.secs e ≡ Some x = sym c.in-Some.ensures.value in
    let track : track_of d.tracks e ≡ Some t = c.get_mut-track.ensures.value in
    let there : v ≡ cpu_at d p = cpu_there d p v low (rw c.from-2.ensures at c.index_mut-processor.ensures.value) in
    let row = resume_row_at m h p e x t low found track v there c.args.tcs c.args.tcs_frame c.args.ssa_frame in
    elim c.match-eresume.branch [
      | in-Ok w ↦
          (let left = resume_leaves m h p e x t low found track v there c.args.tcs c.args.tcs_frame c.args.ssa_frame c.eresume.new.epc
          c.eresume.new.secs c.eresume.new.track c.eresume.new.cpu w.in-Ok.ensures.row w.in-Ok.ensures.epc w.in-Ok.ensures.secs
          w.in-Ok.ensures.track w.in-Ok.ensures.cpu in
          let answer = ap (λ n. did_by (actors.Cpu c.args.cpu) (Resume e c.args.tcs c.args.tcs_frame c.args.ssa_frame) (Value n))
          w.in-Ok.ensures.answer in
          rw (c.from-2.ensures, ← c.self.view_is)
          (done_step _ _ _ (row ∙ sym w.in-Ok.ensures.row) (w.result-is ∙ w.done.ensures ∙ answer, left.state)))
      | in-Err w ↦
          (let kept = w.in-Err.ensures.refused in
          rw (c.from-2.ensures, ← c.self.view_is)
          (refused_step _ _ _ _ (row ∙ sym w.in-Err.ensures.row) (
            w.result-is ∙ w.refused-in-Err.ensures,
            ap state_of
                (seats_same d c.eresume.new.epc e p x c.eresume.new.secs t c.eresume.new.track v c.eresume.new.cpu h.table found track there
                kept.0 kept.1 kept.2 kept.3),
          )))
    ]
