use Rattle.std.proofs.Common.{◌≡◌, ◌<◌, ◌∙◌, refl, sym, ap, Some, length}
use Rattle.secs_state.specs.inner.Table.{enclave_at}
use Rattle.cached_translations.specs.inner.Modes.{enclave_inside}
use Rattle.track_epoch.specs.inner.Tracks.{track_of}
use Rattle.sgx_machine.specs.inner.Whole.{parts_of}
use Rattle.sgx_machine.specs.inner.Parts.{state_of, cpu_at}
use Rattle.machine_laws.specs.inner.State.{after_exit}
use Rattle.sgx_machine.proofs.ProcessorBridge.{cpu_there}
use Rattle.sgx_machine.proofs.EntryBridge.{inside_at, inside_row_at, its_enclave, its_tcs, its_count, exit_leaves}
use Rattle.sgx_machine.proofs.WholeMachines.{whole, whole_same, seats_same, done_step, refused_step}
use Rattle.sgx_machine.proofs.machine.Machine.exit.Goals.{in-Ok, in-Err}
use Rattle.sgx_machine.proofs.machine.Machine.exit.Goals as goal

pub eexit-requires-clause-enclave : goal.eexit-requires-clause-enclave
eexit-requires-clause-enclave c =
    let m = c.self.inside in
    let d = parts_of m in
    let h = c.self.invariant in
    let p = c.args.cpu.0 in
    let e = c.in-Some.enclave in
    let x = c.unwrap-secs.result.now in
    let t = c.get_mut-track.result.now in
    let v = c.index_mut-processor.result.now in
    let low : p < length d.cpus = rw (← c.self.view_is) at c.requires in
    let found : enclave_at d.secs e ≡ Some x = sym (rw c.unwrap-secs.ensures at c.get_mut.ensures.value) in
    let track : track_of d.tracks e ≡ Some t = c.get_mut-track.ensures.value in
    let there : v ≡ cpu_at d p = cpu_there d p v low (rw c.from.ensures at c.index_mut-processor.ensures.value) in
    let inside : Some e ≡ enclave_inside (cpu_at d p).mode = rw (c.mode.ensures, ← c.self.view_is) at c.in-Some.ensures in
    let k = inside_at (cpu_at d p).mode e inside in
    its_enclave m h p e x t v low found track there k

pub eexit-requires-clause-tcs : goal.eexit-requires-clause-tcs
eexit-requires-clause-tcs c =
    let m = c.self.inside in
    let d = parts_of m in
    let h = c.self.invariant in
    let p = c.args.cpu.0 in
    let e = c.in-Some.enclave in
    let x = c.unwrap-secs.result.now in
    let t = c.get_mut-track.result.now in
    let v = c.index_mut-processor.result.now in
    let low : p < length d.cpus = rw (← c.self.view_is) at c.requires in
    let found : enclave_at d.secs e ≡ Some x = sym (rw c.unwrap-secs.ensures at c.get_mut.ensures.value) in
    let track : track_of d.tracks e ≡ Some t = c.get_mut-track.ensures.value in
    let there : v ≡ cpu_at d p = cpu_there d p v low (rw c.from.ensures at c.index_mut-processor.ensures.value) in
    let inside : Some e ≡ enclave_inside (cpu_at d p).mode = rw (c.mode.ensures, ← c.self.view_is) at c.in-Some.ensures in
    let k = inside_at (cpu_at d p).mode e inside in
    its_tcs m h p e x t v low found track there k

pub eexit-requires-clause-counted : goal.eexit-requires-clause-counted
eexit-requires-clause-counted c =
    let m = c.self.inside in
    let d = parts_of m in
    let h = c.self.invariant in
    let p = c.args.cpu.0 in
    let e = c.in-Some.enclave in
    let x = c.unwrap-secs.result.now in
    let t = c.get_mut-track.result.now in
    let v = c.index_mut-processor.result.now in
    let low : p < length d.cpus = rw (← c.self.view_is) at c.requires in
    let found : enclave_at d.secs e ≡ Some x = sym (rw c.unwrap-secs.ensures at c.get_mut.ensures.value) in
    let track : track_of d.tracks e ≡ Some t = c.get_mut-track.ensures.value in
    let there : v ≡ cpu_at d p = cpu_there d p v low (rw c.from.ensures at c.index_mut-processor.ensures.value) in
    let inside : Some e ≡ enclave_inside (cpu_at d p).mode = rw (c.mode.ensures, ← c.self.view_is) at c.in-Some.ensures in
    let k = inside_at (cpu_at d p).mode e inside in
    its_count m h p e x t v low found track there k

pub invariant_of-self : goal.invariant_of-self
invariant_of-self c =
    let m = c.self.inside in
    let d = parts_of m in
    let h = c.self.invariant in
    let p = c.args.cpu.0 in
    let e = c.in-Some.enclave in
    let x = c.unwrap-secs.result.now in
    let t = c.get_mut-track.result.now in
    let v = c.index_mut-processor.result.now in
    let low : p < length d.cpus = rw (← c.self.view_is) at c.requires in
    let found : enclave_at d.secs e ≡ Some x = sym (rw c.unwrap-secs.ensures at c.get_mut.ensures.value) in
    let track : track_of d.tracks e ≡ Some t = c.get_mut-track.ensures.value in
    let there : v ≡ cpu_at d p = cpu_there d p v low (rw c.from.ensures at c.index_mut-processor.ensures.value) in
    let inside : Some e ≡ enclave_inside (cpu_at d p).mode = rw (c.mode.ensures, ← c.self.view_is) at c.in-Some.ensures in
    let k = inside_at (cpu_at d p).mode e inside in
    elim c.match-eexit.branch [
      | in-Ok w ↦ rw c.from.ensures (whole _ (after_exit (state_of d) p)
          (exit_leaves m h p e x t low found track v there k c.eexit.new.secs c.eexit.new.track c.eexit.new.cpu w.in-Ok.ensures.secs
          w.in-Ok.ensures.track w.in-Ok.ensures.cpu))
      | in-Err w ↦ (let kept = w.in-Err.ensures.refused in
          rw c.from.ensures (whole_same m _ (seats_same d d.epc e p x c.eexit.new.secs t c.eexit.new.track v c.eexit.new.cpu h.table found
          track there refl kept.0 kept.1 kept.2) h))
    ]

pub returns-clause-step : goal.returns-clause-step
returns-clause-step c =
    let m = c.self.inside in
    let d = parts_of m in
    let h = c.self.invariant in
    let p = c.args.cpu.0 in
    let e = c.in-Some.enclave in
    let x = c.unwrap-secs.result.now in
    let t = c.get_mut-track.result.now in
    let v = c.index_mut-processor.result.now in
    let low : p < length d.cpus = rw (← c.self.view_is) at c.requires in
    let found : enclave_at d.secs e ≡ Some x = sym (rw c.unwrap-secs.ensures at c.get_mut.ensures.value) in
    let track : track_of d.tracks e ≡ Some t = c.get_mut-track.ensures.value in
    let there : v ≡ cpu_at d p = cpu_there d p v low (rw c.from.ensures at c.index_mut-processor.ensures.value) in
    let inside : Some e ≡ enclave_inside (cpu_at d p).mode = rw (c.mode.ensures, ← c.self.view_is) at c.in-Some.ensures in
    let k = inside_at (cpu_at d p).mode e inside in
    let row = inside_row_at d p v there in
    elim c.match-eexit.branch [
      | in-Ok w ↦
          (let left = exit_leaves m h p e x t low found track v there k c.eexit.new.secs c.eexit.new.track c.eexit.new.cpu
          w.in-Ok.ensures.secs w.in-Ok.ensures.track w.in-Ok.ensures.cpu in
          rw (c.from.ensures, ← c.self.view_is) (done_step _ _ _ (row ∙ sym w.in-Ok.ensures.row)
          (w.result-is ∙ w.done.ensures, left.state)))
      | in-Err w ↦
          (let kept = w.in-Err.ensures.refused in
          rw (c.from.ensures, ← c.self.view_is)
          (refused_step _ _ _ _ (row ∙ sym w.in-Err.ensures.row) (
            w.result-is ∙ w.refused-in-Err.ensures,
            ap state_of
                (seats_same d d.epc e p x c.eexit.new.secs t c.eexit.new.track v c.eexit.new.cpu h.table found track there refl
                kept.0 kept.1 kept.2),
          )))
    ]
