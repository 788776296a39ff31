use Rattle.std.proofs.Common.{◌≡◌, ◌<◌, None, sym, Some, length}
use Rattle.secs_state.specs.inner.Table.{enclave_at}
use Rattle.cached_translations.specs.inner.Modes.{enclave_inside}
use Rattle.track_epoch.specs.inner.Tracks.{track_of}
use Rattle.sgx_machine.specs.inner.Whole.{parts_of}
use Rattle.sgx_machine.specs.inner.Parts.{state_of, cpu_at}
use Rattle.machine_laws.specs.inner.State.{row_of, after_aex}
use Rattle.sgx_machine.proofs.ProcessorBridge.{cpu_there}
use Rattle.sgx_machine.proofs.EntryBridge.{inside_at, inside_allowed, its_enclave, its_tcs, its_count, its_frames, aex_leaves}
use Rattle.sgx_machine.proofs.WholeMachines.{whole, done_step, by_view}
use Rattle.sgx_types.specs.declared.names.Actor.TheVariants as actors
use Rattle.sgx_rules.specs.declared.entries.Action.TheVariants.{Aex}
use Rattle.sgx_types.specs.Cases.{first_of_row}
use Rattle.sgx_machine.proofs.machine.Machine.aex.Goals as goal

pub aex-requires-clause-enclave : goal.aex-requires-clause-enclave
aex-requires-clause-enclave c =
    let m = c.self.inside in
    let d = parts_of m in
    let h = c.self.invariant in
    let p = c.args.cpu.0 in
    let e = c.in-Some.enclave in
    let x = c.unwrap-secs.result.now in
    let t = c.get_mut-track.result.now in
    let v = c.index_mut-processor.result.now in
    let low : p < length d.cpus = rw (← c.self.view_is) at c.requires in
    let found : enclave_at d.secs e ≡ Some x = sym (rw c.unwrap-secs.ensures at c.get_mut.ensures.value) in
    let track : track_of d.tracks e ≡ Some t = c.get_mut-track.ensures.value in
    let there : v ≡ cpu_at d p = cpu_there d p v low (rw c.from.ensures at c.index_mut-processor.ensures.value) in
    let inside : Some e ≡ enclave_inside (cpu_at d p).mode = rw (c.mode.ensures, ← c.self.view_is) at c.in-Some.ensures in
    let k = inside_at (cpu_at d p).mode e inside in
    its_enclave m h p e x t v low found track there k

pub aex-requires-clause-tcs : goal.aex-requires-clause-tcs
aex-requires-clause-tcs c =
    let m = c.self.inside in
    let d = parts_of m in
    let h = c.self.invariant in
    let p = c.args.cpu.0 in
    let e = c.in-Some.enclave in
    let x = c.unwrap-secs.result.now in
    let t = c.get_mut-track.result.now in
    let v = c.index_mut-processor.result.now in
    let low : p < length d.cpus = rw (← c.self.view_is) at c.requires in
    let found : enclave_at d.secs e ≡ Some x = sym (rw c.unwrap-secs.ensures at c.get_mut.ensures.value) in
    let track : track_of d.tracks e ≡ Some t = c.get_mut-track.ensures.value in
    let there : v ≡ cpu_at d p = cpu_there d p v low (rw c.from.ensures at c.index_mut-processor.ensures.value) in
    let inside : Some e ≡ enclave_inside (cpu_at d p).mode = rw (c.mode.ensures, ← c.self.view_is) at c.in-Some.ensures in
    let k = inside_at (cpu_at d p).mode e inside in
    its_tcs m h p e x t v low found track there k

pub aex-requires-clause-counted : goal.aex-requires-clause-counted
aex-requires-clause-counted c =
    let m = c.self.inside in
    let d = parts_of m in
    let h = c.self.invariant in
    let p = c.args.cpu.0 in
    let e = c.in-Some.enclave in
    let x = c.unwrap-secs.result.now in
    let t = c.get_mut-track.result.now in
    let v = c.index_mut-processor.result.now in
    let low : p < length d.cpus = rw (← c.self.view_is) at c.requires in
    let found : enclave_at d.secs e ≡ Some x = sym (rw c.unwrap-secs.ensures at c.get_mut.ensures.value) in
    let track : track_of d.tracks e ≡ Some t = c.get_mut-track.ensures.value in
    let there : v ≡ cpu_at d p = cpu_there d p v low (rw c.from.ensures at c.index_mut-processor.ensures.value) in
    let inside : Some e ≡ enclave_inside (cpu_at d p).mode = rw (c.mode.ensures, ← c.self.view_is) at c.in-Some.ensures in
    let k = inside_at (cpu_at d p).mode e inside in
    its_count m h p e x t v low found track there k

pub aex-requires-clause-frames : goal.aex-requires-clause-frames
aex-requires-clause-frames c =
    let m = c.self.inside in
    let d = parts_of m in
    let h = c.self.invariant in
    let p = c.args.cpu.0 in
    let e = c.in-Some.enclave in
    let x = c.unwrap-secs.result.now in
    let t = c.get_mut-track.result.now in
    let v = c.index_mut-processor.result.now in
    let low : p < length d.cpus = rw (← c.self.view_is) at c.requires in
    let found : enclave_at d.secs e ≡ Some x = sym (rw c.unwrap-secs.ensures at c.get_mut.ensures.value) in
    let track : track_of d.tracks e ≡ Some t = c.get_mut-track.ensures.value in
    let there : v ≡ cpu_at d p = cpu_there d p v low (rw c.from.ensures at c.index_mut-processor.ensures.value) in
    let inside : Some e ≡ enclave_inside (cpu_at d p).mode = rw (c.mode.ensures, ← c.self.view_is) at c.in-Some.ensures in
    let k = inside_at (cpu_at d p).mode e inside in
    its_frames m h p e x t v low found track there k

pub invariant_of-self : goal.invariant_of-self
invariant_of-self c =
    let m = c.self.inside in
    let d = parts_of m in
    let h = c.self.invariant in
    let p = c.args.cpu.0 in
    let e = c.in-Some.enclave in
    let x = c.unwrap-secs.result.now in
    let t = c.get_mut-track.result.now in
    let v = c.index_mut-processor.result.now in
    let low : p < length d.cpus = rw (← c.self.view_is) at c.requires in
    let found : enclave_at d.secs e ≡ Some x = sym (rw c.unwrap-secs.ensures at c.get_mut.ensures.value) in
    let track : track_of d.tracks e ≡ Some t = c.get_mut-track.ensures.value in
    let there : v ≡ cpu_at d p = cpu_there d p v low (rw c.from.ensures at c.index_mut-processor.ensures.value) in
    let inside : Some e ≡ enclave_inside (cpu_at d p).mode = rw (c.mode.ensures, ← c.self.view_is) at c.in-Some.ensures in
    let k = inside_at (cpu_at d p).mode e inside in
    let a = c.aex.ensures in
    rw c.from.ensures (whole _ (after_aex (state_of d) p)
    (aex_leaves m h p e x t low found track v there k c.aex.new.epc c.aex.new.secs c.aex.new.track c.aex.new.cpu a.epc a.secs a.track
    a.cpu))

pub returns-clause-step : goal.returns-clause-step
returns-clause-step c =
    let m = c.self.inside in
    let d = parts_of m in
    let h = c.self.invariant in
    let p = c.args.cpu.0 in
    let e = c.in-Some.enclave in
    let x = c.unwrap-secs.result.now in
    let t = c.get_mut-track.result.now in
    let v = c.index_mut-processor.result.now in
    let low : p < length d.cpus = rw (← c.self.view_is) at c.requires in
    let found : enclave_at d.secs e ≡ Some x = sym (rw c.unwrap-secs.ensures at c.get_mut.ensures.value) in
    let track : track_of d.tracks e ≡ Some t = c.get_mut-track.ensures.value in
    let there : v ≡ cpu_at d p = cpu_there d p v low (rw c.from.ensures at c.index_mut-processor.ensures.value) in
    let inside : Some e ≡ enclave_inside (cpu_at d p).mode = rw (c.mode.ensures, ← c.self.view_is) at c.in-Some.ensures in
    let k = inside_at (cpu_at d p).mode e inside in
    let a = c.aex.ensures in
    let left = aex_leaves m h p e x t low found track v there k c.aex.new.epc c.aex.new.secs c.aex.new.track c.aex.new.cpu a.epc a.secs
    a.track a.cpu in
    let allowed : first_of_row (row_of (state_of d) (actors.Cpu c.args.cpu) (Aex c.args.cause)) ≡ None =
    inside_allowed (cpu_at d p).mode e k in
    rw c.from.ensures (by_view m c.args.self.now (actors.Cpu c.args.cpu) (Aex c.args.cause) c.done.result _ c.self.view_is
    (done_step _ _ _ allowed (c.done.ensures, left.state)))
