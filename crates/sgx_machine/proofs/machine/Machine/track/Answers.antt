use Rattle.std.proofs.Common.{◌∙◌, sym, ap}
use Rattle.sgx_machine.specs.inner.Whole.{parts_of}
use Rattle.sgx_machine.specs.inner.Parts.{state_of}
use Rattle.sgx_machine.proofs.PagingSights.{track_row_at}
use Rattle.sgx_machine.proofs.PagingBridge.{track_leaves, tracks_same}
use Rattle.sgx_machine.proofs.WholeMachines.{whole, whole_same, done_step, refused_step}
use Rattle.sgx_machine.proofs.machine.Machine.track.Goals.{in-Ok, in-Err}
use Rattle.sgx_machine.proofs.machine.Machine.track.Goals as goal

pub invariant_of-self : goal.invariant_of-self
invariant_of-self c =
    let m = c.self.inside in
    elim c.match-etrack.branch [
      | in-Ok w ↦ whole _ _ (track_leaves m c.self.invariant c.args.enclave c.etrack.new.tracks (sym w.in-Ok.ensures.row)
          w.in-Ok.ensures.done)
      | in-Err w ↦ whole_same m _ (tracks_same (parts_of m) c.etrack.new.tracks w.in-Err.ensures.refused) c.self.invariant
    ]

pub returns-clause-step : goal.returns-clause-step
returns-clause-step c =
    let m = c.self.inside in
    let h = c.self.invariant in
    let row = track_row_at (parts_of m) c.args.enclave h.table.places h.track_places h.processors h.tracked in
    elim c.match-etrack.branch [
      | in-Ok w ↦
          (let left = track_leaves m h c.args.enclave c.etrack.new.tracks (sym w.in-Ok.ensures.row) w.in-Ok.ensures.done in
          rw (← c.self.view_is) (done_step _ _ _ (sym row ∙ sym w.in-Ok.ensures.row) (w.result-is ∙ w.done.ensures, left.state)))
      | in-Err w ↦ rw (← c.self.view_is) (refused_step _ _ _ _ (sym row ∙ sym w.in-Err.ensures.row)
          (w.result-is ∙ w.refused.ensures, ap state_of (tracks_same (parts_of m) c.etrack.new.tracks w.in-Err.ensures.refused)))
    ]
