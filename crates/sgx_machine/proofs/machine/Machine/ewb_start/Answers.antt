use Rattle.std.proofs.Common.{◌∙◌, sym, ap}
use Rattle.sgx_rules.specs.declared.entries.Action.TheVariants.{EwbStart}
use Rattle.sgx_rules.specs.declared.entries.Answer.TheVariants.{Version}
use Rattle.machine_laws.specs.inner.Steps.{did_by}
use Rattle.sgx_machine.specs.inner.Whole.{parts_of}
use Rattle.sgx_machine.specs.inner.Parts.{state_of}
use Rattle.sgx_machine.proofs.PagingSights.{frame_numbered, ewbstart_row_at}
use Rattle.sgx_machine.proofs.PagingBridge.{ewbstart_leaves, out_as, versions_same}
use Rattle.sgx_machine.proofs.WholeMachines.{by_view, whole, whole_same, done_step, refused_step}
use Rattle.sgx_machine.proofs.machine.Machine.ewb_start.Goals as goal

pub ewb_start-requires-clause-numbered : goal.ewb_start-requires-clause-numbered
ewb_start-requires-clause-numbered c =
    frame_numbered (parts_of c.self.inside) c.args.frame.0 c.self.invariant.table.places c.self.invariant.framed

pub invariant_of-self : goal.invariant_of-self
invariant_of-self c =
    let d = parts_of c.self.inside in
    let w = c.in-Ok.ensures in
    whole _ _ (ewbstart_leaves c.self.inside c.self.invariant c.args.frame.0 c.args.slot _ (sym w.row)
    (out_as d c.args.frame.0 c.args.slot c.ewb_start.new.epc c.ewb_start.new.va c.ewb_start.new.versions c.in-Ok.version
    c.found-found.result w.epc w.va w.versions w.answer (rw (← c.self.view_is) at c.found-found.ensures)))

pub invariant_of-self-in-Err : goal.invariant_of-self-in-Err
invariant_of-self-in-Err c =
    let d = parts_of c.self.inside in
    let w = c.in-Err.ensures in
    whole_same c.self.inside _
    (versions_same d c.ewb_start.new.epc c.ewb_start.new.va c.ewb_start.new.versions w.refused.0 w.refused.1 w.refused.2) c.self.invariant

pub returns-in-Ok-clause-step : goal.returns-in-Ok-clause-step
returns-in-Ok-clause-step c =
    let d = parts_of c.self.inside in
    let h = c.self.invariant in
    let w = c.in-Ok.ensures in
    let row = ewbstart_row_at d c.args.frame.0 c.args.slot h.track_places h.processors h.tracked
    (frame_numbered d c.args.frame.0 h.table.places h.framed) h.slots h.held.pages in
    let left = ewbstart_leaves c.self.inside h c.args.frame.0 c.args.slot _ (sym w.row)
    (out_as d c.args.frame.0 c.args.slot c.ewb_start.new.epc c.ewb_start.new.va c.ewb_start.new.versions c.in-Ok.version
    c.found-found.result w.epc w.va w.versions w.answer (rw (← c.self.view_is) at c.found-found.ensures)) in
    by_view c.self.inside c.args.self.now c.args.actor (EwbStart c.args.frame c.args.slot) _ _ c.self.view_is
    (done_step _ _ _ (sym row ∙ sym w.row)
    (c.done.ensures ∙ ap (λ n. did_by c.args.actor (EwbStart c.args.frame c.args.slot) (Version n)) w.answer, left.state))

pub returns-in-Err-clause-step : goal.returns-in-Err-clause-step
returns-in-Err-clause-step c =
    let d = parts_of c.self.inside in
    let h = c.self.invariant in
    let w = c.in-Err.ensures in
    let row = ewbstart_row_at d c.args.frame.0 c.args.slot h.track_places h.processors h.tracked
    (frame_numbered d c.args.frame.0 h.table.places h.framed) h.slots h.held.pages in
    by_view c.self.inside c.args.self.now c.args.actor (EwbStart c.args.frame c.args.slot) _ _ c.self.view_is
    (refused_step _ _ _ _ (sym row ∙ sym w.row) (
      c.refused.ensures,
      ap state_of
          (versions_same d c.ewb_start.new.epc c.ewb_start.new.va c.ewb_start.new.versions w.refused.0 w.refused.1 w.refused.2),
    ))
