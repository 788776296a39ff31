use Rattle.std.proofs.Common.{◌∙◌, sym, ap}
use Rattle.sgx_rules.specs.declared.entries.Action.TheVariants.{EldStart}
use Rattle.sgx_rules.specs.declared.entries.Answer.TheVariants.{Version}
use Rattle.machine_laws.specs.inner.State.{after_eldstart}
use Rattle.machine_laws.specs.inner.Steps.{did_by}
use Rattle.sgx_machine.specs.inner.Whole.{parts_of}
use Rattle.sgx_machine.specs.inner.Parts.{state_of}
use Rattle.sgx_machine.proofs.PagingSights.{eldstart_row_at, version_seen}
use Rattle.sgx_machine.proofs.PagingBridge.{eldstart_leaves, in_as, slots_same}
use Rattle.sgx_machine.proofs.WholeMachines.{whole, whole_same, done_step, refused_step}
use Rattle.sgx_machine.proofs.machine.Machine.eld_start.Goals as goal

pub invariant_of-self : goal.invariant_of-self
invariant_of-self c =
    let d = parts_of c.self.inside in
    let h = c.self.invariant in
    let w = c.in-Ok.ensures in
    whole _ (after_eldstart (state_of d) c.args.frame.0 c.args.page c.args.slot)
    (eldstart_leaves c.self.inside h c.args.frame.0 c.args.page c.args.slot c.eld_start.new.secs _ (sym w.row) w.beside
    (rw w.epc at w.counts)
    (in_as d c.args.frame.0 c.args.page c.args.slot c.eld_start.new.epc c.eld_start.new.secs c.eld_start.new.va c.in-Ok.version
    c.found-found.result w.epc w.va (w.answer ∙ version_seen d c.args.slot h.held.pages) (rw (← c.self.view_is) at c.found-found.ensures)))

pub invariant_of-self-in-Err : goal.invariant_of-self-in-Err
invariant_of-self-in-Err c = let w = c.in-Err.ensures in
    whole_same c.self.inside _
    (slots_same (parts_of c.self.inside) c.eld_start.new.epc c.eld_start.new.secs c.eld_start.new.va w.refused.0 w.refused.2 w.refused.1)
    c.self.invariant

pub returns-in-Ok-clause-step : goal.returns-in-Ok-clause-step
returns-in-Ok-clause-step c =
    let d = parts_of c.self.inside in
    let h = c.self.invariant in
    let w = c.in-Ok.ensures in
    let version = w.answer ∙ version_seen d c.args.slot h.held.pages in
    let left = eldstart_leaves c.self.inside h c.args.frame.0 c.args.page c.args.slot c.eld_start.new.secs _ (sym w.row) w.beside
    (rw w.epc at w.counts)
    (in_as d c.args.frame.0 c.args.page c.args.slot c.eld_start.new.epc c.eld_start.new.secs c.eld_start.new.va c.in-Ok.version
    c.found-found.result w.epc w.va version (rw (← c.self.view_is) at c.found-found.ensures)) in
    rw (← c.self.view_is)
    (done_step _ _ _ (sym (eldstart_row_at d c.args.frame.0 c.args.page c.args.slot h.held.pages) ∙ sym w.row)
    (c.done.ensures ∙ ap (λ n. did_by c.args.actor (EldStart c.args.frame c.args.page c.args.slot) (Version n)) version, left.state))

pub returns-in-Err-clause-step : goal.returns-in-Err-clause-step
returns-in-Err-clause-step c =
    let d = parts_of c.self.inside in
    let w = c.in-Err.ensures in
    rw (← c.self.view_is)
    (refused_step _ _ _ _ (sym (eldstart_row_at d c.args.frame.0 c.args.page c.args.slot c.self.invariant.held.pages) ∙ sym w.row) (
      c.refused.ensures,
      ap state_of (slots_same d c.eld_start.new.epc c.eld_start.new.secs c.eld_start.new.va w.refused.0 w.refused.2 w.refused.1),
    ))
