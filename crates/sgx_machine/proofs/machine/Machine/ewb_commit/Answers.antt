use Rattle.std.proofs.Common.{◌≡◌, ◌∙◌, true, ap, None, Some, set}
use Rattle.sgx_rules.specs.inner.Starts.{BareStart}
use Rattle.sgx_rules.specs.declared.entries.Action.TheVariants.{Ewb}
use Rattle.sgx_rules.specs.declared.entries.Answer.TheVariants.{Moved}
use Rattle.sgx_types.specs.Sealed.{Sealed}
use Rattle.machine_laws.specs.inner.Steps.{did_by}
use Rattle.sgx_machine.specs.inner.Whole.{parts_of}
use Rattle.sgx_machine.specs.inner.Parts.{state_of}
use Rattle.sgx_machine.proofs.EwbBridge.{Written, written, low_out, out_elsewhere, writable}
use Rattle.machine_laws.proofs.MakingLaws.{written_making}
use Rattle.machine_laws.proofs.FitLaws.{written_fits}
use Rattle.machine_laws.proofs.ShapeSteps.{written_arrays, written_shaped}
use Rattle.sgx_machine.proofs.KeptStates.{kept_as}
use Rattle.machine_laws.proofs.StepRecords.{array_given}
use Rattle.machine_laws.proofs.WholeLaws.{written_all}
use Rattle.sgx_machine.proofs.WholeMachines.{whole}
use Rattle.sgx_machine.proofs.machine.Machine.ewb_commit.Goals as goal

pub ewb_commit-page-requires : goal.ewb_commit-page-requires
ewb_commit-page-requires c =
    let m = c.self.inside in
    let h = c.self.invariant in
    let x = c.start-start.result in
    let own : BareStart = record { at = x.at; slot = x.slot; version = x.version; loads = x.loads } in
    let leaves : (state_of (parts_of m)).is_sealing c.args.frame.0 ≡ true = rw (← c.self.view_is) at c.requires in
    let at : (state_of (parts_of m)).start c.args.frame.0 ≡ Some own = rw (← c.self.view_is) at c.start-start.ensures in
    record {
      started = leaves;
      slot = (writable m h c.args.frame.0 own (low_out (parts_of m) c.args.frame.0 leaves) at).is_slot;
      elsewhere = out_elsewhere m h c.args.frame.0 own leaves at;
      pages = h.held.pages;
      counted = h.held.counted;
      places = h.table.places;
    }

-- what the commit leaves and answers
is_written : (c : goal.After-drop-work)
    → Written c.self.inside c.args.actor c.args.frame c.done.result c.sealed-work.result.rec
    (record (parts_of c.self.inside) {
      epc = c.ewb_commit-page.new.epc;
      secs = c.ewb_commit-page.new.secs;
      va = c.ewb_commit-page.new.va;
      starts = set c.self.inside.starts.items c.args.frame.0 None;
    })
is_written c =
    written c.self.inside c.self.invariant c.args.actor c.args.frame c.done.result c.sealed-work.result c.start-start.result
    c.ewb_commit-page.result c.ewb_commit-page.new.epc c.ewb_commit-page.new.secs c.ewb_commit-page.new.va
    (rw (← c.self.view_is) at c.requires) (rw (← c.self.view_is) at c.sealed-work.ensures) (rw (← c.self.view_is) at c.start-start.ensures)
    c.ewb_commit-page.ensures.answer c.ewb_commit-page.ensures.epc c.ewb_commit-page.ensures.va c.ewb_commit-page.ensures.beside
    c.ewb_commit-page.ensures.counts
    (c.done.ensures ∙ ap (λ (r : Sealed). did_by c.args.actor (Ewb c.args.frame)
    (Moved c.ewb_commit-page.result c.start-start.result.version r.tag)) c.rec.view_is)

pub invariant_of-self : goal.invariant_of-self
invariant_of-self c = let k = is_written c in whole _ _ k.leaves

pub returns-clause-step : goal.returns-clause-step
returns-clause-step c = let k = is_written c in rw (← c.self.view_is) k.out

pub returns-clause-shape : goal.returns-clause-shape
returns-clause-shape c = λ making past shaped.
    let s = state_of (parts_of c.self.inside) in
    let h = c.self.invariant in
    let k = is_written c in
    let t = kept_as _ _ k.leaves.state k.leaves.kept in
    written_shaped s _ making past c.args.actor c.args.frame c.done.result c.sealed-work.result.rec h.sound h.guarded t.sound t.guarded
    (rw (← c.self.view_is) at c.requires) k.out (rw (← c.self.view_is) at shaped)

pub returns-clause-fits : goal.returns-clause-fits
returns-clause-fits c = λ making past shaped fits.
    let d = parts_of c.self.inside in
    let h = c.self.invariant in
    let leaves : (state_of d).is_sealing c.args.frame.0 ≡ true = rw (← c.self.view_is) at c.requires in
    let k = is_written c in
    written_fits (state_of d) _ making past c.args.actor c.args.frame c.done.result c.sealed-work.result.rec h.sound h.guarded leaves
    (low_out d c.args.frame.0 leaves) k.out (rw (← c.self.view_is) at shaped) fits

pub returns-clause-arrays : goal.returns-clause-arrays
returns-clause-arrays c = λ making past shaped all.
    let h = c.self.invariant in
    let k = is_written c in
    written_arrays (state_of (parts_of c.self.inside)) _ making past c.args.actor c.args.frame c.done.result
    c.sealed-work.result.rec h.sound
    h.guarded (rw (← c.self.view_is) at c.requires) k.out (rw (← c.self.view_is) at shaped) (rw (← c.self.view_is) at all)

pub returns-clause-array_record : goal.returns-clause-array_record
returns-clause-array_record c = λ making past shaped all.
    let h = c.self.invariant in
    let k = is_written c in
    array_given (state_of (parts_of c.self.inside)) _ making past c.args.actor c.args.frame c.done.result c.sealed-work.result.rec k.out
    h.guarded (rw (← c.self.view_is) at all) (rw (← c.self.view_is) at shaped)

pub returns-clause-history : goal.returns-clause-history
returns-clause-history c = λ making past records upholds.
    let s = state_of (parts_of c.self.inside) in
    let h = c.self.invariant in
    let k = is_written c in
    let t = kept_as _ _ k.leaves.state k.leaves.kept in
    written_all s _ making past records c.args.actor c.args.frame c.done.result c.sealed-work.result.rec h.sound h.guarded t.sound t.guarded
    (rw (← c.self.view_is) at c.requires) k.out (rw (← c.self.view_is) at upholds)

pub returns-clause-making : goal.returns-clause-making
returns-clause-making c =
    rw (← c.self.view_is) (written_making _ _ c.args.actor c.args.frame c.done.result c.sealed-work.result.rec (is_written c).out)
