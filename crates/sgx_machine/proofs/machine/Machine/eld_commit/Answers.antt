use Rattle.std.proofs.Common.{◌≡◌, ◌∙◌, true, refl, ap, None, Some, set}
use Rattle.sgx_rules.specs.inner.Starts.{BareStart}
use Rattle.sgx_rules.specs.Table.{is_loading}
use Rattle.seal_record.specs.declared.unseal.UnsealedWork.{UnsealedWork}
use Rattle.sgx_rules.specs.declared.entries.Action.TheVariants.{Eld}
use Rattle.sgx_rules.specs.declared.entries.Answer.TheVariants.{Moved}
use Rattle.sgx_machine.specs.inner.Whole.{parts_of}
use Rattle.sgx_machine.specs.inner.Parts.{state_of}
use Rattle.machine_laws.specs.inner.Steps.{did_by}
use Rattle.sgx_machine.proofs.CommitBridge.{Ended, IsOpened, brings, ended_back, ended_refused}
use Rattle.sgx_machine.proofs.EwbBridge.{low_in, writable}
use Rattle.sgx_machine.proofs.WaitBridge.{waits}
use Rattle.sgx_machine.proofs.ArrayBridge.{room}
use Rattle.machine_laws.proofs.FitLaws.{reloaded_fits}
use Rattle.machine_laws.proofs.ShapeSteps.{reloaded_arrays_told, reloaded_shaped}
use Rattle.sgx_machine.proofs.KeptStates.{kept_as}
use Rattle.machine_laws.proofs.MakingLaws.{reloaded_making}
use Rattle.machine_laws.proofs.WholeLaws.{reloaded_all, reloaded_told}
use Rattle.sgx_machine.proofs.PagingSights.{loads_in}
use Rattle.sgx_machine.proofs.WholeMachines.{whole}
use Rattle.sgx_machine.proofs.machine.Machine.eld_commit.Goals as goal

-- what the commit leaves and answers where it is done
is_back : (c : goal.After-drop-work-inside-in-Ok)
    → Ended c.self.inside c.args.actor c.args.frame c.done.result c.args.work.rec
    (record (parts_of c.self.inside) {
      epc = c.eld_commit-ended.new.epc;
      secs = c.eld_commit-ended.new.secs;
      va = c.eld_commit-ended.new.va;
      starts = set c.self.inside.starts.items c.args.frame.0 None;
    })
is_back c =
    let work = c.opened-work.result in
    let ends = c.in-Ok.ensures {u = tt} in
    let is : IsOpened (state_of (parts_of c.self.inside)) c.args.frame.0 work c.args.work.rec =
    record {
      key = rw (← c.self.view_is) at c.opened-work.ensures.key;
      version = rw (← c.self.view_is) at c.opened-work.ensures.version;
      rec_is = c.opened-work.ensures.rec;
    } in
    ended_back c.self.inside c.self.invariant c.args.frame work c.args.work.rec c.start-start.result c.unwrap-page.result
    (rw (← c.self.view_is) at c.requires.loading) is (rw (← c.self.view_is) at c.start-start.ensures) c.unwrap-page.ensures c.args.actor
    c.eld_commit-ended.new.epc c.eld_commit-ended.new.secs c.eld_commit-ended.new.va c.done.result
    (rw (← c.self.view_is) at c.requires.can_end) ends.row ends.epc ends.va ends.beside ends.counts
    (c.done.ensures ∙ ap (λ (o : UnsealedWork). did_by c.args.actor (Eld c.args.frame)
    (Moved c.unwrap-page.result c.start-start.result.version o.rec.tag)) c.work.view_is)

-- .. and where it is refused
is_refused : (c : goal.After-drop-work-inside-3)
    → Ended c.self.inside c.args.actor c.args.frame c.refused.result c.args.work.rec
    (record (parts_of c.self.inside) {
      epc = c.eld_commit-ended.new.epc;
      secs = c.eld_commit-ended.new.secs;
      va = c.eld_commit-ended.new.va;
      starts = set c.self.inside.starts.items c.args.frame.0 None;
    })
is_refused c =
    let work = c.opened-work.result in
    let ends = c.in-Err.ensures {u = tt} in
    let is : IsOpened (state_of (parts_of c.self.inside)) c.args.frame.0 work c.args.work.rec =
    record {
      key = rw (← c.self.view_is) at c.opened-work.ensures.key;
      version = rw (← c.self.view_is) at c.opened-work.ensures.version;
      rec_is = c.opened-work.ensures.rec;
    } in
    ended_refused c.self.inside c.self.invariant c.args.frame work c.args.work.rec c.start-start.result c.unwrap-page.result
    (rw (← c.self.view_is) at c.requires.loading) is (rw (← c.self.view_is) at c.start-start.ensures) c.unwrap-page.ensures c.args.actor
    c.eld_commit-ended.new.epc c.eld_commit-ended.new.secs c.eld_commit-ended.new.va c.refused.result c.in-Err.refusal
    ends.row ends.refused.0
    ends.refused.1 ends.beside ends.counts c.refused.ensures

pub unwrap-page-requires : goal.unwrap-page-requires
unwrap-page-requires c =
    loads_in (state_of (parts_of c.self.inside)) c.args.frame.0 _ c.self.invariant.guarded (rw (← c.self.view_is) at c.requires.loading)
    (rw (← c.self.view_is) at c.start-start.ensures)

pub eld_commit-ended-requires : goal.eld_commit-ended-requires
eld_commit-ended-requires c =
    let m = c.self.inside in
    let h = c.self.invariant in
    let x = c.start-start.result in
    let page = c.unwrap-page.result in
    let own : BareStart = record { at = x.at; slot = x.slot; version = x.version; loads = x.loads } in
    let comes : is_loading ((state_of (parts_of m)).content c.args.frame.0) ≡ true = rw (← c.self.view_is) at c.requires.loading in
    let at : (state_of (parts_of m)).start c.args.frame.0 ≡ Some own = rw (← c.self.view_is) at c.start-start.ensures in
    let w = waits m h c.args.frame.0 own page comes at c.unwrap-page.ensures in
    let is : IsOpened (state_of (parts_of m)) c.args.frame.0 c.opened-work.result c.args.work.rec =
    record {
      key = rw (← c.self.view_is) at c.opened-work.ensures.key;
      version = rw (← c.self.view_is) at c.opened-work.ensures.version;
      rec_is = c.opened-work.ensures.rec;
    } in
    record {
      started = w.waits;
      slot = (writable m h c.args.frame.0 own (low_in (parts_of m) c.args.frame.0 comes) at).is_slot;
      known = rw w.is refl;
      kinds = rw w.is w.own;
      pages = h.held.pages;
      room = λ allowed. room m h c.args.frame.0 page w.waits
          (brings m h c.args.frame c.opened-work.result c.args.work.rec x page comes is at c.unwrap-page.ensures
          (rw (← c.self.view_is) at c.requires.can_end) allowed);
      counted = h.held.counted;
      small = h.held.small;
      places = h.table.places;
    }

pub invariant_of-self : goal.invariant_of-self
invariant_of-self c = let k = is_back c in whole _ _ k.leaves

pub returns-in-Ok-clause-step : goal.returns-in-Ok-clause-step
returns-in-Ok-clause-step c = let k = is_back c in rw (← c.self.view_is) k.back

pub returns-in-Ok-clause-shape : goal.returns-in-Ok-clause-shape
returns-in-Ok-clause-shape c = λ making past shaped.
    let h = c.self.invariant in
    let k = is_back c in
    let t = kept_as _ _ k.leaves.state k.leaves.kept in
    reloaded_shaped (state_of (parts_of c.self.inside)) _ making past c.args.actor c.args.frame c.done.result c.args.work.rec h.sound
    h.guarded t.sound t.guarded (rw (← c.self.view_is) at c.requires.loading) k.back (rw (← c.self.view_is) at shaped)

pub returns-in-Ok-clause-fits : goal.returns-in-Ok-clause-fits
returns-in-Ok-clause-fits c = λ making past shaped fits.
    let d = parts_of c.self.inside in
    let h = c.self.invariant in
    let comes : is_loading ((state_of d).content c.args.frame.0) ≡ true = rw (← c.self.view_is) at c.requires.loading in
    let k = is_back c in
    reloaded_fits (state_of d) _ making past c.args.actor c.args.frame c.args.work.rec c.done.result h.sound h.guarded comes
    (low_in d c.args.frame.0 comes) k.back (rw (← c.self.view_is) at shaped) fits

pub returns-in-Ok-clause-history : goal.returns-in-Ok-clause-history
returns-in-Ok-clause-history c = λ making past records given upholds unforged.
    let h = c.self.invariant in
    let k = is_back c in
    let t = kept_as _ _ k.leaves.state k.leaves.kept in
    reloaded_all (state_of (parts_of c.self.inside)) _ making past records c.args.actor c.args.frame c.args.work.rec c.done.result h.sound
    h.guarded t.sound t.guarded (rw (← c.self.view_is) at c.requires.loading)
    (rw (← c.self.view_is) at c.requires.can_end) k.back (rw (← c.self.view_is) at upholds) given
    (rw (← c.self.view_is) at unforged)

pub invariant_of-self-2 : goal.invariant_of-self-2
invariant_of-self-2 c = let k = is_refused c in whole _ _ k.leaves

pub returns-clause-step : goal.returns-clause-step
returns-clause-step c = let k = is_refused c in rw (← c.self.view_is) k.back

pub returns-clause-shape : goal.returns-clause-shape
returns-clause-shape c = λ making past shaped.
    let h = c.self.invariant in
    let k = is_refused c in
    let t = kept_as _ _ k.leaves.state k.leaves.kept in
    reloaded_shaped (state_of (parts_of c.self.inside)) _ making past c.args.actor c.args.frame c.refused.result c.args.work.rec h.sound
    h.guarded t.sound t.guarded (rw (← c.self.view_is) at c.requires.loading) k.back (rw (← c.self.view_is) at shaped)

pub returns-clause-fits : goal.returns-clause-fits
returns-clause-fits c = λ making past shaped fits.
    let d = parts_of c.self.inside in
    let h = c.self.invariant in
    let comes : is_loading ((state_of d).content c.args.frame.0) ≡ true = rw (← c.self.view_is) at c.requires.loading in
    let k = is_refused c in
    reloaded_fits (state_of d) _ making past c.args.actor c.args.frame c.args.work.rec c.refused.result h.sound h.guarded comes
    (low_in d c.args.frame.0 comes) k.back (rw (← c.self.view_is) at shaped) fits

pub returns-clause-history : goal.returns-clause-history
returns-clause-history c = λ making past records given upholds unforged.
    let h = c.self.invariant in
    let k = is_refused c in
    let t = kept_as _ _ k.leaves.state k.leaves.kept in
    reloaded_all (state_of (parts_of c.self.inside)) _ making past records c.args.actor c.args.frame c.args.work.rec c.refused.result
    h.sound h.guarded t.sound t.guarded (rw (← c.self.view_is) at c.requires.loading)
    (rw (← c.self.view_is) at c.requires.can_end) k.back (rw (← c.self.view_is) at upholds) given
    (rw (← c.self.view_is) at unforged)

pub returns-in-Ok-clause-back : goal.returns-in-Ok-clause-back
returns-in-Ok-clause-back c = λ making past records upholds brings.
    let h = c.self.invariant in
    let k = is_back c in
    let t = kept_as _ _ k.leaves.state k.leaves.kept in
    reloaded_told (state_of (parts_of c.self.inside)) _ making past records c.args.actor c.args.frame c.args.work.rec c.done.result h.sound
    h.guarded t.sound t.guarded (rw (← c.self.view_is) at c.requires.loading)
    (rw (← c.self.view_is) at c.requires.can_end) k.back (rw (← c.self.view_is) at upholds)
    (rw (← c.self.view_is) at brings)

pub returns-in-Ok-clause-making : goal.returns-in-Ok-clause-making
returns-in-Ok-clause-making c =
    rw (← c.self.view_is) (reloaded_making _ _ c.args.actor c.args.frame c.done.result c.args.work.rec (is_back c).back)

pub returns-clause-back : goal.returns-clause-back
returns-clause-back c = λ making past records upholds brings.
    let h = c.self.invariant in
    let k = is_refused c in
    let t = kept_as _ _ k.leaves.state k.leaves.kept in
    reloaded_told (state_of (parts_of c.self.inside)) _ making past records c.args.actor c.args.frame c.args.work.rec c.refused.result
    h.sound h.guarded t.sound t.guarded (rw (← c.self.view_is) at c.requires.loading)
    (rw (← c.self.view_is) at c.requires.can_end) k.back (rw (← c.self.view_is) at upholds)
    (rw (← c.self.view_is) at brings)

pub returns-clause-making : goal.returns-clause-making
returns-clause-making c =
    rw (← c.self.view_is) (reloaded_making _ _ c.args.actor c.args.frame c.refused.result c.args.work.rec (is_refused c).back)

pub returns-in-Ok-clause-arrays : goal.returns-in-Ok-clause-arrays
returns-in-Ok-clause-arrays c = λ making past shaped all brings.
    let h = c.self.invariant in
    let k = is_back c in
    reloaded_arrays_told (state_of (parts_of c.self.inside)) _ making past c.args.actor c.args.frame c.done.result c.args.work.rec h.sound
    h.guarded (rw (← c.self.view_is) at c.requires.loading)
    (rw (← c.self.view_is) at c.requires.can_end) k.back (rw (← c.self.view_is) at shaped) (rw (← c.self.view_is) at all)
    (rw (← c.self.view_is) at brings)

pub returns-clause-arrays : goal.returns-clause-arrays
returns-clause-arrays c = λ making past shaped all brings.
    let h = c.self.invariant in
    let k = is_refused c in
    reloaded_arrays_told (state_of (parts_of c.self.inside)) _ making past c.args.actor c.args.frame c.refused.result
    c.args.work.rec h.sound
    h.guarded (rw (← c.self.view_is) at c.requires.loading)
    (rw (← c.self.view_is) at c.requires.can_end) k.back (rw (← c.self.view_is) at shaped) (rw (← c.self.view_is) at all)
    (rw (← c.self.view_is) at brings)
