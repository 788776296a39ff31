use Rattle.std.proofs.Common.{◌≡◌, ◌∙◌, sym, ap, Some, length, length-set}
use Rattle.sgx_types.specs.Pages.{page_at}
use Rattle.secs_state.specs.inner.Secs.{SecsState}
use Rattle.secs_state.specs.inner.Table.{enclave_at}
use Rattle.enclave_build.specs.inner.Build.{with_added}
use Rattle.enclave_build.proofs.Columns.{length-with_added}
use Rattle.sgx_machine.specs.inner.Whole.{parts_of}
use Rattle.sgx_machine.specs.inner.Parts.{state_of}
use Rattle.machine_laws.specs.inner.State.{after_add}
use Rattle.sgx_machine.proofs.Columns.{numbered, table_written}
use Rattle.sgx_machine.proofs.BuildBridge.{adds, added_own, add_held, own_added, paged}
use Rattle.sgx_machine.proofs.BuildSteps.{counted_there, counts_as_added, measure_place, measure_there, add_row_at, add_written}
use Rattle.sgx_machine.proofs.KeptStates.{kept_add}
use Rattle.sgx_machine.proofs.WholeMachines.{kept_of, whole, builds, whole_same, parts_same, done_step, refused_step}
use Rattle.sgx_machine.proofs.machine.Machine.add.Goals.{in-Ok, in-Err}
use Rattle.sgx_machine.proofs.machine.Machine.add.Goals as goal

pub eadd-requires : goal.eadd-requires
eadd-requires c = record {
  counted = counted_there c.self.inside c.self.invariant c.args.page.enclave c.in-Some.secs.now (sym c.in-Some.ensures.value);
  small = c.self.invariant.held.small;
}

pub invariant_of-self-2 : goal.invariant_of-self-2
invariant_of-self-2 c =
    let m = c.self.inside in
    let d = parts_of m in
    let g = c.args.page in
    let x = c.in-Some.secs.now in
    let y = c.unwrap-measure.result.now in
    let h = c.self.invariant in
    let found : enclave_at d.secs g.enclave ≡ Some x = sym c.in-Some.ensures.value in
    let low = measure_place d g.enclave x h.table found h.places in
    let read : Some y ≡ c.index_mut.result.now = rw c.unwrap-measure.ensures at c.as_mut.ensures.value in
    let there = measure_there d.measures g.enclave c.index_mut.result.now y low (rw c.from.ensures at c.index_mut.ensures.value) read in
    elim c.match-eadd.branch [
      | in-Ok w ↦
          (let number = numbered d.secs g.enclave x h.table.places found in
          let k = adds d c.args.frame.0 g.enclave g.number c.args.kind c.args.perm c.args.init _ x (h.table.own g.enclave x found).number
          (sym w.in-Ok.ensures.row) in
          let page : c.eadd.new.epc ≡ with_added d.epc c.args.frame.0 g c.args.kind c.args.perm c.args.init = w.in-Ok.ensures.done
          ∙ ap (λ e. with_added d.epc c.args.frame.0 (page_at e g.number) c.args.kind c.args.perm c.args.init)
          (h.table.own g.enclave x found).number in
          let written = add_written d g c.args.frame.0 c.args.kind c.args.perm c.args.init x _ c.eadd.new.log _ h.table found h.places
          w.in-Ok.ensures.row w.in-Ok.ensures.done w.in-Ok.ensures.secs in
          rw c.from.ensures
          (whole _ (after_add (state_of d) g c.args.frame.0 c.args.kind c.args.perm c.args.init c.eadd.new.log)
          (builds m h _ _ _ _ written (kept_add (state_of d) g c.args.frame.0 c.args.kind c.args.perm c.args.init c.eadd.new.log
          k.takes.low k.takes.free (paged c.args.kind c.args.init k.addable)
          (own_added g.enclave g.number x (h.table.own g.enclave x found) number.0 k.within) k.secs (kept_of m h))
          (length-set d.measures _ _ ∙ h.places) (rw w.in-Ok.ensures.secs
          (table_written d.secs g.enclave _ h.table.places number.0 number.1 h.table
          (added_own g.enclave g.number c.args.kind c.args.perm x (h.table.own g.enclave x found))))
          (rw (page, w.in-Ok.ensures.secs) (add_held d g c.args.frame.0 c.args.kind c.args.perm c.args.init x k found h.table
          (counts_as_added c.eadd.new.epc _ c.eadd.new.secs _ g.enclave page w.in-Ok.ensures.secs
          (ap (λ (z : SecsState). z.enclave) w.in-Ok.ensures.secs ∙ (h.table.own g.enclave x found).number)
          w.in-Ok.ensures.counts) h.held))
          (ap length page ∙ length-with_added d.epc c.args.frame.0 g c.args.kind c.args.perm c.args.init))))
      | in-Err w ↦
          (let kept = w.in-Err.ensures.refused in
          rw c.from.ensures (whole_same m _ (parts_same d c.eadd.new.epc g.enclave x c.eadd.new.secs y c.eadd.new.log h.table found there
          kept.0 kept.1 kept.2) h))
    ]

pub returns-clause-step : goal.returns-clause-step
returns-clause-step c =
    let d = parts_of c.self.inside in
    let g = c.args.page in
    let x = c.in-Some.secs.now in
    let y = c.unwrap-measure.result.now in
    let h = c.self.invariant in
    let found : enclave_at d.secs g.enclave ≡ Some x = sym c.in-Some.ensures.value in
    let low = measure_place d g.enclave x h.table found h.places in
    let read : Some y ≡ c.index_mut.result.now = rw c.unwrap-measure.ensures at c.as_mut.ensures.value in
    let there = measure_there d.measures g.enclave c.index_mut.result.now y low (rw c.from.ensures at c.index_mut.ensures.value) read in
    let row = add_row_at d c.args.actor g.enclave g.number c.args.frame c.args.kind c.args.perm c.args.init x found
    (h.table.own g.enclave x found).number in
    elim c.match-eadd.branch [
      | in-Ok w ↦
          rw (c.from.ensures, ← c.self.view_is)
          (done_step _ _ _ (row ∙ sym w.in-Ok.ensures.row) (
            w.result-is ∙ w.done.ensures,
            record {
              longer = c.eadd.new.log;
              log = rw there w.in-Ok.ensures.log;
              state = add_written d g c.args.frame.0 c.args.kind c.args.perm c.args.init x _ c.eadd.new.log _ h.table found h.places
                  w.in-Ok.ensures.row w.in-Ok.ensures.done w.in-Ok.ensures.secs;
            },
          ))
      | in-Err w ↦
          (let kept = w.in-Err.ensures.refused in
          rw (c.from.ensures, ← c.self.view_is)
          (refused_step _ _ _ _ (row ∙ sym w.in-Err.ensures.row) (
            w.result-is ∙ w.refused-in-Err.ensures,
            ap state_of
                (parts_same d c.eadd.new.epc g.enclave x c.eadd.new.secs y c.eadd.new.log h.table found there kept.0 kept.1 kept.2),
          )))
    ]
