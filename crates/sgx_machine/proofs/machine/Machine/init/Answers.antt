use Rattle.std.proofs.Common.{◌≡◌, ◌∙◌, refl, sym, ap, inl, Some}
use Rattle.secs_state.specs.inner.Table.{enclave_at}
use Rattle.secs_state.specs.inner.Sights.{sight_of}
use Rattle.sgx_machine.specs.inner.Whole.{parts_of}
use Rattle.sgx_machine.specs.inner.Parts.{state_of}
use Rattle.machine_laws.specs.inner.State.{after_init, secs_sight}
use Rattle.machine_laws.specs.inner.Steps.{IsJudged}
use Rattle.sgx_machine.proofs.Columns.{numbered, table_written}
use Rattle.sgx_machine.proofs.BuildBridge.{init_state, initialised_own}
use Rattle.sgx_machine.proofs.BuildSteps.{counted_there, measure_place, measure_there, init_row_at, init_refused}
use Rattle.sgx_machine.proofs.HeldLaws.{held_written}
use Rattle.sgx_machine.proofs.KeptStates.{kept_init}
use Rattle.sgx_machine.proofs.WholeMachines.{kept_of, whole, builds, whole_same, secs_same, done_step}
use Rattle.sgx_machine.proofs.machine.Machine.init.Goals.{in-Ok, in-Err}
use Rattle.sgx_machine.proofs.machine.Machine.init.Goals as goal

pub einit-requires : goal.einit-requires
einit-requires c = record {
  counted = counted_there c.self.inside c.self.invariant c.args.enclave c.in-Some.secs.now
      (sym c.in-Some.ensures.value);
}

pub invariant_of-self-2 : goal.invariant_of-self-2
invariant_of-self-2 c =
    let m = c.self.inside in
    let d = parts_of m in
    let e = c.args.enclave in
    let x = c.in-Some.secs.now in
    let h = c.self.invariant in
    let found : enclave_at d.secs e ≡ Some x = sym c.in-Some.ensures.value in
    elim c.match-einit.branch [
      | in-Ok w ↦
          (let number = numbered d.secs e x h.table.places found in
          rw w.in-Ok.ensures.done
          (whole _ (after_init (state_of d) e) (builds m h _ _ _ _ (init_state d e x found h.table) (kept_init (state_of d) e (kept_of m h))
          h.places
          (table_written d.secs e _ h.table.places number.0 number.1 h.table (initialised_own e x (h.table.own e x found)))
          (held_written d.secs e x _ h.table.places number.0 number.1 found d.epc d.va (record { children = refl; frame = refl }) h.held)
          refl)))
      | in-Err w ↦ whole_same m _ (secs_same d e x c.einit.new.secs h.table found w.in-Err.ensures.refused) h
    ]

pub returns-clause-step : goal.returns-clause-step
returns-clause-step c =
    let d = parts_of c.self.inside in
    let e = c.args.enclave in
    let x = c.in-Some.secs.now in
    let y = c.unwrap-measure.result.now in
    let h = c.self.invariant in
    let found : enclave_at d.secs e ≡ Some x = sym c.in-Some.ensures.value in
    let low = measure_place d e x h.table found h.places in
    let read : Some y ≡ c.index.result.now = rw c.unwrap-measure.ensures at c.as_ref.ensures.value in
    let there = measure_there d.measures e c.index.result.now y low (rw c.from.ensures at c.index.ensures) read in
    let row = init_row_at d c.args.actor e c.args.expect x found (h.table.own e x found).number in
    elim c.match-einit.branch [
      | in-Ok w ↦
          (let judged : IsJudged (state_of d) c.args.actor e c.args.expect c.match-einit.result _ = record {
            digest = w.in-Ok.digest;
            finished = rw there w.in-Ok.ensures.answer;
            judged = inl (w.in-Ok.ensures.expected, w.result-is ∙ w.done.ensures, rw w.in-Ok.ensures.done (init_state d e x found h.table));
          } in
          rw (← c.self.view_is) (done_step _ _ _ (row ∙ sym w.in-Ok.ensures.row) judged))
      | in-Err w ↦
          rw (← c.self.view_is)
          (init_refused (state_of d) c.args.actor e c.args.expect (sight_of x) (secs_sight (state_of d) x.enclave) y w.in-Err.refusal
          c.match-einit.result _ row there
          w.in-Err.ensures.row (λ made is. rw is at w.in-Err.ensures.expected) w.in-Err.ensures.measured
          (w.result-is ∙ w.refused-in-Err.ensures) (ap state_of (secs_same d e x c.einit.new.secs h.table found w.in-Err.ensures.refused)))
    ]
