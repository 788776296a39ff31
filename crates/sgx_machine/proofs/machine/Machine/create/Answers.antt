use Rattle.std.proofs.Common.{◌≡◌, ◌<◌, ◌∙◌, sym, arith, None, Some, is_some, length, length-set}
use Rattle.sgx_types.specs.Cases.{first_of_row}
use Rattle.sgx_rules.specs.Table.{create_row}
use Rattle.sgx_rules.proofs.Rows.{none_holds}
use Rattle.epcm_entry.specs.inner.Sights.{sight_in}
use Rattle.enclave_build.proofs.Columns.{length-with_secs}
use Rattle.secs_state.specs.inner.Secs.{created, with_frame}
use Rattle.secs_state.specs.inner.Table.{enclave_at}
use Rattle.sgx_machine.specs.inner.Whole.{parts_of}
use Rattle.sgx_machine.specs.inner.Parts.{state_of}
use Rattle.machine_laws.specs.inner.State.{after_create}
use Rattle.sgx_types.proofs.Truths.{apart}
use Rattle.sgx_machine.proofs.Columns.{table_written}
use Rattle.sgx_machine.proofs.BuildBridge.{creates, created_own, no_enclave, create_state, create_held}
use Rattle.sgx_machine.proofs.KeptStates.{kept_create}
use Rattle.sgx_machine.proofs.WholeMachines.{kept_of, whole, builds, done_step}
use Rattle.sgx_machine.proofs.machine.Machine.create.Goals as goal

pub invariant_of-self : goal.invariant_of-self
invariant_of-self c =
    let m = c.self.inside in
    let d = parts_of m in
    let e = c.args.enclave in
    let h = c.self.invariant in
    let allowed : first_of_row (create_row e c.args.base c.args.size (is_some ((state_of d).enclaves e)) (sight_in d.epc c.args.frame.0))
    ≡ None = rw (c.is_created-exists.ensures, ← c.self.view_is) at (sym c.in-Ok.ensures.row) in
    let k = creates d.epc c.args.frame.0 e c.args.base c.args.size _ allowed in
    let new = no_enclave (enclave_at d.secs e) (none_holds
    (create_row e c.args.base c.args.size (is_some ((state_of d).enclaves e)) (sight_in d.epc c.args.frame.0)) allowed).1.0 in
    let there : e < length d.measures = omega (arith, k.last, h.places) in
    rw (c.insert.ensures, c.in-Ok.ensures.secs, c.in-Ok.ensures.done, c.from.ensures)
    (whole _ (after_create (state_of d) e c.args.frame.0 c.args.base c.args.size c.in-Ok.measure)
    (builds m h _ _ _ _ (create_state d e c.args.frame.0 c.args.base c.args.size c.in-Ok.measure k new h.table there)
    (kept_create (state_of d) e c.args.frame.0 c.args.base c.args.size c.in-Ok.measure k.takes.low k.takes.free
    (apart e 0 (λ none. omega (arith, none, k.first))) (kept_of m h))
    (length-set d.measures _ _ ∙ h.places)
    (table_written d.secs e (with_frame (created e c.args.base c.args.size) (Some c.args.frame)) h.table.places k.first k.last h.table
    (created_own e c.args.frame.0 c.args.base c.args.size k.lawful))
    (create_held d e c.args.frame.0 c.args.base c.args.size k new h.table h.held) (length-with_secs d.epc c.args.frame.0 e)))

pub invariant_of-self-in-Err-Refused : goal.invariant_of-self-in-Err-Refused
invariant_of-self-in-Err-Refused c = rw c.in-Err-Refused.ensures.refused c.self.invariant

pub returns-in-Ok-clause-step : goal.returns-in-Ok-clause-step
returns-in-Ok-clause-step c =
    let d = parts_of c.self.inside in
    let e = c.args.enclave in
    let h = c.self.invariant in
    let allowed : first_of_row (create_row e c.args.base c.args.size (is_some ((state_of d).enclaves e)) (sight_in d.epc c.args.frame.0))
    ≡ None = rw (c.is_created-exists.ensures, ← c.self.view_is) at (sym c.in-Ok.ensures.row) in
    let k = creates d.epc c.args.frame.0 e c.args.base c.args.size _ allowed in
    let new = no_enclave (enclave_at d.secs e) (none_holds
    (create_row e c.args.base c.args.size (is_some ((state_of d).enclaves e)) (sight_in d.epc c.args.frame.0)) allowed).1.0 in
    let there : e < length d.measures = omega (arith, k.last, h.places) in
    rw (c.insert.ensures, c.in-Ok.ensures.secs, c.in-Ok.ensures.done, c.from.ensures, ← c.self.view_is)
    (done_step _ _ _ allowed (
      c.done.ensures,
      record {
        begun = c.in-Ok.measure;
        log = c.in-Ok.ensures.log;
        state = create_state d e c.args.frame.0 c.args.base c.args.size c.in-Ok.measure k new h.table there;
      },
    ))

pub invariant_of-self-in-Err-Memory : goal.invariant_of-self-in-Err-Memory
invariant_of-self-in-Err-Memory c = rw c.in-Err-Memory.ensures.refused c.self.invariant
