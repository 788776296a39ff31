use Rattle.std.proofs.Common.{◌≡◌, Some, refl, slice_get}
use Rattle.job_grammar.specs.inner.Jobs.{enclave_view}
use Rattle.job_grammar.proofs.EnclaveLaws.{enclave-told}
use Rattle.script_rules.proofs.CursorLaws.{left_enclave}
use Rattle.script_rules.proofs.cursor.BuildCursor.next_enclave.Goals as goal

pub returns-clause-some : goal.returns-clause-some
returns-clause-some c =
    let told = enclave-told c.enclaves.result.now c.from.result c.get.result c.get.ensures.lookup.3 in
    let found = rw c.in_ok-made.was at told in
    let at : slice_get c.args.job.now.enclaves c.args.self.now.enclave ≡ Some (enclave_view c.in_ok-made.made.now) =
    rw (← c.enclaves.ensures.value, ← c.from.ensures) found in
    left_enclave c.args.job.now c.args.self.now c.requires.vas (enclave_view c.in_ok-made.made.now) _ c.requires.finished at (λ e. refl)
