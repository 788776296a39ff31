use Rattle.std.proofs.Common.{ℕ, List, ◌++◌, ap, ◌∙◌, arith}
use Rattle.job_grammar.specs.inner.Jobs.{enclave_view}
use Rattle.job_print.specs.JobText.{enclave_says, statements_text}
use Rattle.job_print.proofs.TextLaws.{numbered_more}
use Rattle.job_print.proofs.printer.push_enclaves.Goals as goal

pub loop-enclave-preserved : goal.loop-enclave-preserved
loop-enclave-preserved c =
    let inv = c.loop-enclave.invariant in (
      omega (arith, inv.0),
      c.in_ok-push_enclave.ensures
          ∙ ap (λ (t : List ℕ). t ++ statements_text (enclave_says c.loop-enclave.number (enclave_view c.enclave-item.result))) inv.1
          ∙ numbered_more enclave_says enclave_view c.args.onto.now.items 1 c.loop-enclave.number c.args.enclaves.now
          c.loop-enclave.enclave-index c.enclave-item.result c.loop-enclave-test.true c.enclave-item.is inv.0,
    )
