use Rattle.std.proofs.Common.{ap, ◌∙◌}
use Rattle.job_grammar.specs.Jobs.{tcs_line}
use Rattle.driver_tables.specs.inner.Counts.{last_end}
use Rattle.due_tables.specs.inner.TcsTurns.{tcs_by}
use Rattle.due_tables.proofs.PlaceLaws.{table_pushed}
use Rattle.due_tables.proofs.tcs_turns.TcsTurns.new.Goals as goal

pub loop-enclave-preserved : goal.loop-enclave-preserved
loop-enclave-preserved c =
    table_pushed c.args.arrays c.args.enclaves.now c.loop-enclave.enclave-index c.enclave-item.result c.loop-enclave.pages.items
    c.push-in-loop-enclave.new.self.items c.in_ok-turns_of.field-0 c.loop-enclave-test.true c.enclave-item.is c.loop-enclave.invariant
    (c.in_ok-turns_of.ensures.sized ∙ ap last_end c.deref.ensures.value)
    (λ n. c.in_ok-turns_of.ensures.turns n ∙ ap (λ ls. tcs_by (tcs_line ls n) 0) c.deref.ensures.value) c.in_ok-push-2.ensures.items
