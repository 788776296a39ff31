use Rattle.std.proofs.Common.{ap, arith, leb-false, length}
use Rattle.std.proofs.lemmas.List.{length-map}
use Rattle.job_grammar.specs.inner.Jobs.{enclave_view}
use Rattle.script_rules.proofs.CursorLaws.{some_left}
use Rattle.script_rules.proofs.cursor.BuildCursor.is_done.Goals as goal

pub returns-clause-some : goal.returns-clause-some
returns-clause-some c = λ more.
    let len = length-map c.enclaves.result.now enclave_view in
    let all = ap length c.enclaves.ensures.value in
    some_left c.args.job.now c.args.self.now (omega (arith, c.if-self-gt0.false)) c.if-self.false
    (omega (arith, leb-false (length c.enclaves.result.now) c.from.result more, len, all, c.from.ensures))
