use Rattle.std.proofs.Common.{◌∙◌, sym}
use Rattle.sgx_machine.specs.inner.Parts.{state_of}
use Rattle.driver_pass.specs.inner.Dues.{is_spare_in}
use Rattle.driver_pass.proofs.LeastLaws.{next_fails}
use Rattle.driver_pass.proofs.dues.spare.Goals as goal

pub loop-va-preserved : goal.loop-va-preserved
loop-va-preserved c =
    sym (next_fails (is_spare_in c.args.driver.now (state_of c.args.machine.now)) c.loop-va.va c.args.driver.now.va_pages
    c.loop-va-test.true (sym c.is_spare.ensures ∙ c.if-is_spare.false))
    ∙ c.loop-va.invariant
