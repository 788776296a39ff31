use Rattle.std.proofs.Common.{◌≡◌, ◌-◌}
use Rattle.sgx_machine.specs.inner.Parts.{state_of}
use Rattle.driver_rules.specs.Spares.{least_from}
use Rattle.driver_pass.specs.inner.Dues.{is_spare_in}
use Rattle.driver_pass.proofs.dues.spare.Given as goal

abbrev pub invariant-loop-va : goal.invariant-loop-va
invariant-loop-va l =
    least_from (is_spare_in l.driver (state_of l.machine)) l.va (l.driver.va_pages - l.va)
    ≡ least_from (is_spare_in l.driver (state_of l.machine)) 1 (l.driver.va_pages - 1)
