use Rattle.std.proofs.Common.{sym, subst, []}
use Rattle.sgx_machine.specs.inner.Parts.{Parts}
use Rattle.audit_check.specs.inner.Asks.{Checked}
use Rattle.audit_check.proofs.PlaceLaws.{made_same, new_checked, new_cpus}
use Rattle.audit_check.proofs.checking.check.Goals as goal

pub check_with-requires-clause-cpus : goal.check_with-requires-clause-cpus
check_with-requires-clause-cpus g c =
    new_cpus c.args.job.now _ 16
    (made_same c.args.job.now c.in_ok-machine.machine c.epc.result 16 c.key.result.now c.start_epoch.result c.start_version.result
    c.in_ok-machine.ensures.value c.epc.ensures.value c.key.ensures c.start_epoch.ensures.value c.start_version.ensures.value)

pub check_with-requires-clause-checked : goal.check_with-requires-clause-checked
check_with-requires-clause-checked g c =
    subst (λ kept. Checked c.args.job.now 16 [] c.in_ok-machine.machine kept) (sym c.new-records.ensures)
    (new_checked c.args.job.now _ 16
    (made_same c.args.job.now c.in_ok-machine.machine c.epc.result 16 c.key.result.now c.start_epoch.result c.start_version.result
    c.in_ok-machine.ensures.value c.epc.ensures.value c.key.ensures c.start_epoch.ensures.value c.start_version.ensures.value)
    c.in_ok-machine.ensures.history)
