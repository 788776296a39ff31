use Rattle.std.proofs.Common.{ℕ, length, subst, sym, ◌<◌, ◌∙◌}
use Rattle.sgx_machine.specs.inner.Parts.{cpu_at}
use Rattle.driver_pass.specs.inner.Keeping.{is_older}
use Rattle.driver_pass.proofs.KeeperLaws.{next_fails}
use Rattle.driver_pass.proofs.keepers.first_keeper.Goals as goal

pub loop-number-preserved : goal.loop-number-preserved
loop-number-preserved c =
    sym (next_fails (λ (p : ℕ). is_older (cpu_at c.args.machine.now p).mode c.args.enclave c.args.epoch) c.loop-number.number
    (length c.args.machine.now.cpus) (subst (λ (n : ℕ). c.loop-number.number < n) c.cpus-number-end.ensures.value c.loop-number-test.true)
    (sym c.is_older.ensures ∙ c.if-is_older.false))
    ∙ c.loop-number.invariant
