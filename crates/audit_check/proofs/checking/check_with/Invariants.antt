use Rattle.std.proofs.Common.{◌≡◌, length, reverse, take}
use Rattle.audit_machine.specs.inner.Kept.{records_of}
use Rattle.audit_check.specs.inner.Asks.{Checked}
use Rattle.audit_check.proofs.checking.check_with.Given as goal

-- machine and records stand for the entries so far, which keep the processor's rules
abbrev pub invariant-loop-place : goal.invariant-loop-place
invariant-loop-place g l =
    (length l.machine.cpus ≡ 16) × Checked l.job 16 (reverse (take l.place l.entries)) l.machine (records_of l.records)
