use Rattle.std.proofs.Common.{◌≡◌, true}
use Rattle.audit_dues.specs.inner.Ends.{are_done_by}
use Rattle.audit_dues.proofs.ending.are_done.Given as goal

abbrev pub invariant-loop-number : goal.invariant-loop-number
invariant-loop-number l = are_done_by l.job l.turns l.machine l.number ≡ true
