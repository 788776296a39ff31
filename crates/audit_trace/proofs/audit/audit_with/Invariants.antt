use Rattle.std.proofs.Common.{reverse, take}
use Rattle.audit_trace.specs.inner.Audits.{KeepsAudit}
use Rattle.audit_trace.proofs.audit.audit_with.Given as goal

-- all stands for the entries so far, which keep each rule
abbrev pub invariant-loop-place : goal.invariant-loop-place
invariant-loop-place g l = KeepsAudit l.job (reverse (take l.place l.entries)) l.auditing
