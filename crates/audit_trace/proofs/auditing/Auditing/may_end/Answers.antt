use Rattle.audit_trace.proofs.JudgeLaws.{ended_told, ready}
use Rattle.audit_trace.proofs.auditing.Auditing.may_end.Goals as goal

pub is_ended-requires : goal.is_ended-requires
is_ended-requires c = record { ready = ready c.args.job.now c.args.self.now c.requires }

pub returns : goal.returns
returns c = λ at. ended_told c.args.job.now c.args.self.now at c.is_ended.result c.is_ended.ensures
