use Rattle.std.proofs.Common.{refl}
use Rattle.page_commands.proofs.EndLaws.{job_no_trace, no_job}
use Rattle.page_commands.proofs.traces.read_traced.Goals as goal

pub returns-in-Err-clause-told : goal.returns-in-Err-clause-told
returns-in-Err-clause-told g c =
    no_job (g.J.Source.left c.args.job.now) (g.O.Source.left c.args.old.now) _ c.in-Err.unread (λ j past status text. ⊥) c.tell.result _ _
    refl c.in-Err.ensures.fault c.tell.ensures.told

pub returns-in-Err-read_entries-clause-told : goal.returns-in-Err-read_entries-clause-told
returns-in-Err-read_entries-clause-told g c =
    job_no_trace (g.J.Source.left c.args.job.now) (g.O.Source.left c.args.old.now) _ c.in-Ok.job c.in-Err-read_entries.status _ _
    c.in-Ok.ensures.job c.in-Err-read_entries.ensures.told
