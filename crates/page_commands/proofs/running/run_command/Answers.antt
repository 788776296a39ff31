use Rattle.std.proofs.Common.{List, reverse, inr, refl}
use Rattle.job_grammar.specs.Jobs.{JobView}
use Rattle.sgx_rules.specs.declared.entries.Entry.{Entry}
use Rattle.page_commands.specs.Runs.{HalfGiven}
use Rattle.page_commands.proofs.CommandLaws.{ran-by}
use Rattle.page_commands.proofs.EndLaws.{no_run, some_read}
use Rattle.page_commands.proofs.running.run_command.Goals as goal

pub returns-in-Ok-run_job-clause-broke : goal.returns-in-Ok-run_job-clause-broke
returns-in-Ok-run_job-clause-broke g c = λ failed.
    (let run = c.in-Ok-run_job.run' in
    let ran = ran-by (g.J.Source.left c.args.job.now) c.in-Ok.job run.job (reverse run.entries.items) run.end
    (g.B.Backing.told run.store) (g.B.Backing.plans run.store)
    (λ (j : JobView) (past : List Entry). HalfGiven j past (g.K.Sink.given c.args.out.now) (g.K.Sink.given c.give_run.new.out)
    (g.L.Sink.given c.args.trace.now) (g.L.Sink.given c.give_run.new.trace))
    c.in-Ok.ensures.job c.in-Ok-run_job.ensures.job c.in-Ok-run_job.ensures.run (c.give_run.ensures.broke failed) in
    inr (ran.0, ran.1, (run.end, rw c.give_run.ensures.store ran.2)))

pub returns-in-Ok-run_job-clause-back : goal.returns-in-Ok-run_job-clause-back
returns-in-Ok-run_job-clause-back g c =
    let run = c.in-Ok-run_job.run' in
    let ran = ran-by (g.J.Source.left c.args.job.now) c.in-Ok.job run.job (reverse run.entries.items) run.end
    (g.B.Backing.told run.store) (g.B.Backing.plans run.store) (λ (j : JobView) (past : List Entry). Unit {0})
    c.in-Ok.ensures.job c.in-Ok-run_job.ensures.job c.in-Ok-run_job.ensures.run tt in
    rw c.give_run.ensures.store (ran.0, ran.1, (run.end, ran.2))

pub returns-in-Err-clause-unrun : goal.returns-in-Err-clause-unrun
returns-in-Err-clause-unrun g c = λ none. (
  rw c.unrun.ensures.status
      (no_run (g.J.Source.left c.args.job.now) c.in-Err.unread c.tell.result _ _ c.in-Err.ensures.fault c.tell.ensures.told),
  refl,
)

pub returns-in-Err-run_job-clause-unrun : goal.returns-in-Err-run_job-clause-unrun
returns-in-Err-run_job-clause-unrun g c = λ none. (
  rw c.unrun-in-Err-run_job.ensures.status (some_read (g.J.Source.left c.args.job.now) _ (λ bytes. refl)),
  refl,
)
