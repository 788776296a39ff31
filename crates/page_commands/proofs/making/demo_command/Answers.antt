use Rattle.page_commands.proofs.CommandLaws.{demo-by}
use Rattle.std.proofs.Common.{List, subst, ◌∙◌}
use Rattle.io_edges.specs.Sinks.{GivesPart}
use Rattle.job_grammar.specs.Jobs.{JobView}
use Rattle.job_make.specs.MadeJob.{made_job}
use Rattle.page_commands.specs.Summary.{summary_of}
use Rattle.sgx_rules.specs.declared.entries.Entry.{Entry}
use Rattle.page_commands.proofs.making.demo_command.Goals as goal

pub returns-in-Ok-run_job-clause-broke : goal.returns-in-Ok-run_job-clause-broke
returns-in-Ok-run_job-clause-broke g c = λ failed.
    (let run = c.in-Ok-run_job.run' in (
      run.end,
      rw c.sum_up.ensures.store
          (demo-by c.args.number c.args.size c.in-Ok.job run.job run.entries.items run.end (g.B.Backing.told run.store)
          (g.B.Backing.plans run.store)
          (λ (entries : List Entry). GivesPart (g.K.Sink.given c.args.out.now) (g.K.Sink.given c.sum_up.new.out)
          (summary_of (made_job c.args.number c.args.size) c.args.size entries))
          c.in-Ok.ensures c.in-Ok-run_job.ensures.job c.in-Ok-run_job.ensures.run
          (subst (λ (j : JobView). GivesPart (g.K.Sink.given c.args.out.now) (g.K.Sink.given c.sum_up.new.out)
          (summary_of j c.args.size run.entries.items)) (c.in-Ok-run_job.ensures.job ∙ c.in-Ok.ensures) (c.sum_up.ensures.broke failed))),
    ))

pub returns-in-Ok-run_job-clause-back : goal.returns-in-Ok-run_job-clause-back
returns-in-Ok-run_job-clause-back g c =
    let run = c.in-Ok-run_job.run' in
    rw c.sum_up.ensures.store (
      run.end,
      demo-by c.args.number c.args.size c.in-Ok.job run.job run.entries.items run.end (g.B.Backing.told run.store)
          (g.B.Backing.plans run.store) (λ (entries : List Entry). Unit {0}) c.in-Ok.ensures c.in-Ok-run_job.ensures.job
          c.in-Ok-run_job.ensures.run tt,
    )
