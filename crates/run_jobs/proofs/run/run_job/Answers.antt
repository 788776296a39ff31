use Rattle.std.proofs.Common.{reverse, subst, sym}
use Rattle.std.specs.Prelude.{List}
use Rattle.run_jobs.proofs.RunLaws.{whole_of}
use Rattle.run_jobs.specs.Ends.{IsEndOf}
use Rattle.sgx_rules.specs.declared.entries.Entry.{Entry}
use Rattle.run_jobs.proofs.run.run_job.Goals as goal

pub returns-clause-run : goal.returns-clause-run
returns-clause-run g c =
    whole_of c.in_ok-book-2.book.book c.of-end.result c.into_parts-job.result.job (reverse c.into_parts-job.result.entries.items)
    (g.B.Backing.told c.into_parts-job.result.store) (g.B.Backing.plans c.into_parts-job.result.store) c.into_parts-job.ensures.holds
    c.in_ok-book-2.ensures.ended
    (subst (λ (past : List Entry). IsEndOf past c.of-end.result) (sym c.into_parts-job.ensures.entries)
    (c.of-end.ensures c.in_ok-book-2.book.book.past c.is_spent.ensures c.has_loss.ensures))
    c.into_parts-job.ensures.job c.into_parts-job.ensures.entries c.into_parts-job.ensures.told c.into_parts-job.ensures.plans
