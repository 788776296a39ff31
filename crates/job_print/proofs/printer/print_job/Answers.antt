use Rattle.std.proofs.Common.{rules}
use Rattle.job_print.proofs.ReadsBack.{text_reads_back}
use Rattle.job_print.proofs.TextLaws.{all_parts}
use Rattle.job_print.proofs.printer.print_job.Goals as goal

pub returns-clause-again : goal.returns-clause-again
returns-clause-again c = text_reads_back _ _ c.enclaves.ensures.valid (search (rules, all_parts))
