use Rattle.std.proofs.Common.{is_some}
use Rattle.run_crew.proofs.run.run_workers.Given as goal

abbrev pub ghosts-run_named : goal.ghosts-run_named
ghosts-run_named g a = record { job = a.book.book.job; words = a.book.words; tells = is_some a.book.book.told }
