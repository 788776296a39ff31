use Rattle.std.proofs.Common.{length, reverse, take}
use Rattle.run_replies.proofs.EntryLaws.{Gathers}
use Rattle.run_replies.proofs.replies.print_out.Given as goal

abbrev pub invariant-loop-entry : goal.invariant-loop-entry
invariant-loop-entry l =
    Gathers (length l.job.enclaves) (length l.job.scripts) (reverse (take l.entry-index l.entries)) l.endings.items l.replies.items
