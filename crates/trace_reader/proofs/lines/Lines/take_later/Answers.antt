-- The line is no readable entry's and not the last, so that no trace goes on with it.
use Rattle.std.proofs.Common.{◌≡◌, ℕ}
use Rattle.trace_reader.proofs.FollowLaws.{later_refused}
use Rattle.trace_reader.proofs.lines.Lines.take_later.Goals as goal

pub returns-else-branch-clause-taken : goal.returns-else-branch-clause-taken
returns-else-branch-clause-taken c =
    later_refused c.args.edition _ _ _ _ _ c.requires.stage c.in_ok-is_last.ensures.stage c.in_ok-is_last.ensures.same
    c.requires.kept.readable
    (λ e readable same. let told = c.in_ok-entry.ensures.only e readable same in let none = c.in_default.is in cc)
    (rw c.if-branch.false at c.in_ok-is_last.ensures.last)
