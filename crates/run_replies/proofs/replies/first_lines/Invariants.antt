use Rattle.std.proofs.Common.{◌≡◌, [], length}
use Rattle.run_replies.specs.inner.Gathered.{AreReplies}
use Rattle.run_replies.proofs.replies.first_lines.Given as goal

abbrev pub invariant-loop-cpu : goal.invariant-loop-cpu
invariant-loop-cpu l = AreReplies [] l.all.items × (length l.all.items ≡ l.cpu)
