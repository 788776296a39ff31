use Rattle.std.proofs.Common.{◌≡◌, ◌++◌, take}
use Rattle.std.specs.List.{flat_map}
use Rattle.run_replies.specs.inner.Gathered.{lines_of}
use Rattle.run_replies.proofs.replies.push_cpus.Given as goal

abbrev pub invariant-loop-own : goal.invariant-loop-own
invariant-loop-own l = l.onto.items ≡ l.fn.onto.items ++ flat_map lines_of (take l.own-index l.all)
