use Rattle.std.proofs.Common.{◌≡◌, ◌-◌, ◌^◌, min, sum_by, take}
use Rattle.job_grammar.specs.Jobs.{page_count}
use Rattle.job_grammar.proofs.counts.pages_of.Given as goal

abbrev pub invariant-loop-line : goal.invariant-loop-line
invariant-loop-line l = l.pages ≡ min (sum_by page_count (take l.line-index l.lines)) (2 ^ 64 - 1)
