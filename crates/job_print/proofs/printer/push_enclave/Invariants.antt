use Rattle.std.proofs.Common.{◌≡◌, ◌++◌, map, take}
use Rattle.job_print.specs.JobText.{page_says, statements_text}
use Rattle.job_print.proofs.printer.push_enclave.Given as goal

abbrev pub invariant-loop-line : goal.invariant-loop-line
invariant-loop-line l = l.onto.items ≡ l.initial.onto.items ++ statements_text (map page_says (take l.line-index l.line-items))
