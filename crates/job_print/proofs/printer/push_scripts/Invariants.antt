use Rattle.std.proofs.Common.{◌≡◌, ◌+◌, ◌++◌, take}
use Rattle.job_grammar.specs.inner.Jobs.{script_ops}
use Rattle.job_print.specs.JobText.{numbered, script_says, statements_text}
use Rattle.job_print.proofs.printer.push_scripts.Given as goal

abbrev pub invariant-loop-script : goal.invariant-loop-script
invariant-loop-script l =
    (l.number ≡ 0 + l.script-index)
    × (l.onto.items ≡ l.fn.onto.items ++ statements_text (numbered script_says 0 (script_ops (take l.script-index l.scripts))))
