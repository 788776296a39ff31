use Rattle.std.proofs.Common.{◌≡◌, ◌++◌, map, take}
use Rattle.job_lines.specs.declared.statements.Statement.TheVariants as says
use Rattle.job_print.specs.JobText.{op_says, statements_text}
use Rattle.job_print.proofs.printer.push_script.Given as goal

abbrev pub invariant-loop-op : goal.invariant-loop-op
invariant-loop-op l =
    l.onto.items ≡ l.initial.onto.items ++ statements_text (map (λ op. says.Operation (op_says op)) (take l.op-index l.script))
