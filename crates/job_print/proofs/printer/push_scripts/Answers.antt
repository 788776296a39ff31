use Rattle.std.proofs.Common.{◌≡◌, ℕ, List, ◌++◌, ap, ◌∙◌, arith}
use Rattle.std.specs.Global.{Vec}
use Rattle.job_grammar.specs.declared.jobs.Op.{Op}
use Rattle.job_print.specs.JobText.{script_says, statements_text}
use Rattle.job_print.proofs.TextLaws.{numbered_more}
use Rattle.job_print.proofs.printer.push_scripts.Goals as goal

pub loop-script-preserved : goal.loop-script-preserved
loop-script-preserved c =
    let inv = c.loop-script.invariant in
    let pushed : c.push_script.new.onto.items ≡ c.loop-script.onto.items
    ++ statements_text (script_says c.loop-script.number c.script-item.result.items) =
    rw c.deref.ensures.value at c.in_ok-push_script.ensures in (
      omega (arith, inv.0),
      pushed
          ∙ ap (λ (t : List ℕ). t ++ statements_text (script_says c.loop-script.number c.script-item.result.items)) inv.1
          ∙ numbered_more script_says (λ (script : Vec Op). script.items) c.args.onto.now.items 0 c.loop-script.number c.args.scripts.now
          c.loop-script.script-index c.script-item.result c.loop-script-test.true c.script-item.is inv.0,
    )
