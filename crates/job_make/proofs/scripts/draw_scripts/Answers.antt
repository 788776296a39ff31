use Rattle.job_make.specs.MadeOps.{made_scripts}
use Rattle.job_make.proofs.MadeLists.{script_more, scripts_whole}
use Rattle.job_make.proofs.scripts.draw_scripts.Goals as goal

pub loop-cpu-preserved : goal.loop-cpu-preserved
loop-cpu-preserved c =
    script_more c.args.size c.loop-cpu.cpu c.loop-cpu.draws.state c.draw_script.new.draws.state c.in_ok-draw_script.field-0
    c.loop-cpu.scripts.items c.push.new.self.items (made_scripts c.args.size 4 0 c.args.number) c.loop-cpu-test.true
    c.in_ok-draw_script.ensures.script c.in_ok-draw_script.ensures.state c.in_ok-push.ensures.items c.loop-cpu.invariant

pub returns : goal.returns
returns c =
    scripts_whole c.args.size c.loop-cpu.cpu c.loop-cpu.draws.state c.loop-cpu.scripts.items (made_scripts c.args.size 4 0 c.args.number)
    c.loop-cpu-test.false c.loop-cpu.invariant
