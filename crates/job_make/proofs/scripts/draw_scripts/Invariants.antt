use Rattle.std.proofs.Common.{◌≡◌, ◌-◌, ◌++◌}
use Rattle.job_grammar.specs.inner.Jobs.{script_ops}
use Rattle.job_make.specs.MadeOps.{made_scripts}
use Rattle.job_make.proofs.scripts.draw_scripts.Given as goal

-- what is left to draw completes the scripts
abbrev pub invariant-loop-cpu : goal.invariant-loop-cpu
invariant-loop-cpu l = script_ops l.scripts.items ++ made_scripts l.size (4 - l.cpu) l.cpu l.draws.state ≡ made_scripts l.size 4 0 l.number
