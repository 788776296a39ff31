use Rattle.std.proofs.Common.{◌≡◌, ◌-◌, ◌∷◌, ◌++◌}
use Rattle.job_grammar.specs.declared.jobs.Op.TheVariants.{Enter}
use Rattle.job_make.specs.MadeOps.{made_ops, state_behind_ops}
use Rattle.job_make.proofs.scripts.draw_script.Given as goal

-- what is left to draw completes the script
abbrev pub invariant-loop : goal.invariant-loop
invariant-loop l =
    (l.script.items ++ made_ops l.size l.cpu (l.size - l.counter) l.draws.state
    ≡ Enter 1 l.cpu ∷ made_ops l.size l.cpu l.size l.fn.draws.state)
    × (state_behind_ops (l.size - l.counter) l.draws.state ≡ state_behind_ops l.size l.fn.draws.state)
