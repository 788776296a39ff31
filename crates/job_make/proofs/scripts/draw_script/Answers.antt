use Rattle.std.proofs.Common.{List, ◌∷◌, ◌++◌, [], ap, ◌∙◌}
use Rattle.job_grammar.specs.declared.jobs.Op.{Op}
use Rattle.job_grammar.specs.declared.jobs.Op.TheVariants.{Enter, Exit}
use Rattle.job_make.specs.MadeOps.{made_ops, state_behind_ops}
use Rattle.job_make.proofs.MadeLists.{op_more, ops_whole, state_more, state_whole}
use Rattle.job_make.proofs.scripts.draw_script.Goals as goal

pub loop-preserved : goal.loop-preserved
loop-preserved c =
    let inv = c.loop.invariant in (
      op_more c.args.size c.args.cpu c.loop.counter c.loop.draws.state c.draw_op.new.draws.state c.draw_op.result c.loop.script.items
          c.push-in-loop.new.self.items (Enter 1 c.args.cpu ∷ made_ops c.args.size c.args.cpu c.args.size c.args.draws.now.state)
          c.loop-test.true c.draw_op.ensures.op c.draw_op.ensures.state c.in_ok-push-2.ensures.items inv.0,
      state_more c.args.size c.args.cpu c.loop.counter c.loop.draws.state c.draw_op.new.draws.state
          (state_behind_ops c.args.size c.args.draws.now.state) c.loop-test.true c.draw_op.ensures.state inv.1,
    )

pub returns-clause-script : goal.returns-clause-script
returns-clause-script c =
    c.in_ok-push-3.ensures.items
    ∙ ap (λ (front : List Op). front ++ Exit ∷ [])
    (ops_whole c.args.size c.args.cpu c.loop.counter c.loop.draws.state c.loop.script.items
    (Enter 1 c.args.cpu ∷ made_ops c.args.size c.args.cpu c.args.size c.args.draws.now.state) c.loop-test.false c.loop.invariant.0)

pub returns-clause-state : goal.returns-clause-state
returns-clause-state c =
    state_whole c.args.size c.args.cpu c.loop.counter c.loop.draws.state (state_behind_ops c.args.size c.args.draws.now.state)
    c.loop-test.false c.loop.invariant.1
