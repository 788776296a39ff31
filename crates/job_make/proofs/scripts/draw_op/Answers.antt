use Rattle.std.proofs.Common.{◌∙◌, arith}
use Rattle.job_make.proofs.DrawnOps.{adds, loads, stores}
use Rattle.job_make.proofs.scripts.draw_op.Goals as goal

pub returns-in-0-clause-op : goal.returns-in-0-clause-op
returns-in-0-clause-op c =
    loads c.args.size c.args.cpu c.args.draws.now.state c.draw-kind.result c.draw-page.result c.draw-word.result
    c.draw-kind.new.self.state c.draw-page.new.self.state c.draw-word.new.self.state c.own_offset_of-off.result
    c.draw-kind.ensures.number c.draw-kind.ensures.state c.draw-page.ensures.number c.draw-page.ensures.state
    c.draw-word.ensures.number c.draw-word.ensures.state c.own_offset_of-off.ensures (omega arith)

pub returns-in-2-clause-op : goal.returns-in-2-clause-op
returns-in-2-clause-op c =
    stores c.args.size c.args.cpu c.args.draws.now.state c.draw-kind.result c.draw-page.result c.draw-word.result
    c.draw-kind.new.self.state c.draw-page.new.self.state c.draw-word.new.self.state c.own_offset_of-off.result
    c.draw-kind.ensures.number c.draw-kind.ensures.state c.draw-page.ensures.number c.draw-page.ensures.state
    c.draw-word.ensures.number c.draw-word.ensures.state c.own_offset_of-off.ensures c.into.result (omega arith)
    (c.into.ensures ∙ c.draw.ensures.number)

pub returns-in_default-clause-op : goal.returns-in_default-clause-op
returns-in_default-clause-op c =
    adds c.args.size c.args.cpu c.args.draws.now.state c.draw-kind.result c.draw-page.result c.draw-word.result
    c.draw-kind.new.self.state c.draw-page.new.self.state c.draw-word.new.self.state c.own_offset_of-off.result
    c.draw-kind.ensures.number c.draw-kind.ensures.state c.draw-page.ensures.number c.draw-page.ensures.state
    c.draw-word.ensures.number c.draw-word.ensures.state c.own_offset_of-off.ensures c.shared_offset_of.result (omega arith)
    c.shared_offset_of.ensures
