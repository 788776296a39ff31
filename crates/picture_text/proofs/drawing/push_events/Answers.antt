use Rattle.std.proofs.lemmas.Result.{on_ok_weaker}
use Rattle.picture_text.specs.declared.events.Mark.TheVariants as marks
use Rattle.picture_text.specs.Events.{marked, steps}
use Rattle.picture_text.specs.inner.Steps.{steps_if}
use Rattle.picture_text.proofs.AppendLaws.{pushed_five}
use Rattle.picture_text.proofs.drawing.push_events.Goals as goal

pub returns : goal.returns
returns c =
    let place = c.args.place in
    let lanes = c.args.lanes.now in
    let a = c.args.before.now in
    let b = c.args.after.now in
    on_ok_weaker c.push_steps-4.result (λ last.
    pushed_five c.args.events.now.items c.push_mark.new.events.items c.push_steps.new.events.items c.push_steps-2.new.events.items
    c.push_steps-3.new.events.items c.push_steps-4.new.events.items (marked place lanes.actor marks.Does)
    (steps place lanes.actor a.actor b.actor) (steps_if place lanes.frame a.frame b.frame)
    (steps_if place lanes.former a.former b.former) (steps_if place lanes.named a.named b.named)
    c.in_ok-push_mark.ensures c.in_ok-push_steps.ensures c.in_ok-push_steps-2.ensures c.in_ok-push_steps-3.ensures last)
    c.push_steps-4.ensures
