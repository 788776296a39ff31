use Rattle.std.proofs.Common.{ℕ, List, ap, ◌∙◌, subst}
use Rattle.io_edges.specs.Sinks.{followed_by, GivesPart}
use Rattle.picture_text.specs.Lanes.{lanes_of}
use Rattle.command_picture.proofs.PieceLaws.{given_picture}
use Rattle.command_picture.proofs.giving.give_picture.Goals as goal

pub returns-in_err-give_lines-clause-broke : goal.returns-in_err-give_lines-clause-broke
returns-in_err-give_lines-clause-broke g c = λ failed.
    let order = lanes_of c.deref.result.now in
    let is = given_picture c.args.entries.now c.deref.result.now c.deref-2.result.now (c.deref.ensures.value ∙ c.in_ok-events.ensures)
    (c.deref-2.ensures.value ∙ c.in_ok-events.ensures) in
    let Part : List ℕ → Type 0 = λ text. GivesPart (g.K.Sink.given c.args.out.now) (g.K.Sink.given c.give_lines.new.sink) text in
    subst Part is (c.in_err-give_lines.ensures.broke order c.in_ok-known.ensures)

pub returns-clause-gave : goal.returns-clause-gave
returns-clause-gave g c =
    let order = lanes_of c.deref.result.now in
    c.in_ok-give_lines.ensures.gave order c.in_ok-known.ensures
    ∙ ap (followed_by (g.K.Sink.given c.args.out.now))
    (given_picture c.args.entries.now c.deref.result.now c.deref-2.result.now (c.deref.ensures.value ∙ c.in_ok-events.ensures)
    (c.deref-2.ensures.value ∙ c.in_ok-events.ensures))
