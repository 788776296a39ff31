use Rattle.std.proofs.Common.{length, take, drop, ap, ◌∙◌, arith}
use Rattle.std.proofs.lemmas.List.{take_rest, length-drop}
use Rattle.io_edges.specs.Sinks.{followed_by}
use Rattle.io_edges.proofs.Given.{followed_by-front}
use Rattle.io_edges.proofs.giving.give_all.Goals as goal

pub loop-at-preserved : goal.loop-at-preserved
loop-at-preserved g c =
    let text = c.args.text.now in
    let rest = take_rest text c.loop-at.at in
    record {
      in_text = omega (arith, c.in_ok-at.ensures.bound, ap length rest, length-drop c.loop-at.at text);
      given = c.in_ok-at.ensures.given ∙ ap (λ xs. followed_by (g.K.Sink.given c.loop-at.sink) (take c.in_ok-at.field-0 xs)) rest
          ∙ ap (λ o. followed_by o (take c.in_ok-at.field-0 (drop c.loop-at.at text))) c.loop-at.invariant.given
          ∙ followed_by-front (g.K.Sink.given c.args.sink.now) text c.loop-at.at c.in_ok-at.field-0;
      not_fallen = omega (arith, c.loop-at.invariant.not_fallen, c.give.ensures.cause.not_fallen);
      untouched = λ none. absurd (omega (arith, c.in_ok-at.ensures.some, none));
    }
