use Rattle.std.proofs.Common.{◌≡◌, take}
use Rattle.std.specs.List.{flat_map}
use Rattle.text_words.specs.Words.{line_text}
use Rattle.command_query.specs.AnswerText.{move_words}
use Rattle.command_query.proofs.texts.print_moves.Given as goal

abbrev pub invariant-loop-step : goal.invariant-loop-step
invariant-loop-step l = l.text.items ≡ flat_map (λ move. line_text (move_words move)) (take l.step-index l.moves)
