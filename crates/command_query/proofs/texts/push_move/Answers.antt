use Rattle.std.proofs.Common.{◌++◌, ◌∷◌, [], ap, ◌∙◌}
use Rattle.std.specs.Fmt.{decimal}
use Rattle.text_words.specs.Words.{line_text}
use Rattle.command_query.specs.AnswerText.{where_words}
use Rattle.command_query.proofs.LineLaws.{where_before}
use Rattle.command_query.proofs.texts.push_move.Goals as goal

pub returns : goal.returns
returns c =
    c.in_ok-push_where.ensures
    ∙ ap (λ text. text ++ line_text (where_words c.args.step.to))
    (c.in_ok-push.ensures.items ∙ ap (λ text. text ++ 32 ∷ []) c.in_ok-push_word.ensures.text)
    ∙ where_before c.args.text.now.items (decimal c.args.step.place) c.args.step.to
