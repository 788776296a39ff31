use Rattle.std.proofs.Common.{sym, ap, ◌∙◌}
use Rattle.command_query.specs.AnswerText.{answer_text, page_text}
use Rattle.command_query.proofs.texts.answer.Goals as goal

pub returns-in_ok-text-in-Behind : goal.returns-in_ok-text-in-Behind
returns-in_ok-text-in-Behind c = λ past stands.
    c.in_ok-text-in-Behind.ensures
    ∙ (λ i.
    page_text (c.where_is-there.ensures past stands i) ((c.deref.ensures.value ∙ c.in_ok-cpus-in-Behind.ensures past stands) i)
    (c.word_at-value.ensures past stands i))
    ∙ ap (λ question. answer_text question past) (sym c.in-Behind.is)
