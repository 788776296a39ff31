use Rattle.std.proofs.Common.{sym, ap, ◌∙◌}
use Rattle.trace_query.specs.inner.Written.{added_in, added_with}
use Rattle.trace_query.proofs.page_words.PageWords.note_page.Goals as goal

pub returns-in-Some-clause-added : goal.returns-in-Some-clause-added
returns-in-Some-clause-added c = λ g.
    let updates = rw c.unwrap.ensures at c.insert-kept.ensures.updates in
    updates.0 g
    ∙ ap (λ o. added_with o c.args.self.now.len g (added_in c.args.self.now g)) (sym c.in-Some.is)
