use Rattle.std.proofs.Common.{sym, ◌∙◌}
use Rattle.std.specs.HashMap.{get}
use Rattle.trace_query.specs.inner.WordLists.{same_word}
use Rattle.trace_spans.proofs.MapLaws.{begun, holds_begun}
use Rattle.trace_spans.specs.inner.Listed.{items_of, HasSpare}
use Rattle.trace_query.proofs.WordKeys.{same_words}
use Rattle.trace_query.proofs.word_lists.WordLists.begin.Goals as goal

pub returns-in_ok-insert-clause-same : goal.returns-in_ok-insert-clause-same
returns-in_ok-insert-clause-same c = λ w.
    begun same_word items_of c.args.at w (get same_word c.args.self.now.lists) (get same_word c.insert.new.self) c.new.result same_words
    (sym c.contains_key.ensures ∙ c.if-not-contains_key.true) c.new.ensures.items c.in_ok-insert.ensures.updates.0

pub returns-in_ok-insert-clause-kept : goal.returns-in_ok-insert-clause-kept
returns-in_ok-insert-clause-kept c = λ w k.
    holds_begun same_word (λ list. HasSpare list k) c.args.at w (get same_word c.args.self.now.lists) (get same_word c.insert.new.self)
    c.new.result same_words (sym c.contains_key.ensures ∙ c.if-not-contains_key.true) (λ none. none) c.in_ok-insert.ensures.updates.0
