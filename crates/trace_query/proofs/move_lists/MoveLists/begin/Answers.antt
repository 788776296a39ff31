use Rattle.std.proofs.Common.{sym, ◌∙◌}
use Rattle.std.specs.HashMap.{get}
use Rattle.trace_spans.proofs.MapLaws.{begun, holds_begun}
use Rattle.trace_spans.specs.inner.Listed.{items_of, HasSpare}
use Rattle.sgx_types.specs.Pages.{same_page}
use Rattle.sgx_types.proofs.Pages.{same_pages}
use Rattle.trace_query.proofs.move_lists.MoveLists.begin.Goals as goal

pub returns-in_ok-insert-clause-same : goal.returns-in_ok-insert-clause-same
returns-in_ok-insert-clause-same c = λ g.
    begun same_page items_of c.args.page g (get same_page c.args.self.now.lists) (get same_page c.insert.new.self)
    c.new.result same_pages (sym c.contains_key.ensures ∙ c.if-not-contains_key.true) c.new.ensures.items c.in_ok-insert.ensures.updates.0

pub returns-in_ok-insert-clause-kept : goal.returns-in_ok-insert-clause-kept
returns-in_ok-insert-clause-kept c = λ g k.
    holds_begun same_page (λ list. HasSpare list k) c.args.page g (get same_page c.args.self.now.lists)
    (get same_page c.insert.new.self) c.new.result same_pages (sym c.contains_key.ensures ∙ c.if-not-contains_key.true) (λ none. none)
    c.in_ok-insert.ensures.updates.0
