use Rattle.std.proofs.Common.{◌≡◌, ◌+◌, ◌++◌, ◌∷◌, [], Some, sym, arith}
use Rattle.std.specs.HashMap.{get}
use Rattle.trace_query.specs.inner.WordLists.{same_word}
use Rattle.trace_spans.proofs.MapLaws.{written, holds_written, spare_less}
use Rattle.trace_spans.specs.inner.Listed.{items_of, HasSpare}
use Rattle.trace_query.proofs.WordKeys.{same_words}
use Rattle.trace_query.proofs.word_lists.WordLists.push.Goals as goal

pub returns-in-Some-clause-changes : goal.returns-in-Some-clause-changes
returns-in-Some-clause-changes c = λ w.
    let here : get same_word c.args.self.now.lists c.args.at ≡ Some c.in-Some.list.now = sym c.in-Some.ensures.value in
    let changes = (c.get_mut.follows.holds c.add.new.list).3 (search here) in
    written same_word items_of (λ xs. xs ++ c.args.change ∷ []) c.args.at w (get same_word c.args.self.now.lists)
    (get same_word (c.get_mut.follows.lender c.add.new.list)) c.in-Some.list.now c.add.new.list same_words here c.add.ensures.items
    changes.0

pub returns-in-Some-clause-room : goal.returns-in-Some-clause-room
returns-in-Some-clause-room c = λ w k.
    let here : get same_word c.args.self.now.lists c.args.at ≡ Some c.in-Some.list.now = sym c.in-Some.ensures.value in
    let changes = (c.get_mut.follows.holds c.add.new.list).3 (search here) in
    holds_written same_word (λ list. HasSpare list (k + 1)) (λ list. HasSpare list k) c.args.at w (get same_word c.args.self.now.lists)
    (get same_word (c.get_mut.follows.lender c.add.new.list)) c.in-Some.list.now c.add.new.list same_words here
    (λ h. omega (arith, h, c.add.ensures.len, c.add.ensures.capacity)) (λ o h. spare_less o k h) changes.0
