use Rattle.std.proofs.Common.{◌+◌, false, reverse, ap, sym, ◌∙◌, true}
use Rattle.backing_store.specs.inner.Store.{fails_get, drops, flips, next_get, next_get_of}
use Rattle.backing_store.proofs.AnswerLaws.{answer_dropped, answer_given, any_line, first_line}
use Rattle.backing_store.proofs.ledger.Ledger.answer.Goals as goal

pub returns-then-is_dropped : goal.returns-then-is_dropped
returns-then-is_dropped c =
    let old = c.args.self.now in
    let calls = reverse old.calls.items in
    let number = ap (λ n. n + 1) c.requires.kept.counted.are_gets in
    let of_page = c.next_get_of-number.ensures in
    answer_dropped old.plans.items calls c.args.page
    (any_line fails_get (old.gets + 1) (next_get calls) c.deref.result.now old.plans.items c.get_fails.result false c.get_fails.ensures
    c.deref.ensures.value number c.if-get_fails.false)
    (any_line (drops c.args.page) c.next_get_of-number.result (next_get_of c.args.page calls) c.deref-2.result.now old.plans.items
    c.is_dropped.result true c.is_dropped.ensures c.deref-2.ensures.value of_page c.if-is_dropped.true)

pub returns-in-Some : goal.returns-in-Some
returns-in-Some c =
    let old = c.args.self.now in
    let calls = reverse old.calls.items in
    let number = ap (λ n. n + 1) c.requires.kept.counted.are_gets in
    let of_page = c.next_get_of-number.ensures in
    answer_given old.plans.items calls c.args.page c.in-Some.put c.bit_flipped.result
    (any_line fails_get (old.gets + 1) (next_get calls) c.deref.result.now old.plans.items c.get_fails.result false c.get_fails.ensures
    c.deref.ensures.value number c.if-get_fails.false)
    (any_line (drops c.args.page) c.next_get_of-number.result (next_get_of c.args.page calls) c.deref-2.result.now old.plans.items
    c.is_dropped.result false c.is_dropped.ensures c.deref-2.ensures.value of_page c.if-is_dropped.false)
    (sym c.place_given.ensures ∙ c.in-Some.is)
    (first_line (flips c.args.page) c.next_get_of-number.result (next_get_of c.args.page calls) c.deref-in-Some.result.now
    old.plans.items c.bit_flipped.result c.bit_flipped.ensures c.deref-in-Some.ensures.value of_page)
