use Rattle.std.proofs.Common.{length, replicate, sym, ap, subst, ◌∙◌}
use Rattle.job_grammar.specs.Jobs.{JobView}
use Rattle.epoch_words.specs.inner.Seen.{starting_at}
use Rattle.run_book.specs.inner.Words.{KeepsWords}
use Rattle.run_book.proofs.GrownLaws.{keeps_start}
use Rattle.run_book.proofs.book.MachineBook.start.Goals as goal

pub invariant_of-result : goal.invariant_of-result
invariant_of-result g c =
    let book = c.in_ok-book.book in
    let same = sym c.in_ok-book.ensures.job in
    subst (KeepsWords book) (sym c.in_ok-notes.ensures)
    (keeps_start book c.args.seat.words c.args.seat.seen c.from.result c.cpus.ensures.valid
    c.in_ok-book.ensures.past (c.requires.enclaves ∙ ap (λ (j : JobView). length j.enclaves) same)
    (c.requires.seen ∙ ap (λ (j : JobView). replicate (length j.enclaves) (starting_at j.start_epoch)) same)
    (c.from.ensures ∙ c.cpus.ensures.value))
