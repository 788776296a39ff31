use Rattle.std.proofs.Common.{replicate, arith, ap, ◌∙◌}
use Rattle.epoch_words.specs.inner.Seen.{IsLawful, starting_at}
use Rattle.epoch_words.proofs.RuleLaws.{tells, opens_alike}
use Rattle.epoch_words.proofs.words.Words.starting_at.Goals as goal

pub of_words-requires : goal.of_words-requires
of_words-requires c =
    let lawful : IsLawful (starting_at c.args.epoch) = record { limited = c.requires.limited; few = omega arith } in
    let words = c.as_slice.ensures.value ∙ (c.in_ok-row.ensures.items_if_clones_equal (λ y same. same)
    ∙ ap (replicate c.args.enclaves) c.word.ensures.value) in
    opens_alike c.args.enclaves (starting_at c.args.epoch) _ _ words (c.in_ok-seen.ensures.items_if_clones_equal (λ y same. same)) lawful

pub split_seat-reader-requires : goal.split_seat-reader-requires
split_seat-reader-requires c =
    let table = c.in_ok-table.ensures {u = tt} in
    (table.2, omega (arith, table.0, c.as_slice.ensures.len, c.in_ok-row.ensures.len, c.requires.some), tells _ _)
