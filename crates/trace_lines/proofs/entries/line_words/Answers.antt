use Rattle.std.proofs.Common.{eqb, rules, tests}
use Rattle.std.proofs.lemmas.Iterator.{YieldsList-from_take}
use Rattle.std.proofs.lemmas.Iterator.Consumers.{YieldsList-at, map_from_collect}
use Rattle.std.proofs.lemmas.Iterator.Splits.{YieldsList-from_slice_split}
use Rattle.trace_lines.specs.inner.Reading.{words_in}
use Rattle.trace_lines.proofs.entries.line_words.Goals as goal

-- The first parts between spaces are collected.
pub returns : goal.returns
unfolding words_in
returns c =
    map_from_collect _ c.collect.ensures.ran
    (YieldsList-from_take 16
    (YieldsList-at c.take.ensures.source
    (YieldsList-from_slice_split _ (λ b. eqb b 32) c.args.line.now c.split.ensures.rest c.split.ensures.done c.split.ensures.closure
    (λ x b q k. search (rules, tests))))
    c.take.ensures.count)
