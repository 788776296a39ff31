use Rattle.std.proofs.Common.{length, not, eqb, take, ◌||◌, arith, rules, tests}
use Rattle.std.proofs.lemmas.Iterator.{YieldsList-from_take}
use Rattle.std.proofs.lemmas.Iterator.Consumers.{YieldsList-from_filter, YieldsList-at, YieldsList-turn, YieldsList-end}
use Rattle.std.proofs.lemmas.Iterator.Splits.{YieldsList-from_slice_split}
use Rattle.std.proofs.lemmas.List.{length_push}
use Rattle.job_lines.specs.Words.{words_of}
use Rattle.job_lines.proofs.LineWords.{words-more, words-done}
use Rattle.job_lines.proofs.words.read_words.Goals as goal

pub loop-word-preserved : goal.loop-word-preserved
unfolding words_of
loop-word-preserved c =
    let t = YieldsList-turn (YieldsList-at c.into_iter-word-iterator.ensures.into_iter_gives (YieldsList-from_take 7
    (YieldsList-at c.take-word-items.ensures.source
    (YieldsList-from_filter _ (λ word. not (eqb (length word) 0))
    (YieldsList-at c.filter.ensures.source
    (YieldsList-from_slice_split _
    (λ b. eqb b 32 || eqb b 9) c.args.line.now c.split.ensures.rest c.split.ensures.done c.split.ensures.closure
    (λ x b q k. search (rules, tests))))
    c.filter.ensures.closure
    (λ x b q k. search (rules, tests))))
    c.take-word-items.ensures.count)) c.loop-word.yielded _ c.loop-word.yielded_by _ _ c.in-Some.word c.in-Some.is c.next.ensures.steps in
    rw length_push (words-more _ _ _ c.in-Some.word (take 7 (words_of c.args.line.now))
    (length c.loop-word.yielded) c.loop-word.invariant c.in_ok-push.ensures.items t.0 t.1)

pub returns : goal.returns
unfolding words_of
returns c =
    let t = YieldsList-end (YieldsList-at c.into_iter-word-iterator.ensures.into_iter_gives (YieldsList-from_take 7
    (YieldsList-at c.take-word-items.ensures.source
    (YieldsList-from_filter _ (λ word. not (eqb (length word) 0))
    (YieldsList-at c.filter.ensures.source
    (YieldsList-from_slice_split _
    (λ b. eqb b 32 || eqb b 9) c.args.line.now c.split.ensures.rest c.split.ensures.done c.split.ensures.closure
    (λ x b q k. search (rules, tests))))
    c.filter.ensures.closure
    (λ x b q k. search (rules, tests))))
    c.take-word-items.ensures.count)) c.loop-word.yielded _ c.loop-word.yielded_by _ _ c.in-None.is c.next.ensures.steps in
    words-done _ _ (take 7 (words_of c.args.line.now)) (length c.loop-word.yielded) c.loop-word.invariant (omega (arith, t.1))
