use Rattle.std.proofs.Common.{◌∙◌}
use Rattle.trace_query.proofs.page_words.PageWords.reserve.Goals as goal

pub returns-in_ok-reserve-clause-same : goal.returns-in_ok-reserve-clause-same
returns-in_ok-reserve-clause-same c =
    let one = c.reserve_word.ensures.same in
    let two = c.reserve_word-2.ensures.same in
    record {
      memory = two.memory ∙ one.memory;
      added = λ g. c.reserve.ensures.entries.2 g ∙ two.added g ∙ one.added g;
      lists = λ w. two.lists w ∙ one.lists w;
      room = λ w k h. two.room w k (one.room w k h);
      len = two.len ∙ one.len;
    }
