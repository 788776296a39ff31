use Rattle.std.proofs.Common.{refl}
use Rattle.trace_query.proofs.WrittenLaws.{follows_more}
use Rattle.trace_query.proofs.page_words.PageWords.push.Goals as goal

pub returns-clause-follows : goal.returns-clause-follows
returns-clause-follows c = λ past f.
    follows_more c.args.self.now c.take.new.self _ c.note_page.new.self c.note_word.new.self c.note_word-2.new.self c.args.entry.now past
    c.in_ok-taken.taken f c.in_ok-taken.ensures.takes (record { memory = refl; added = refl; lists = refl; len = refl })
    (record {
      added = c.note_page.ensures.added;
      memory = c.note_page.ensures.flat;
      lists = c.note_page.ensures.lists;
      len = c.note_page.ensures.len;
    })
    c.note_word.ensures c.note_word-2.ensures
