use Rattle.trace_query.proofs.FirstWords.{word_of_all}
use Rattle.trace_query.proofs.page_words.first_word.Goals as goal

pub returns-in-Words : goal.returns-in-Words
returns-in-Words c = word_of_all c.in-Words.value c.args.index c.args.init c.in-Words.is c.requires
