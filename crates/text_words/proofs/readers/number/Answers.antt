use Rattle.text_words.specs.Reading.{number_of}
use Rattle.text_words.proofs.Numerals.{numeral_of-is}
use Rattle.text_words.proofs.readers.number.Goals as goal

pub returns-in-Some : goal.returns-in-Some
unfolding number_of
returns-in-Some c =
    let h = c.in-Some.ensures.cases in
    rw (h.0, ← h.1) (numeral_of-is 16 _ _ c.numeral.ensures)

pub returns-in-None : goal.returns-in-None
unfolding number_of
returns-in-None c =
    rw c.in-None.ensures.cases (numeral_of-is 10 _ _ c.numeral-in-None.ensures)
