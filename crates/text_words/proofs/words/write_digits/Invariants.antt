use Rattle.text_words.proofs.Digits.{AreLastDigits}
use Rattle.text_words.proofs.words.write_digits.Given as goal

abbrev pub invariant-loop-start : goal.invariant-loop-start
invariant-loop-start l = AreLastDigits l.number l.base l.rest l.start l.digits

abbrev pub decreases-loop-start : goal.decreases-loop-start
decreases-loop-start l = l.start
