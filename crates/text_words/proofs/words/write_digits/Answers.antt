use Rattle.std.proofs.Common.{refl}
use Rattle.text_words.proofs.Digits.{none_yet}
use Rattle.text_words.proofs.words.write_digits.Goals as goal

pub loop-start-init : goal.loop-start-init
loop-start-init c = none_yet _ _ _ refl
