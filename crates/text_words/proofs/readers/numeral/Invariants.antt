use Rattle.std.proofs.Common.{◌≡◌, ◌<◌, ◌^◌, ℕ, List, take}
use Rattle.std.specs.Str.Parse.{AllDigits, digits_value}
use Rattle.text_words.proofs.readers.numeral.Given as goal

-- the digits so far, whose value is n
pub record SoFar (radix : ℕ) (front : List ℕ) (n : ℕ) : Type 0 where
  pub digits : AllDigits radix front
  pub value : n ≡ digits_value radix front
  pub fits : n < 2 ^ 64

abbrev pub invariant-loop-digit : goal.invariant-loop-digit
invariant-loop-digit l = SoFar l.radix (take l.digit-index l.digits) l.value
