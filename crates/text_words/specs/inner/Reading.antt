-- Numbers below 2 ^ 32, and letters.
use Rattle.std.specs.Prelude.{ℕ, ◌^◌, ◌≤◌, if◌then◌else◌, List}
use Rattle.std.specs.Prelude.{Option, Some, None, nat_lt}
use Rattle.text_words.specs.Reading.{◌>>=◌, number_of}

-- a number below 2 ^ 32
unfoldable pub small_of : List ℕ → Option ℕ
small_of word = do
  n ← number_of word
  if nat_lt n (2 ^ 32) then Some n else None

-- ---- other words

-- A to H
abbrev pub IsLetter : ℕ → Type 0
IsLetter enclave = (1 ≤ enclave) × (enclave ≤ 8)
