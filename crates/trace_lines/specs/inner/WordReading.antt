-- Reading a word of a trace's line, in any spelling of its number. A word that tells none is read as 0.
use Rattle.std.specs.Prelude.{ℕ, ◌^◌, ◌-◌, if◌then◌else◌, List, Option, Some, None, take, drop, nat_lt, codes, bytes_eq, unwrap_or}
use Rattle.std.specs.Prelude.{replicate}
use Rattle.sgx_types.specs.declared.names.Actor.{Actor}
use Rattle.sgx_types.specs.declared.names.Actor.TheVariants as actors
use Rattle.sgx_types.specs.declared.names.Cpu.{Cpu}
use Rattle.sgx_types.specs.declared.names.Frame.{Frame}
use Rattle.text_words.specs.Reading.{◌>>=◌, number_of, letter_of, digest_of}
use Rattle.text_words.specs.inner.Reading.{small_of}

unfoldable pub number_in : List ℕ → ℕ
number_in word = unwrap_or (number_of word) 0

unfoldable pub small_in : List ℕ → ℕ
small_in word = unwrap_or (small_of word) 0

-- the number of a page in its enclave, which that of a SECS page has as a name
unfoldable pub page_number_in : List ℕ → ℕ
page_number_in word = if bytes_eq word (codes "secs") then 2 ^ 32 - 1 else small_in word

unfoldable pub short_in : List ℕ → ℕ
short_in word = if nat_lt (number_in word) (2 ^ 16) then number_in word else 0

unfoldable pub byte_in : List ℕ → ℕ
byte_in word = if nat_lt (number_in word) (2 ^ 8) then number_in word else 0

-- an enclave by its letter, or by its digits
unfoldable pub enclave_in : List ℕ → ℕ
enclave_in word = unwrap_or (letter_of word) (short_in word)

unfoldable pub frame_in : List ℕ → Frame
frame_in word = record { 0 = small_in word }

unfoldable pub tag_in : List ℕ → List ℕ
tag_in word = unwrap_or (digest_of word) (replicate 32 0)

-- a digest that is expected, or a dash
unfoldable pub expect_in : List ℕ → Option (List ℕ)
expect_in word = if bytes_eq word (codes "-") then None else Some (tag_in word)

unfoldable pub cpu_of : List ℕ → Option Cpu
cpu_of word = do
  n ← number_of word
  if nat_lt n 16 then Some (record { 0 = n }) else None

unfoldable pub actor_of : List ℕ → Option Actor
actor_of word =
    if bytes_eq word (codes "b") then Some actors.Builder
    else (if bytes_eq word (codes "r") then Some actors.Reclaimer
    else (if bytes_eq (take 1 word) (codes "p") then processor else None))
  where
    processor : Option Actor
    processor = do
      cpu ← cpu_of (drop 1 word)
      Some (actors.Cpu cpu)
