-- The 512 words of a frame and its 4096 bytes, 8 bytes a word, low byte first.
use Rattle.std.specs.Prelude.{◌≡◌, ◌<◌, ◌/◌, ℕ, List, All, map, length, replicate, slice_index}
use Rattle.std.specs.Int.{w64, from_le_bytes}
use Rattle.std.specs.Simd.{first_chunks}

-- the words that bytes make
unfoldable pub words_of : List ℕ → List ℕ
words_of bytes = map (from_le_bytes w64) (first_chunks 8 (length bytes / 8) bytes)

-- the words of a frame that holds nothing
unfoldable pub zero_words : List ℕ
zero_words = replicate 512 0

-- the 8 bytes of a word
pub record IsWord (bytes : List ℕ) : Type 0 where
  pub sized : length bytes ≡ 8
  pub fits : (i : ℕ) → slice_index bytes i < 256

-- 512 words, as their bytes
pub record IsPage (page : List (List ℕ)) : Type 0 where
  pub sized : length page ≡ 512
  pub words : All IsWord page
