-- Numbers in the words of the command line.
use Rattle.std.specs.Prelude.{ℕ, ◌&&◌, Bool, if◌then◌else◌, List, Option, None, length, nat_le}
use Rattle.std.specs.List.{list_all}
use Rattle.text_words.specs.Reading.{number_of}

abbrev pub is_digit : ℕ → Bool
is_digit c = nat_le 48 c && nat_le c 57

-- NUMBER is one to twenty decimal digits, with a value below 2 ^ 64
abbrev pub count_of : List ℕ → Option ℕ
count_of word = if nat_le (length word) 20 && list_all is_digit word then number_of word else None
