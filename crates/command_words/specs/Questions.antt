-- The words of questions to a trace.
use Rattle.std.specs.Prelude.{ℕ, ◌^◌, ◌&&◌, if◌then◌else◌, List, Option, Some, None, bytes_eq, codes, length, nat_lt}
use Rattle.sgx_types.specs.declared.names.Page.{Page}
use Rattle.sgx_types.specs.declared.names.TheConstants.{SECS_NUMBER}
use Rattle.sgx_types.specs.Pages.{page_at, secs_page, va_page}
use Rattle.text_words.specs.Reading.{◌>>=◌, letter_of}
use Rattle.command_words.specs.Numbers.{count_of}
use Rattle.command_words.specs.declared.command.Command.{Command}
use Rattle.command_words.specs.declared.command.Command.TheVariants.{Tell}
use Rattle.command_words.specs.declared.question.Question.TheVariants.{Behind, Moves}
use Rattle.command_words.specs.declared.telling.Telling.TheVariants.{Ask}

-- a number below a limit
abbrev pub number_below : ℕ → List ℕ → Option ℕ
number_below limit word = do
  n ← count_of word
  if nat_lt n limit then Some n else None

abbrev pub numbered_page : ℕ → List ℕ → Option Page
numbered_page enclave word = do
  n ← number_below SECS_NUMBER word
  Some (page_at enclave n)

-- a page of an enclave by its number, or `secs`
abbrev pub own_page : ℕ → List ℕ → Option Page
own_page enclave word = if bytes_eq word (codes "secs") then Some (secs_page enclave) else numbered_page enclave word

abbrev pub array_page : List ℕ → Option Page
array_page word = do
  n ← number_below (2 ^ 32) word
  Some (va_page n)

abbrev pub enclave_page : List ℕ → List ℕ → Option Page
enclave_page name word = do
  enclave ← letter_of name
  own_page enclave word

-- `va` and the number of a version array page, or the letter of an enclave and one of its pages
abbrev pub page_asked : List ℕ → List ℕ → Option Page
page_asked name word = if bytes_eq name (codes "va") then array_page word else enclave_page name word

abbrev pub behind_of : List ℕ → List ℕ → List ℕ → Option Command
behind_of place letter page = do
  n ← count_of place
  g ← page_asked letter page
  Some (Tell (Ask (Behind n g)))

abbrev pub moves_asked : List ℕ → List ℕ → Option Command
moves_asked letter page = do
  g ← page_asked letter page
  Some (Tell (Ask (Moves g)))

-- `query PATH PLACE L PAGE`, where PATH is any word that is not empty
abbrev pub asks_behind : List ℕ → List ℕ → List ℕ → List ℕ → List ℕ → Option Command
asks_behind name path place letter page =
    if bytes_eq name (codes "query") && nat_lt 0 (length path) then behind_of place letter page else None

-- `moves PATH L PAGE`
abbrev pub asks_moves : List ℕ → List ℕ → List ℕ → List ℕ → Option Command
asks_moves name path letter page = if bytes_eq name (codes "moves") && nat_lt 0 (length path) then moves_asked letter page else None
