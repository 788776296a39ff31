-- The command that the words of the command line name, which stand without the program's name.
use Rattle.std.specs.Prelude.{ℕ, ◌&&◌, ◌||◌, Bool, if◌then◌else◌, List, [], ◌∷◌, Option, Some, None, bytes_eq, codes}
use Rattle.std.specs.Prelude.{length, nat_le, nat_lt}
use Rattle.text_words.specs.Reading.{◌>>=◌}
use Rattle.command_words.specs.declared.command.Command.{Command}
use Rattle.command_words.specs.declared.command.Command.TheVariants as commands
use Rattle.command_words.specs.declared.rules.Rules.TheVariants as rules
use Rattle.command_words.specs.declared.showing.Showing.TheVariants as showings
use Rattle.command_words.specs.declared.telling.Telling.TheVariants as tellings
use Rattle.command_words.specs.Numbers.{count_of}
use Rattle.command_words.specs.Questions.{asks_behind, asks_moves}

-- SIZE is such a number from 4 to 2000
abbrev pub size_of : List ℕ → Option ℕ
size_of word = do
  n ← count_of word
  if nat_le 4 n && nat_le n 2000 then Some n else None

-- ROUNDS is such a number from 1 to 100,000
abbrev pub rounds_of : List ℕ → Option ℕ
rounds_of word = do
  n ← count_of word
  if nat_le 1 n && nat_le n 100000 then Some n else None

abbrev pub path_by : List ℕ → Option Command
path_by name =
    if bytes_eq name (codes "run") then Some commands.Run
    else if bytes_eq name (codes "least") then Some (commands.Tell tellings.Least)
    else if bytes_eq name (codes "audit") then Some (commands.Tell (tellings.Judge rules.All))
    else if bytes_eq name (codes "check") then Some (commands.Tell (tellings.Judge rules.Processors))
    else if bytes_eq name (codes "migrate") then Some (commands.Show showings.Migrated)
    else if bytes_eq name (codes "picture") then Some (commands.Show showings.Picture)
    else None

-- `run PATH`, `least PATH`, `audit PATH`, `check PATH`, `migrate PATH` and `picture PATH`, where PATH is any word that is not empty
abbrev pub with_path : List ℕ → List ℕ → Option Command
with_path name path = if nat_lt 0 (length path) then path_by name else None

-- `gate ROUNDS`
abbrev pub with_rounds : List ℕ → Option Command
with_rounds word = do
  rounds ← rounds_of word
  Some (commands.Gate rounds)

abbrev pub with_word : List ℕ → List ℕ → Option Command
with_word name word = if bytes_eq name (codes "gate") then with_rounds word else with_path name word

abbrev pub sized_by : List ℕ → ℕ → ℕ → Option Command
sized_by name number size =
    if bytes_eq name (codes "make") then Some (commands.Make number size)
    else if bytes_eq name (codes "demo") then Some (commands.Demo number size)
    else None

-- `make NUMBER SIZE` and `demo NUMBER SIZE`
abbrev pub with_size : List ℕ → List ℕ → List ℕ → Option Command
with_size name first second = do
  number ← count_of first
  size ← size_of second
  sized_by name number size

abbrev pub is_help : List ℕ → Bool
is_help name = bytes_eq name (codes "help") || bytes_eq name (codes "--help")

-- `help` and `--help`
abbrev pub help_of : List ℕ → Option Command
help_of name = if is_help name then Some commands.Help else None

abbrev pub command_in : List (List ℕ) → Option Command
command_in (name ∷ []) = help_of name
command_in (name ∷ word ∷ []) = with_word name word
command_in (name ∷ first ∷ second ∷ []) = with_size name first second
command_in (name ∷ path ∷ letter ∷ page ∷ []) = asks_moves name path letter page
command_in (name ∷ path ∷ place ∷ letter ∷ page ∷ []) = asks_behind name path place letter page
command_in words = None
