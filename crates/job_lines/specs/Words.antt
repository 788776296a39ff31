-- The lines of a text, the words of a line, and what a single word is.
use Rattle.std.specs.Prelude.{ℕ, ◌==◌, ◌||◌, not, Bool, true, false, if◌then◌else◌, List, [], ◌∷◌, Option, Some, None}
use Rattle.std.specs.Prelude.{Result, Ok, Err, filter, length, slice_index, codes, bytes_eq}
use Rattle.std.specs.List.{slice_split}
use Rattle.std.specs.Option.{ok_or}
use Rattle.sgx_types.specs.declared.names.Perm.{Perm}
use Rattle.job_lines.specs.declared.kinds.JobKind.{JobKind}
use Rattle.job_lines.specs.declared.kinds.JobKind.TheVariants.{Word, Number}
use Rattle.text_words.specs.Words.{Words}
use Rattle.text_words.specs.Reading.{number_of, letter_of, digest_of}
use Rattle.job_lines.specs.declared.keywords.Keyword.{Keyword}
use Rattle.job_lines.specs.declared.keywords.Keyword.TheVariants as keywords
use Rattle.job_lines.specs.declared.keywords.PlanWord.{PlanWord}
use Rattle.job_lines.specs.declared.keywords.PlanWord.TheVariants as plan_words
use Rattle.job_lines.specs.declared.keywords.CallWord.{CallWord}
use Rattle.job_lines.specs.declared.keywords.CallWord.TheVariants as call_words

-- ---- lines

-- the pieces without the last one, where that is empty
abbrev pub without_empty_last : List (List ℕ) → List (List ℕ)
without_empty_last [] = []
without_empty_last (piece ∷ next ∷ pieces) = piece ∷ without_empty_last (next ∷ pieces)
without_empty_last ([] ∷ []) = []
without_empty_last ((b ∷ bytes) ∷ []) = (b ∷ bytes) ∷ []

-- the lines, each ended by a line feed, which the last may lack
unfoldable pub lines_of : List ℕ → List (List ℕ)
lines_of text = without_empty_last (slice_split (λ b. b == 10) text)

-- a line without the carriage return at its end, where one stands there
abbrev pub without_return : List ℕ → List ℕ
without_return [] = []
without_return (b ∷ c ∷ bytes) = b ∷ without_return (c ∷ bytes)
without_return (b ∷ []) = if b == 13 then [] else b ∷ []

-- ---- words

-- words are separated by spaces and tabs
unfoldable pub words_of : List ℕ → Words
words_of line = filter (λ word. not (length word == 0)) (slice_split (λ b. (b == 32) || (b == 9)) line)

-- a line without words, or whose first word begins with `#`, is skipped
abbrev pub is_skipped : Words → Bool
is_skipped [] = true
is_skipped (first ∷ rest) = slice_index first 0 == 35

-- the first words of a line's table
unfoldable pub keyword_of : List ℕ → Option Keyword
keyword_of word =
    if bytes_eq word (codes "epc") then Some keywords.Epc
    else (if bytes_eq word (codes "marks") then Some keywords.Marks
    else (if bytes_eq word (codes "key") then Some keywords.Key
    else (if bytes_eq word (codes "start") then Some keywords.Start
    else (if bytes_eq word (codes "enclave") then Some keywords.Enclave
    else (if bytes_eq word (codes "tcs") then Some keywords.Tcs
    else (if bytes_eq word (codes "reg") then Some keywords.Reg
    else (if bytes_eq word (codes "expect") then Some keywords.Expect
    else (if bytes_eq word (codes "store") then Some keywords.Store
    else (if bytes_eq word (codes "cpu") then Some keywords.Cpu
    else (if bytes_eq word (codes "eenter") then Some keywords.Enter
    else (if bytes_eq word (codes "eresume") then Some keywords.Resume
    else (if bytes_eq word (codes "eexit") then Some keywords.Exit
    else (if bytes_eq word (codes "timer") then Some keywords.Timer
    else (if bytes_eq word (codes "load") then Some keywords.Load
    else (if bytes_eq word (codes "xadd") then Some keywords.Xadd
    else (if bytes_eq word (codes "set") then Some keywords.Set
    else (if bytes_eq word (codes "plus") then Some keywords.Plus
    else (if bytes_eq word (codes "outload") then Some keywords.OutLoad
    else (if bytes_eq word (codes "outstore") then Some keywords.OutStore
    else None)))))))))))))))))))

-- the second word of a store line
unfoldable pub plan_word_of : List ℕ → Option PlanWord
plan_word_of word =
    if bytes_eq word (codes "fail") then Some plan_words.Fail
    else (if bytes_eq word (codes "drop") then Some plan_words.Drop
    else (if bytes_eq word (codes "flip") then Some plan_words.Flip
    else (if bytes_eq word (codes "replay") then Some plan_words.Replay
    else (if bytes_eq word (codes "swap") then Some plan_words.Swap
    else None))))

-- the third word of a `store fail` line
unfoldable pub call_word_of : List ℕ → Option CallWord
call_word_of word =
    if bytes_eq word (codes "room") then Some call_words.Room
    else (if bytes_eq word (codes "put") then Some call_words.Put
    else (if bytes_eq word (codes "get") then Some call_words.Get
    else None))

-- R, with or without W and X
abbrev pub perm_with : Bool → Bool → Perm
perm_with w x = record { r = true; w = w; x = x }

-- the permissions of REG pages, of which R is one
unfoldable pub perm_of : List ℕ → Option Perm
perm_of word =
    if bytes_eq word (codes "r") then Some (perm_with false false)
    else (if bytes_eq word (codes "rw") then Some (perm_with true false)
    else (if bytes_eq word (codes "rx") then Some (perm_with false true)
    else (if bytes_eq word (codes "rwx") then Some (perm_with true true)
    else None)))

-- ---- a word in its place, or the fault that it is

-- what f makes of a value, where no fault came before
infixl 10 ◌>>=◌
abbrev pub ◌>>=◌ : {A B : Type 0} → Result A JobKind → (A → Result B JobKind) → Result B JobKind
Ok x >>= f = f x
Err kind >>= f = Err kind

abbrev pub as_number : List ℕ → Result ℕ JobKind
as_number word = ok_or (number_of word) Number

abbrev pub as_letter : List ℕ → Result ℕ JobKind
as_letter word = ok_or (letter_of word) Word

abbrev pub as_perm : List ℕ → Result Perm JobKind
as_perm word = ok_or (perm_of word) Word

abbrev pub as_hash : List ℕ → Result (List ℕ) JobKind
as_hash word = ok_or (digest_of word) Word

-- `plain`, or no word
unfoldable pub as_plain : Words → Result Bool JobKind
as_plain [] = Ok false
as_plain (word ∷ []) = if bytes_eq word (codes "plain") then Ok true else Err Word
as_plain _ = Err Word
