-- The text of a word, and a text that grows by words.
use Rattle.std.specs.Prelude.{ℕ, List, [], ◌∷◌, ◌+◌, ◌++◌}
use Rattle.std.specs.Fmt.{decimal}
use Rattle.text_words.specs.declared.words.Word.{Word}
use Rattle.text_words.specs.declared.words.Word.TheVariants as words
use Rattle.text_words.specs.Words.{Words, hexadecimal, enclave_word, digest_word}

-- ---- what a printer writes

abbrev pub word_text : Word → List ℕ
word_text (words.Name name) = name.now
word_text (words.Decimal number) = decimal number
word_text (words.Hexadecimal number) = hexadecimal number
word_text (words.Enclave enclave) = enclave_word enclave
word_text (words.Digest bytes) = digest_word bytes

-- a text, and words behind it with a space before each
abbrev pub with_words : List ℕ → Words → List ℕ
with_words text [] = text
with_words text (word ∷ others) = with_words (text ++ 32 ∷ word) others
