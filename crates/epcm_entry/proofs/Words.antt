-- Words and their bytes give each other back.
use Rattle.std.proofs.Common.{◌≡◌, ℕ, ◌+◌, ◌*◌, ◌/◌, ◌^◌, ◌<◌, ◌≤◌, List, [], ◌∷◌, ◌++◌, map}
use Rattle.std.proofs.Common.{length, get_or, set, take, drop, replicate, All, w64, refl, sym, ap, ◌∙◌, arith, suc, zero, ⊎_elim}
use Rattle.std.specs.Int.{to_le_bytes, from_le_bytes, bytes_low_first}
use Rattle.std.specs.List.{flat_map}
use Rattle.std.specs.Simd.{first_chunks}
use Rattle.std.proofs.lemmas.Nat.{mod_below, from_le_bytes-to_le_bytes_8, le_bytes_8}
use Rattle.std.proofs.lemmas.List.{length-replicate, length-take, length-drop, get_or-take, get_or-drop, get_or_past}
use Rattle.std.proofs.lemmas.List.{take-append-drop}
use Rattle.std.proofs.lemmas.List.{take_at, drop_at, length-append, length-map, nil_from_length, map-set, length-set, get_or-map}
use Rattle.std.proofs.lemmas.List.Elements.{All-nil, All-cons, All-head, All-tail, All-map, All-weaker, All-replicate, All-set}
use Rattle.std.proofs.lemmas.List.Folds.{flat_map-map}
use Rattle.std.proofs.lemmas.Bool.{cases_lt}
use Rattle.sgx_types.specs.Layouts.{bytes_of}
use Rattle.epcm_entry.specs.inner.Words.{words_of, zero_words, IsWord, IsPage}

-- bytes below 256
abbrev IsBytes : List ℕ → Type 0
IsBytes bytes = (i : ℕ) → get_or bytes i 0 < 256

-- the chunks of bytes, and how many there are
chunk_words : (n : ℕ) (bytes : List ℕ) → length bytes ≡ 8 * n → IsBytes bytes → All IsWord (first_chunks 8 n bytes)
chunk_words zero bytes sized fits = All-nil IsWord
chunk_words (suc n) bytes sized fits =
    All-cons IsWord (take 8 bytes) (first_chunks 8 n (drop 8 bytes))
    (record {
      sized = rw length-take (omega (arith, sized));
      fits = λ i. ⊎_elim
          (λ low. rw (get_or-take 8 bytes i 0 low) (fits i))
          (λ (past : 8 ≤ i). let short : length (take 8 bytes) ≤ i = omega (arith, length-take 8 bytes, past) in
          rw (get_or_past (take 8 bytes) i 0 short) (omega arith))
          (cases_lt i 8);
    })
    (chunk_words n (drop 8 bytes) (rw length-drop (omega (arith, sized))) (λ i. rw get_or-drop (fits (8 + i))))

length-first_chunks : (n : ℕ) (bytes : List ℕ) → length (first_chunks 8 n bytes) ≡ n
length-first_chunks zero bytes = refl
length-first_chunks (suc n) bytes = ap suc (length-first_chunks n (drop 8 bytes))

-- chunks joined end to end
joined_chunks : (n : ℕ) (bytes : List ℕ) → length bytes ≡ 8 * n → flat_map (λ x. x) (first_chunks 8 n bytes) ≡ bytes
joined_chunks zero bytes sized = sym (nil_from_length bytes sized)
joined_chunks (suc n) bytes sized =
    ap (λ rest. take 8 bytes ++ rest) (joined_chunks n (drop 8 bytes) (rw length-drop (omega (arith, sized)))) ∙ take-append-drop 8 bytes

-- words joined end to end, cut again
chunks-joined : (page : List (List ℕ)) → All IsWord page → first_chunks 8 (length page) (flat_map (λ x. x) page) ≡ page
chunks-joined [] words = refl
chunks-joined (word ∷ page) words =
    let is = All-head IsWord word page words in
    ap (λ w. w ∷ first_chunks 8 (length page) (drop 8 (word ++ flat_map (λ x. x) page))) (take_at word (flat_map (λ x. x) page) 8 is.sized)
    ∙ ap (λ rest. word ∷ first_chunks 8 (length page) rest) (drop_at word (flat_map (λ x. x) page) 8 is.sized)
    ∙ ap (λ rest. word ∷ rest) (chunks-joined page (All-tail IsWord word page words))

length-joined : (page : List (List ℕ)) → All IsWord page → length (flat_map (λ x. x) page) ≡ 8 * length page
length-joined [] words = refl
length-joined (word ∷ page) words =
    let is = All-head IsWord word page words in
    length-append word (flat_map (λ x. x) page) ∙ omega (arith, is.sized, length-joined page (All-tail IsWord word page words))

-- the bytes of the words that bytes make
pub bytes_of-page : (page : List (List ℕ)) → All IsWord page → bytes_of (map (from_le_bytes w64) page) ≡ flat_map (λ x. x) page
bytes_of-page [] words = refl
bytes_of-page (word ∷ page) words =
    let is = All-head IsWord word page words in
    ap (λ w. w ++ bytes_of (map (from_le_bytes w64) page)) (le_bytes_8 word (from_le_bytes w64 word) is.sized is.fits refl)
    ∙ ap (λ rest. word ++ rest) (bytes_of-page page (All-tail IsWord word page words))

-- the words of a page's bytes
pub words_of-page : (page : List (List ℕ)) → All IsWord page → words_of (flat_map (λ x. x) page) ≡ map (from_le_bytes w64) page
unfolding words_of
words_of-page page words =
    let count : length (flat_map (λ x. x) page) / 8 ≡ length page = rw (length-joined page words) (omega arith) in
    ap (λ n. map (from_le_bytes w64) (first_chunks 8 n (flat_map (λ x. x) page))) count
    ∙ ap (map (from_le_bytes w64)) (chunks-joined page words)

-- a word's bytes
low_bytes : (k i n : ℕ) → IsBytes (bytes_low_first i k n)
low_bytes zero i n j = omega arith
low_bytes (suc k) zero n zero = mod_below n 256 (omega arith)
low_bytes (suc k) (suc i) n zero = mod_below (n / 256 ^ suc i) 256 (omega arith)
low_bytes (suc k) i n (suc j) = low_bytes k (suc i) n j

pub word_bytes : (n : ℕ) → IsWord (to_le_bytes w64 n)
word_bytes n = record { sized = refl; fits = low_bytes 8 0 n }

-- a word by its bytes
word_small : (word : List ℕ) → IsWord word → from_le_bytes w64 word < 2 ^ 64
word_small word is = omega (arith, is.fits 0, is.fits 1, is.fits 2, is.fits 3, is.fits 4, is.fits 5, is.fits 6, is.fits 7)

-- the words of a page, and of bytes
pub page_small : (page : List (List ℕ)) → All IsWord page → All (λ word. word < 2 ^ 64) (map (from_le_bytes w64) page)
page_small page words = All-map (λ word. word < 2 ^ 64) (from_le_bytes w64) page
    (All-weaker IsWord (λ word. from_le_bytes w64 word < 2 ^ 64) word_small page words)

pub words_of-fit : (bytes : List ℕ) (n : ℕ) → length bytes ≡ 8 * n → ((i : ℕ) → get_or bytes i 0 < 256)
    → All (λ word. word < 2 ^ 64) (words_of bytes)
unfolding words_of
words_of-fit bytes n sized fits =
    let count : length bytes / 8 ≡ n = omega (arith, sized) in
    rw count (page_small (first_chunks 8 n bytes) (chunk_words n bytes sized fits))

pub length-words_of : (bytes : List ℕ) → length (words_of bytes) ≡ length bytes / 8
unfolding words_of
length-words_of bytes = rw (length-map, length-first_chunks) refl

-- bytes are the bytes of their words
pub bytes_of-words_of : (bytes : List ℕ) (n : ℕ) → length bytes ≡ 8 * n → ((i : ℕ) → get_or bytes i 0 < 256)
    → bytes_of (words_of bytes) ≡ bytes
unfolding words_of
bytes_of-words_of bytes n sized fits =
    let count : length bytes / 8 ≡ n = omega (arith, sized) in
    rw count (bytes_of-page (first_chunks 8 n bytes) (chunk_words n bytes sized fits) ∙ joined_chunks n bytes sized)

-- a word read from the bytes that it wrote
read_back : (words : List ℕ) → All (λ word. word < 2 ^ 64) words → map (from_le_bytes w64) (map (to_le_bytes w64) words) ≡ words
read_back [] small = refl
read_back (word ∷ words) small =
    ap (λ w. w ∷ map (from_le_bytes w64) (map (to_le_bytes w64) words))
    (from_le_bytes-to_le_bytes_8 word (All-head (λ w. w < 2 ^ 64) word words small))
    ∙ ap (λ rest. word ∷ rest) (read_back words (All-tail (λ w. w < 2 ^ 64) word words small))

-- words are the words of their bytes
pub words_of-bytes_of : (words : List ℕ) → All (λ word. word < 2 ^ 64) words → words_of (bytes_of words) ≡ words
words_of-bytes_of words small =
    ap words_of (sym (flat_map-map (λ x. x) (to_le_bytes w64) words))
    ∙ words_of-page (map (to_le_bytes w64) words) (All-map IsWord (to_le_bytes w64) words (λ k d low. word_bytes (get_or words k d)))
    ∙ read_back words small

map-replicate : {X Y : Type 0} (f : X → Y) (n : ℕ) (x : X) → map f (replicate n x) ≡ replicate n (f x)
map-replicate f zero x = refl
map-replicate f (suc n) x = ap (λ rest. f x ∷ rest) (map-replicate f n x)

-- a page of zeros
abbrev pub zero_word : List ℕ
zero_word = replicate 8 0

pub zero_page : IsPage (replicate 512 zero_word)
zero_page = record { sized = length-replicate 512 zero_word; words = All-replicate IsWord 512 zero_word (word_bytes 0) }

pub zeros-page : map (from_le_bytes w64) (replicate 512 zero_word) ≡ zero_words
unfolding zero_words
zeros-page = map-replicate (from_le_bytes w64) 512 zero_word

-- the page of bytes
pub chunk_page : (bytes : List ℕ) → length bytes ≡ 4096 → ((i : ℕ) → get_or bytes i 0 < 256)
    → IsPage (first_chunks 8 (length bytes / 8) bytes)
chunk_page bytes sized fits =
    let count : length bytes / 8 ≡ 512 = omega (arith, sized) in
    rw count (record { sized = length-first_chunks 512 bytes; words = chunk_words 512 bytes sized fits })

pub words_of-chunks : (bytes : List ℕ) → map (from_le_bytes w64) (first_chunks 8 (length bytes / 8) bytes) ≡ words_of bytes
unfolding words_of
words_of-chunks bytes = refl

-- a word of a page
pub word-page : (page : List (List ℕ)) (i : ℕ) → IsPage page → i < 512
    → from_le_bytes w64 (get_or page i []) ≡ get_or (map (from_le_bytes w64) page) i 0
word-page page i is low = sym (get_or-map (from_le_bytes w64) page i [] 0 (rw is.sized low))

-- a page with one word written
pub word_page : (page : List (List ℕ)) (i n : ℕ) → IsPage page → IsPage (set page i (to_le_bytes w64 n))
word_page page i n is = record { sized = rw length-set is.sized; words = All-set IsWord page i (to_le_bytes w64 n) (word_bytes n) is.words }

pub words-word_page : (page : List (List ℕ)) (i n : ℕ) → n < 2 ^ 64
    → map (from_le_bytes w64) (set page i (to_le_bytes w64 n)) ≡ set (map (from_le_bytes w64) page) i n
words-word_page page i n small =
    map-set (from_le_bytes w64) page i (to_le_bytes w64 n) ∙ ap (set (map (from_le_bytes w64) page) i) (from_le_bytes-to_le_bytes_8 n small)

-- a page of one word over and over
pub filled_page : (value : ℕ) → IsPage (replicate 512 (to_le_bytes w64 value))
filled_page value = record {
  sized = length-replicate 512 (to_le_bytes w64 value);
  words = All-replicate IsWord 512 (to_le_bytes w64 value) (word_bytes value);
}

pub words-filled_page : (value : ℕ) → value < 2 ^ 64 → map (from_le_bytes w64) (replicate 512 (to_le_bytes w64 value)) ≡ replicate 512 value
words-filled_page value fits =
    map-replicate (from_le_bytes w64) 512 (to_le_bytes w64 value) ∙ ap (replicate 512) (from_le_bytes-to_le_bytes_8 value fits)
