-- The words of a gate. Word 0 has the epoch and the entries made in it, words 1 and 2 count leaves, and from word 3 on each
-- frame has a word.
use Rattle.std.specs.Prelude.{◌≡◌, ℕ, ◌+◌, ◌*◌, ◌/◌, ◌%◌, ◌^◌, ◌<◌}
pub use Rattle.atomic_table.specs.Seated.{TableId}

-- ---- word 0: bits 63 to 32 are the epoch, bits 31 to 0 the entries

abbrev pub epoch_word : ℕ → ℕ → ℕ
epoch_word epoch entries = epoch * 2 ^ 32 + entries

abbrev pub epoch_in : ℕ → ℕ
epoch_in word = word / 2 ^ 32

abbrev pub entries_in : ℕ → ℕ
entries_in word = word % 2 ^ 32

-- ---- words 1 and 2

-- where the leaves of processors are counted that entered at this epoch: word 1 for the even epochs, word 2 for the odd ones.
-- At most two epochs have processors inside, this one and the one before
abbrev pub leave_word : ℕ → ℕ
leave_word epoch = 1 + epoch % 2

-- ---- the word of a frame: bits 63 to 2 are its generation, which rises by one each time that a page is placed; bits 1 and 0
-- are 0 for free, 1 for held and 2 for blocked

abbrev pub frame_word : ℕ → ℕ
frame_word f = 3 + f

abbrev pub free_word : ℕ → ℕ
free_word generation = 4 * generation

abbrev pub held_word : ℕ → ℕ
held_word generation = 4 * generation + 1

abbrev pub blocked_word : ℕ → ℕ
blocked_word generation = 4 * generation + 2

abbrev pub generation_in : ℕ → ℕ
generation_in word = word / 4

abbrev pub IsFree : ℕ → Type 0
IsFree word = word % 4 ≡ 0

abbrev pub IsHeld : ℕ → Type 0
IsHeld word = word % 4 ≡ 1

abbrev pub IsBlocked : ℕ → Type 0
IsBlocked word = word % 4 ≡ 2

-- the gate has a frame of this number
abbrev pub IsFrame : TableId → ℕ → Type 0
IsFrame gate f = frame_word f < gate.words
