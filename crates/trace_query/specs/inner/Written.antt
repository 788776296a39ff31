-- What is kept of the words of pages, and when it is that of entries.
use Rattle.std.specs.Prelude.{◌≡◌, ℕ, ◌+◌, ◌<◌, ◌≤◌, ◌&&◌, ◌||◌, not, Bool, false, nat_lt, nat_le, if◌then◌else◌, List, [], ◌∷◌}
use Rattle.std.specs.Prelude.{◌++◌, length, Option, Some, None, slice_index}
use Rattle.std.specs.HashMap.{get, spare}
use Rattle.sgx_types.specs.declared.names.Actor.{Actor}
use Rattle.sgx_types.specs.declared.names.Actor.TheVariants.{Cpu}
use Rattle.sgx_types.specs.declared.names.Page.{Page}
use Rattle.sgx_types.specs.declared.names.TheConstants.{PROCESSORS}
use Rattle.sgx_types.specs.Pages.{same_page, page_at}
use Rattle.sgx_rules.specs.declared.entries.Action.{Action}
use Rattle.sgx_rules.specs.declared.entries.Entry.{Entry}
use Rattle.sgx_rules.specs.Flat.{FlatMemory, flat, first_words, is_visible, is_processors}
use Rattle.flat_machine.specs.inner.Parts.{memory_of}
use Rattle.flat_words.specs.declared.writes.NewPage.{NewPage}
use Rattle.flat_words.specs.declared.writes.WordAt.{WordAt}
use Rattle.flat_words.specs.declared.writes.Writes.{Writes}
use Rattle.flat_words.specs.Words.{word_in}
use Rattle.flat_words.specs.Writes.{touched, page_added}
use Rattle.trace_query.specs.declared.word_lists.Change.{Change}
use Rattle.trace_query.specs.declared.page_words.Added.{Added}
use Rattle.trace_query.specs.declared.page_words.Taken.{Taken}
use Rattle.trace_query.specs.declared.page_words.PageWords.{PageWords}
use Rattle.trace_query.specs.inner.WordLists.{same_word, changes_in, value_at, HasWordRoom}

-- ---- which instructions flat memory is asked for

abbrev pub is_processor : Actor → Bool
is_processor (Cpu p) = nat_lt p.0 PROCESSORS
is_processor actor = false

-- one that programs see, and a processor's by a processor of flat memory
abbrev pub is_asked : Actor → Action → Bool
is_asked actor action = is_visible action && (not (is_processors action) || is_processor actor)

-- ---- changes along entries

abbrev pub change_to : ℕ → Option ℕ → List Change
change_to place None = []
change_to place (Some v) = record { place = place; value = v } ∷ []

-- the change of a word to what flat memory has at a place, where it is this one
abbrev pub noted : ℕ → FlatMemory → Option WordAt → WordAt → List Change
noted place m None w = []
noted place m (Some at) w = if same_word at w then change_to place (word_in m (page_at at.enclave at.number) at.index) else []

-- the changes of a word behind these writes
abbrev pub changes_with : ℕ → FlatMemory → Writes → WordAt → List Change → List Change
changes_with place m writes w before = (before ++ noted place m writes.first w) ++ noted place m writes.second w

-- the changes of a word along entries: one for each entry that writes it
abbrev pub changes : List Entry → WordAt → List Change
changes [] w = []
changes (e ∷ past) w =
    changes_with (length past + 1) (flat (e ∷ past)) (touched (flat past) e.actor e.event) w (changes past w)

abbrev pub added_with : Option NewPage → ℕ → Page → Option Added → Option Added
added_with None place g before = before
added_with (Some x) place g before =
    if same_page (page_at x.enclave x.number) g then Some (record { place = place; init = x.init }) else before

-- at which place a page was added, and with which words
abbrev pub added : List Entry → Page → Option Added
added [] g = None
added (e ∷ past) g = added_with (page_added (flat past) e.actor e.event) (length past + 1) g (added past g)

-- ---- what is kept

abbrev pub added_in : PageWords → Page → Option Added
added_in known g = get same_page known.added g

-- a word behind n entries: None where its page was added later, else by the last change up to there
abbrev pub word_by : Option Added → List Change → ℕ → ℕ → Option ℕ
word_by None changes n k = None
word_by (Some new) changes n k = if nat_le new.place n then Some (value_at (slice_index (first_words new.init) k) changes n) else None

-- what is kept is that of these entries
pub record WordsFollow (known : PageWords) (past : List Entry) : Type 0 where
  pub memory : memory_of known.flat ≡ flat past
  pub added : (g : Page) → added_in known g ≡ added past g
  pub lists : (w : WordAt) → changes_in known.lists w ≡ changes past w
  pub len : known.len ≡ length past

-- ---- room

abbrev pub WordsHaveRoomIf : PageWords → Option WordAt → ℕ → Type 0
WordsHaveRoomIf known None k = Unit {0}
WordsHaveRoomIf known (Some at) k = HasWordRoom known.lists at k

abbrev pub HasRoomForPage : PageWords → Option NewPage → Type 0
HasRoomForPage known None = Unit {0}
HasRoomForPage known (Some x) = 1 ≤ spare known.added

-- what was taken can be noted without memory
pub record WordsHaveRoomToNote (known : PageWords) (taken : Taken) : Type 0 where
  pub first : WordsHaveRoomIf known taken.writes.first 2
  pub second : WordsHaveRoomIf known taken.writes.second 2
  pub page : HasRoomForPage known taken.page

abbrev pub IsIndexIf : Option WordAt → Type 0
IsIndexIf None = Unit {0}
IsIndexIf (Some at) = at.index < 512

-- the indices of the words are those of words in a page
pub record AreIndices (writes : Writes) : Type 0 where
  pub first : IsIndexIf writes.first
  pub second : IsIndexIf writes.second

-- ---- what changes

-- the same is known, and no room is lost
pub record WordsStay (old new : PageWords) : Type 0 where
  pub memory : memory_of new.flat ≡ memory_of old.flat
  pub added : (g : Page) → added_in new g ≡ added_in old g
  pub lists : (w : WordAt) → changes_in new.lists w ≡ changes_in old.lists w
  pub room : (w : WordAt) (k : ℕ) → HasWordRoom old.lists w k → HasWordRoom new.lists w k
  pub len : new.len ≡ old.len

-- flat memory is this one, these words may have been written and this page was added, and nothing of it is noted yet
pub record Takes (old : PageWords) (after : FlatMemory) (written : Writes) (grown : Option NewPage) (taken : Taken)
    (new : PageWords) : Type 0 where
  pub memory : memory_of new.flat ≡ after
  pub writes : taken.writes ≡ written
  pub page : taken.page ≡ grown
  pub added : (g : Page) → added_in new g ≡ added_in old g
  pub lists : (w : WordAt) → changes_in new.lists w ≡ changes_in old.lists w
  pub len : new.len ≡ old.len

-- what a word is now is noted at the place behind all entries, if it is one
pub record NotesWord (old : PageWords) (at : Option WordAt) (new : PageWords) : Type 0 where
  pub memory : new.flat ≡ old.flat
  pub added : new.added ≡ old.added
  pub lists : (w : WordAt) → changes_in new.lists w ≡ changes_in old.lists w ++ noted old.len (memory_of old.flat) at w
  pub room : (w : WordAt) (k : ℕ) → HasWordRoom old.lists w (k + 1) → HasWordRoom new.lists w k
  pub len : new.len ≡ old.len
