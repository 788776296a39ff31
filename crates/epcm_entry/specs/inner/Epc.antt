-- The EPC as contracts see it: its frames in order, each with its EPCM entry and its words.
use Rattle.std.specs.Prelude.{◌≡◌, ◌<◌, ◌≤◌, ◌^◌, ℕ, Bool, List, [], ◌∷◌, length, map, position, replicate}
use Rattle.std.specs.Prelude.{Option, slice_index, slice_index_or, slice_set, All}
use Rattle.std.specs.Option.{option_map}
use Rattle.std.specs.Int.{w64, from_le_bytes}
use Rattle.sgx_types.specs.declared.names.Frame.{Frame}
use Rattle.sgx_types.specs.declared.names.Page.{Page}
use Rattle.sgx_types.specs.declared.names.Kind.{Kind}
use Rattle.sgx_types.specs.declared.names.Perm.{Perm}
use Rattle.epcm_entry.specs.declared.entry_view.EntryView.{EntryView}
use Rattle.epcm_entry.specs.declared.entry_view.EntryView.TheVariants.{Free, Loading}
use Rattle.epcm_entry.specs.inner.EntryView.{is_free, holding, with_block, outgoing}
use Rattle.sgx_types.specs.Layouts.{bytes_of}
use Rattle.epcm_entry.specs.inner.Words.{zero_words}

-- a frame's EPCM entry and its 512 words
pub record EpcFrame : Type 0 where
  pub entry : EntryView
  pub words : List ℕ

-- a frame that holds nothing
abbrev pub free_frame : EpcFrame
free_frame = record { entry = Free; words = zero_words }

-- a frame by its number; past the last one there is nothing
abbrev pub frame_at : List EpcFrame → ℕ → EpcFrame
frame_at epc f = slice_index_or epc f free_frame

-- its EPCM entry
abbrev pub entry_at : List EpcFrame → ℕ → EntryView
entry_at epc f = (frame_at epc f).entry

-- its words
abbrev pub words_at : List EpcFrame → ℕ → List ℕ
words_at epc f = (frame_at epc f).words

-- one of its words
abbrev pub word_at : List EpcFrame → ℕ → ℕ → ℕ
word_at epc f index = slice_index (words_at epc f) index

-- its 4096 bytes
abbrev pub bytes_at : List EpcFrame → ℕ → List ℕ
bytes_at epc f = bytes_of (words_at epc f)

-- frames that hold nothing
abbrev pub free_frames : ℕ → List EpcFrame
free_frames n = replicate n free_frame

-- the frame holds nothing and is not being loaded
abbrev pub is_free_frame : EpcFrame → Bool
is_free_frame frame = is_free frame.entry

-- the least free frame
abbrev pub first_free_of : List EpcFrame → Option Frame
first_free_of epc = option_map (λ f. record { 0 = f }) (position is_free_frame epc)

-- the frame with another entry
abbrev pub with_entry : List EpcFrame → ℕ → EntryView → List EpcFrame
with_entry epc f entry = slice_set epc f (record { entry = entry; words = words_at epc f })

-- the frame with a page that is neither blocked nor sealing
abbrev pub with_page : List EpcFrame → ℕ → Page → Kind → Perm → List EpcFrame
with_page epc f page kind perm = with_entry epc f (holding page kind perm)

-- its page blocked at an epoch
abbrev pub with_blocked : List EpcFrame → ℕ → ℕ → List EpcFrame
with_blocked epc f epoch = with_entry epc f (with_block (entry_at epc f) epoch)

-- its page sealing
abbrev pub with_sealing : List EpcFrame → ℕ → List EpcFrame
with_sealing epc f = with_entry epc f (outgoing (entry_at epc f))

-- the frame waiting for a page
abbrev pub with_loading : List EpcFrame → ℕ → Page → List EpcFrame
with_loading epc f page = with_entry epc f (Loading page)

-- the frame with other words
abbrev pub with_words : List EpcFrame → ℕ → List ℕ → List EpcFrame
with_words epc f words = slice_set epc f (record { entry = entry_at epc f; words = words })

-- the frame with one other word
abbrev pub with_word : List EpcFrame → ℕ → ℕ → ℕ → List EpcFrame
with_word epc f index value = with_words epc f (slice_set (words_at epc f) index value)

-- the frame free, and its words 0
abbrev pub cleared : List EpcFrame → ℕ → List EpcFrame
cleared epc f = slice_set epc f free_frame

-- 512 words, each below 2 ^ 64
pub record IsFrame (frame : EpcFrame) : Type 0 where
  pub sized : length frame.words ≡ 512
  pub fits : All (λ word. word < 2 ^ 64) frame.words

-- at most 4096 frames
pub record IsEpc (epc : List EpcFrame) : Type 0 where
  pub small : length epc ≤ 4096
  pub frames : All IsFrame epc

-- the frames of entries and of words, which are kept as their bytes
abbrev pub frames_of : List EntryView → List (List (List ℕ)) → List EpcFrame
frames_of [] pages = []
frames_of (entry ∷ entries) [] = []
frames_of (entry ∷ entries) (page ∷ pages) = record { entry = entry; words = map (from_le_bytes w64) page } ∷ frames_of entries pages
