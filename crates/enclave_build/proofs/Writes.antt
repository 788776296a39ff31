-- Words of a frame that are written one after another.
use Rattle.std.proofs.Common.{◌≡◌, ℕ, ◌<◌, List, length, set, ap, ◌∙◌}
use Rattle.std.proofs.lemmas.List.{get_or-set_same, set-set}
use Rattle.epcm_entry.specs.inner.Epc.{EpcFrame, free_frame, frame_at, entry_at, with_words, with_word}

-- a frame that was written holds what was written last
written_frame : (epc : List EpcFrame) (f : ℕ) (words : List ℕ) → f < length epc
    → frame_at (with_words epc f words) f ≡ record { entry = entry_at epc f; words = words }
written_frame epc f words low = get_or-set_same epc f (record { entry = entry_at epc f; words = words }) free_frame low

pub word_written : (epc : List EpcFrame) (f i a : ℕ) (words : List ℕ) → f < length epc
    → with_word (with_words epc f words) f i a ≡ with_words epc f (set words i a)
word_written epc f i a words low =
    ap (λ (x : EpcFrame). set (with_words epc f words) f (record { entry = x.entry; words = set x.words i a }))
    (written_frame epc f words low)
    ∙ set-set epc f (record { entry = entry_at epc f; words = words }) (record { entry = entry_at epc f; words = set words i a })
