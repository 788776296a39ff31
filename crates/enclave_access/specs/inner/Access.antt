-- What translation fills and accesses see of a processor and the frames, and what each leaves.
use Rattle.std.specs.Prelude.{ℕ, ◌/◌, ◌<◌, Bool, List, Option, Some, None, All}
use Rattle.sgx_rules.specs.declared.entries.AccessOp.{AccessOp}
use Rattle.sgx_rules.specs.declared.entries.AccessOp.TheVariants as accesses
use Rattle.sgx_types.specs.declared.names.Frame.{Frame}
use Rattle.sgx_types.specs.declared.names.Perm.{Perm}
use Rattle.sgx_rules.specs.Table.{Row, load_row, store_row, xadd_row}
use Rattle.sgx_rules.specs.Flat.{word_index}
use Rattle.epcm_entry.specs.inner.Epc.{EpcFrame, word_at, with_word}
use Rattle.cached_translations.specs.declared.cache.Translation.{Translation}
use Rattle.cached_translations.specs.declared.processor.Processor.{Processor}
use Rattle.cached_translations.specs.inner.Translations.{translation_of, with_translation}

-- ---- fills

-- the processor with a translation more, of a page in a frame with that frame's permissions
abbrev pub with_filled : Processor → ℕ → Frame → Option Perm → Processor
with_filled cpu number frame None = cpu
with_filled cpu number frame (Some perm) =
    record cpu { cache = with_translation cpu.cache (record { number = number; frame = frame; perm = perm }) }

-- ---- accesses

-- the translation of the page at an offset in bytes
abbrev pub translation_at : List Translation → ℕ → Option Translation
translation_at cache off = translation_of cache (off / 4096)

abbrev pub perm_of : Option Translation → Option Perm
perm_of None = None
perm_of (Some t) = Some t.perm

-- the permissions of that translation
abbrev pub perm_at : List Translation → ℕ → Option Perm
perm_at cache off = perm_of (translation_at cache off)

-- the row of each kind of access
abbrev pub row_of : AccessOp → ℕ → Bool → Option Perm → Row
row_of accesses.Load off is_inside perm = load_row off is_inside perm
row_of accesses.Store off is_inside perm = store_row off is_inside perm
row_of accesses.Xadd off is_inside perm = xadd_row off is_inside perm

-- the frames of the translations are below a number
abbrev pub LeadsBelow : List Translation → ℕ → Type 0
LeadsBelow cache frames = All (λ (t : Translation). t.frame.0 < frames) cache

-- the word at an offset in the page that a translation leads to
abbrev pub word_in : List EpcFrame → Option Translation → ℕ → ℕ
word_in epc None off = 0
word_in epc (Some t) off = word_at epc t.frame.0 (word_index off)

-- the word at an offset, through the translation of its page
abbrev pub word_through : List EpcFrame → List Translation → ℕ → ℕ
word_through epc cache off = word_in epc (translation_at cache off) off

-- another word at an offset in the page that a translation leads to
abbrev pub with_word_in : List EpcFrame → Option Translation → ℕ → ℕ → List EpcFrame
with_word_in epc None off value = epc
with_word_in epc (Some t) off value = with_word epc t.frame.0 (word_index off) value

-- another word at an offset, through the translation of its page
abbrev pub with_stored : List EpcFrame → List Translation → ℕ → ℕ → List EpcFrame
with_stored epc cache off value = with_word_in epc (translation_at cache off) off value
