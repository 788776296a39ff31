-- What the instructions that build an enclave see of it, and what each leaves.
use Rattle.std.specs.Prelude.{ℕ, ◌+◌, ◌*◌, Bool, true, not, List, [], ◌++◌, Option, Some, None, Result, Ok}
use Rattle.std.specs.Prelude.{Err, length}
use Rattle.std.specs.Str.{bytes_eq}
use Rattle.sgx_types.specs.declared.lawful.PageInit.{PageInit}
use Rattle.sgx_types.specs.declared.names.TheConstants.{SECS_NUMBER}
use Rattle.sgx_types.specs.declared.names.Page.{Page}
use Rattle.sgx_types.specs.declared.names.Kind.{Kind}
use Rattle.sgx_types.specs.declared.names.Kind.TheVariants as kinds
use Rattle.sgx_types.specs.declared.names.Perm.{Perm}
use Rattle.sgx_rules.specs.declared.refusals.Refusal.{Refusal}
use Rattle.sgx_rules.specs.declared.refusals.Refusal.TheVariants as why
use Rattle.sgx_types.specs.Pages.{no_perm, page_at}
use Rattle.sgx_rules.specs.Frames.{Content, Holds, secs_frame}
use Rattle.sgx_types.specs.Cases.{allowed, when, ◌otherwise◌}
use Rattle.sgx_rules.specs.Table.{EnclaveSight, Row, SecsSight, init_row}
use Rattle.sgx_rules.specs.Sights.{secs_seen}
use Rattle.sgx_rules.specs.Flat.{first_words}
use Rattle.epcm_entry.specs.inner.Epc.{EpcFrame, with_page, with_words, bytes_at, entry_at}
use Rattle.epcm_entry.specs.inner.EntryView.{goes_out}
use Rattle.epcm_entry.specs.inner.Sights.{held, held_in}
use Rattle.secs_state.specs.inner.Secs.{SecsState, with_children}
use Rattle.secs_state.specs.inner.Secs.{with_page as with_noted}
use Rattle.measure_log.specs.declared.measure.Measure.{Measure}
use Rattle.measure_log.specs.inner.Measure.{HoldsLog}
use Rattle.measure_log.specs.Blocks.{eextend_block, chunk_of}
use Rattle.measure_log.specs.Rule.{IsExpected, IsOther}
use Rattle.enclave_build.specs.declared.build_refusal.BuildRefusal.{BuildRefusal}
use Rattle.enclave_build.specs.declared.build_refusal.BuildRefusal.TheVariants as ends

-- ---- refusals

-- why an instruction that may want memory was refused; want of memory is no refusal
abbrev pub refusal_in_build : {T : Type 0} → Result T BuildRefusal → Option Refusal
refusal_in_build (Ok x) = None
refusal_in_build (Err (ends.Refused refusal)) = Some refusal
refusal_in_build (Err ends.Memory) = None

-- ---- an enclave's SECS

abbrev pub secs_sight : List EpcFrame → ℕ → SecsSight
secs_sight epc enclave = secs_seen (λ n. goes_out (entry_at epc n)) (secs_frame (length epc) (held_in epc) enclave)

-- the cases that a SECS gives
abbrev pub secs_row : SecsSight → Row
secs_row s = when s.is_away why.Absent otherwise when s.is_sealing why.Conflict otherwise allowed

-- ---- ECREATE

-- the frame is the SECS of an enclave
abbrev pub with_secs : List EpcFrame → ℕ → ℕ → List EpcFrame
with_secs epc f enclave = with_page epc f (page_at enclave SECS_NUMBER) kinds.Secs no_perm

-- ---- EADD

-- the frame holds a page with the bytes with which it is added
abbrev pub with_added : List EpcFrame → ℕ → Page → Kind → Perm → PageInit → List EpcFrame
with_added epc f page kind perm init = with_words (with_page epc f page kind perm) f (first_words init)

-- the page is added and resident
abbrev pub with_resident : SecsState → ℕ → Kind → Perm → SecsState
with_resident secs number kind perm = with_children (with_noted secs number kind perm) (secs.children + 1)

-- the log goes on by a block
abbrev pub Appends : Measure → Measure → List ℕ → Type 0
Appends old new block = (log : List ℕ) → HoldsLog old log → HoldsLog new (log ++ block)

-- ---- EEXTEND

-- the block of a chunk of the TCS or REG page in a frame
abbrev pub block_in : Content → List ℕ → ℕ → List ℕ
block_in (Holds page kind perm) bytes chunk = eextend_block (4096 * page.number + 256 * chunk) (chunk_of bytes chunk)
block_in _ bytes chunk = []

-- the same of a frame of an EPC
abbrev pub chunk_block : List EpcFrame → ℕ → ℕ → List ℕ
chunk_block epc f chunk = block_in (held (entry_at epc f)) (bytes_at epc f) chunk

-- ---- EINIT

-- a digest is the expected one, if one is expected
abbrev pub is_expected : Option (List ℕ) → List ℕ → Bool
is_expected None made = true
is_expected (Some wanted) made = bytes_eq wanted made

-- the row of `init`, with the measurement as its last case
abbrev pub measured_row : EnclaveSight → SecsSight → Option (List ℕ) → List ℕ → Row
measured_row enclave secs expect made = init_row (Some enclave) secs
    ++ (when (not (is_expected expect made)) (why.BadMeasure made) otherwise allowed)

-- a refusal but for the measurement
abbrev pub unless_measured : Option Refusal → Option Refusal
unless_measured (Some (why.BadMeasure made)) = None
unless_measured refusal = refusal

-- a measurement that is answered is the expected one, and one that a refusal tells is another
abbrev pub AgreesWith : Option (List ℕ) → Result (List ℕ) Refusal → Type 0
AgreesWith expect (Ok made) = IsExpected expect made
AgreesWith expect (Err (why.BadMeasure made)) = IsOther expect made
AgreesWith expect (Err refusal) = Unit {0}
