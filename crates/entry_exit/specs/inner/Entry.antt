-- What entries and exits see of a processor, its enclave and the frames, and what each leaves.
use Rattle.std.specs.Prelude.{◌≡◌, ℕ, ◌+◌, ◌-◌, ◌/◌, ◌<◌, ◌==◌, false, List, [], Some, IsSome, Contains}
use Rattle.sgx_types.specs.declared.layouts.TcsFields.{TcsFields}
use Rattle.sgx_types.specs.declared.names.Frame.{Frame}
use Rattle.sgx_rules.specs.declared.refusals.Refusal.TheVariants as why
use Rattle.sgx_rules.specs.Frames.{Content, Holds}
use Rattle.sgx_rules.specs.declared.refusals.Refusal.{Refusal}
use Rattle.sgx_types.specs.Cases.{Case, when}
use Rattle.sgx_rules.specs.Table.{EnterSight, Row, TcsSight, enter_row, resume_row}
use Rattle.sgx_rules.specs.Flat.{tcs_fields, with_cssa}
use Rattle.epcm_entry.specs.inner.Epc.{EpcFrame, words_at, with_word, with_words}
use Rattle.epcm_entry.specs.inner.Sights.{sight_in}
use Rattle.secs_state.specs.inner.Secs.{SecsState, added_at, is_busy_at, with_busy}
use Rattle.secs_state.specs.inner.Sights.{sight_of}
use Rattle.cached_translations.specs.declared.processor.Mode.{Mode}
use Rattle.cached_translations.specs.declared.processor.Mode.TheVariants as modes
use Rattle.cached_translations.specs.declared.processor.Processor.{Processor}
use Rattle.cached_translations.specs.inner.Modes.{is_inside}
use Rattle.track_epoch.specs.inner.Tracking.{Tracking, left}
use Rattle.entry_exit.specs.declared.way_in.WayIn.{WayIn}
use Rattle.entry_exit.specs.declared.way_in.WayIn.TheVariants as entries

-- ---- what is seen

-- the fields of the TCS page in a frame
abbrev pub fields_at : List EpcFrame → ℕ → TcsSight
fields_at epc f = tcs_fields (words_at epc f)

-- the same as they stand in the page, with OSSA in bytes
abbrev pub seen_fields : TcsFields → TcsSight
seen_fields fields = record { ossa = fields.ossa / 4096; cssa = fields.cssa; nssa = fields.nssa }

-- what `enter` and `resume` see, by the TCS page's number and the two frames
abbrev pub enter_sight : List EpcFrame → SecsState → Mode → ℕ → ℕ → ℕ → EnterSight
enter_sight epc secs mode tcs tf sf = record {
  is_inside = is_inside mode;
  enclave = Some (sight_of secs);
  tcs = sight_in epc tf;
  tcs_busy = is_busy_at secs tcs;
  fields = fields_at epc tf;
  ssa = sight_in epc sf;
}

-- ---- the two ways in

abbrev pub row_of : WayIn → ℕ → ℕ → EnterSight → Row
row_of entries.Enter enclave tcs s = enter_row enclave tcs s
row_of entries.Resume enclave tcs s = resume_row enclave tcs s

-- what is asked of CSSA
abbrev pub frame_case : WayIn → TcsSight → Case Refusal
frame_case entries.Enter fields = when (fields.cssa == fields.nssa) why.NoFrame
frame_case entries.Resume fields = when (fields.cssa == 0) why.NoSaved

-- the page into which the state goes, or from which it comes
abbrev pub ssa_page : WayIn → TcsSight → ℕ
ssa_page entries.Enter fields = fields.ossa + fields.cssa
ssa_page entries.Resume fields = fields.ossa + fields.cssa - 1

-- ---- what an entry needs

-- a page of the enclave that a frame holds is one of its added pages
abbrev pub IsAddedIn : Content → SecsState → Type 0
IsAddedIn (Holds page kind perm) secs = page.enclave ≡ secs.enclave → IsSome (added_at secs page.number)
IsAddedIn _ secs = Unit {0}

-- ---- what an entry leaves

-- a processor inside by a TCS page and two frames, with the epoch that it noted, and without translations
abbrev pub with_entered : ℕ → ℕ → Frame → Frame → ℕ → ℕ → Processor
with_entered enclave tcs tf sf epoch acc = record { mode = modes.Inside enclave tcs tf sf epoch; acc = acc; cache = [] }

-- the TCS page in a frame with another CSSA
abbrev pub with_cssa_at : List EpcFrame → ℕ → ℕ → List EpcFrame
with_cssa_at epc tf cssa = with_words epc tf (with_cssa (words_at epc tf) cssa)

-- one state save frame fewer is in use
abbrev pub with_resumed : List EpcFrame → ℕ → List EpcFrame
with_resumed epc tf = with_cssa_at epc tf ((fields_at epc tf).cssa - 1)

-- ---- what an exit needs

-- the enclave's state is that of the enclave that a processor is inside
abbrev pub IsItsEnclave : Mode → SecsState → Type 0
IsItsEnclave modes.Outside secs = Unit {0}
IsItsEnclave (modes.Inside enclave tcs tf sf epoch) secs = enclave ≡ secs.enclave

-- the TCS page by which a processor is inside is an added page
abbrev pub HasItsTcs : Mode → SecsState → Type 0
HasItsTcs modes.Outside secs = Unit {0}
HasItsTcs (modes.Inside enclave tcs tf sf epoch) secs = IsSome (added_at secs tcs)

-- the track counts a processor inside at the epoch that it noted
abbrev pub CountsIt : Mode → Tracking → Type 0
CountsIt modes.Outside track = Unit {0}
CountsIt (modes.Inside enclave tcs tf sf epoch) track = Contains track.noted epoch

-- the two frames of a processor inside are below a number
abbrev pub HasItsFrames : Mode → ℕ → Type 0
HasItsFrames modes.Outside frames = Unit {0}
HasItsFrames (modes.Inside enclave tcs tf sf epoch) frames = (tf.0 < frames) × (sf.0 < frames)

-- ---- what an exit leaves

-- a processor outside, without translations and with the accumulator that it had
abbrev pub outside : Processor → Processor
outside cpu = record { mode = modes.Outside; acc = cpu.acc; cache = [] }

-- no processor is inside by the TCS page
abbrev pub with_tcs_left : SecsState → Mode → SecsState
with_tcs_left secs modes.Outside = secs
with_tcs_left secs (modes.Inside enclave tcs tf sf epoch) = with_busy secs tcs false

-- one processor that noted its epoch is inside no more
abbrev pub with_left : Tracking → Mode → Tracking
with_left track modes.Outside = track
with_left track (modes.Inside enclave tcs tf sf epoch) = left track epoch

-- the accumulator is the first word of the state save frame, and one state save frame more is in use
abbrev pub with_saved : List EpcFrame → ℕ → ℕ → ℕ → List EpcFrame
with_saved epc tf sf acc = with_cssa_at (with_word epc sf 0 acc) tf ((fields_at epc tf).cssa + 1)

-- the same by how a processor is inside
abbrev pub with_its_saved : List EpcFrame → Mode → ℕ → List EpcFrame
with_its_saved epc modes.Outside acc = epc
with_its_saved epc (modes.Inside enclave tcs tf sf epoch) acc = with_saved epc tf.0 sf.0 acc
