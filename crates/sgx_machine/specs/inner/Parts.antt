-- The machine's parts as data, and the state that they make.
use Rattle.std.specs.Prelude.{ℕ, ◌==◌, ◌&&◌, Bool, false, List, [], Option, Some, None, slice_index_or, slice_index, length}
use Rattle.std.specs.Prelude.{replicate}
use Rattle.sgx_types.specs.declared.names.Kind.{Kind}
use Rattle.sgx_types.specs.declared.names.Kind.TheVariants as kinds
use Rattle.sgx_types.specs.declared.names.Perm.{Perm}
use Rattle.sgx_types.specs.declared.layouts.TcsFields.{TcsFields}
use Rattle.sgx_rules.specs.Frames.{Content, Holds}
use Rattle.sgx_rules.specs.Processors.{Seat}
use Rattle.sgx_rules.specs.Flat.{FlatEnclave, tcs_fields}
use Rattle.epcm_entry.specs.inner.EntryView.{block_of, goes_out}
use Rattle.epcm_entry.specs.inner.Epc.{EpcFrame, free_frames, entry_at, words_at}
use Rattle.epcm_entry.specs.inner.Sights.{held}
use Rattle.secs_state.specs.inner.Secs.{SecsState, added_at, is_busy_at}
use Rattle.secs_state.specs.inner.Table.{empty_table, enclave_at}
use Rattle.cached_translations.specs.declared.processor.Processor.{Processor}
use Rattle.cached_translations.specs.declared.processor.Mode.{Mode}
use Rattle.cached_translations.specs.declared.processor.Mode.TheVariants.{Outside, Inside}
use Rattle.measure_log.specs.declared.measure.Measure.{Measure}
use Rattle.track_epoch.specs.inner.Tracking.{Tracking, starting_at}
use Rattle.track_epoch.specs.inner.Tracks.{track_of}
use Rattle.version_array.specs.inner.Slots.{VaArrays, is_busy_at as is_slot_busy_at, version_in}
use Rattle.sgx_rules.specs.inner.Starts.{BareStart}
use Rattle.sgx_machine.specs.declared.starts.Start as starts
use Rattle.machine_laws.specs.inner.State.{State}

-- the EPC, the state of each enclave, their running measurements by the enclave's number, their tracks, the version array
-- pages, the next version, the open start of each frame, the processors, and the numbers of the making
pub record Parts : Type 0 where
  pub epc : List EpcFrame
  pub secs : List (Option SecsState)
  pub measures : List (Option Measure)
  pub tracks : List Tracking
  pub va : VaArrays
  pub versions : ℕ
  pub starts : List (Option starts.Start)
  pub cpus : List Processor
  pub key : List ℕ
  pub start_epoch : ℕ
  pub start_version : ℕ

-- ---- enclaves

-- what flat memory knows of an enclave
abbrev pub enclave_of : Option SecsState → Option FlatEnclave
enclave_of None = None
enclave_of (Some x) = Some (record { base = x.base; size = x.size; is_init = x.is_init })

-- the kind and the permissions with which a page of an enclave was added
abbrev pub added_in : Option SecsState → ℕ → Option (Kind × Perm)
added_in None number = None
added_in (Some x) number = added_at x number

-- a processor is inside an enclave by a page
abbrev pub is_busy_in : Option SecsState → ℕ → Bool
is_busy_in None number = false
is_busy_in (Some x) number = is_busy_at x number

-- ---- processors

abbrev pub idle : Processor
idle = record { mode = Outside; acc = 0; cache = [] }

abbrev pub cpu_at : Parts → ℕ → Processor
cpu_at d p = slice_index_or d.cpus p idle

abbrev pub seat_of_mode : Mode → Option Seat
seat_of_mode Outside = None
seat_of_mode (Inside enclave tcs tf sf epoch) = Some (record { enclave = enclave; tcs = tcs; tcs_frame = tf.0; ssa_frame = sf.0 })

-- the epoch that it noted, 0 outside
abbrev pub noted_by : Mode → ℕ
noted_by Outside = 0
noted_by (Inside enclave tcs tf sf epoch) = epoch

-- a processor inside an enclave, which noted an epoch that passes a test
abbrev pub is_noted : ℕ → (ℕ → Bool) → Mode → Bool
is_noted e test Outside = false
is_noted e test (Inside enclave tcs tf sf epoch) = (enclave == e) && test epoch

-- ---- tracks and starts

-- an enclave's epoch, the first one where there is no such enclave
abbrev pub epoch_from : ℕ → Option Tracking → ℕ
epoch_from first None = first
epoch_from first (Some t) = t.epoch

abbrev pub start_of : Option starts.Start → Option BareStart
start_of None = None
start_of (Some x) = Some (record { at = x.at; slot = x.slot; version = x.version; loads = x.loads })

-- ---- the making

-- a machine of so many frames and processors that has done nothing yet
abbrev pub made : ℕ → ℕ → List ℕ → ℕ → ℕ → Parts
made frames cpus key start_epoch start_version = record {
  epc = free_frames frames;
  secs = empty_table;
  measures = replicate 9 None;
  tracks = replicate 8 (starting_at start_epoch);
  va = record { pages = []; made = 0 };
  versions = start_version;
  starts = replicate frames None;
  cpus = replicate cpus idle;
  key = key;
  start_epoch = start_epoch;
  start_version = start_version;
}

-- ---- the state

abbrev pub state_of : Parts → State
state_of d = record {
  frames = length d.epc;
  content = λ n. held (entry_at d.epc n);
  blocked = λ n. block_of (entry_at d.epc n);
  is_sealing = λ n. goes_out (entry_at d.epc n);
  words = λ n. words_at d.epc n;
  enclaves = λ e. enclave_of (enclave_at d.secs e);
  added = λ g. added_in (enclave_at d.secs g.enclave) g.number;
  vas_made = d.va.made;
  is_busy = λ g. is_busy_in (enclave_at d.secs g.enclave) g.number;
  measure = λ e. slice_index_or d.measures e None;
  inside = λ p. seat_of_mode (cpu_at d p).mode;
  acc = λ p. (cpu_at d p).acc;
  cache = λ p. (cpu_at d p).cache;
  noted = λ p. noted_by (cpu_at d p).mode;
  epoch = λ e. epoch_from d.start_epoch (track_of d.tracks e);
  version_in = λ slot. version_in d.va.pages slot;
  is_slot_named = λ slot. is_slot_busy_at d.va.pages slot;
  next_version = d.versions;
  start = λ n. start_of (slice_index_or d.starts n None);
  cpus = length d.cpus;
  key = d.key;
  first_epoch = d.start_epoch;
  first_version = d.start_version;
}

-- ---- what readers answer

abbrev pub tcs_of : Content → List ℕ → Option TcsFields
tcs_of (Holds page kinds.Tcs perm) words =
    Some (record { ossa = slice_index words 2; cssa = (tcs_fields words).cssa; nssa = (tcs_fields words).nssa })
tcs_of _ words = None
