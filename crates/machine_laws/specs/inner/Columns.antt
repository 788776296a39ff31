-- The columns of a state, in three groups, with its slots, and what the entries say of each. It is so without a bound: beyond the last
-- frame, enclave or processor there is nothing on either side.
use Rattle.std.specs.Prelude.{ℕ, ◌≡◌, ◌<◌, Bool, false, List, ◌∷◌, Option, Some, None, map}
use Rattle.sgx_rules.specs.declared.entries.Action.TheVariants.{Eld}
use Rattle.sgx_rules.specs.declared.entries.Entry.{Entry}
use Rattle.sgx_rules.specs.declared.entries.Event.{Event}
use Rattle.sgx_rules.specs.declared.entries.Event.TheVariants.{Did}
use Rattle.sgx_types.specs.declared.names.Kind.{Kind}
use Rattle.sgx_types.specs.declared.names.Page.{Page}
use Rattle.sgx_types.specs.declared.names.Perm.{Perm}
use Rattle.sgx_types.specs.declared.names.VaSlot.{VaSlot}
use Rattle.sgx_rules.specs.inner.Enclaves.{created}
use Rattle.sgx_rules.specs.Epochs.{epoch}
use Rattle.sgx_rules.specs.inner.Epochs.{block_epoch, noted}
use Rattle.sgx_rules.specs.Flat.{FlatEnclave}
use Rattle.sgx_rules.specs.Frames.{Content, IsVa, added, content, is_sealing, vas_made}
use Rattle.sgx_rules.specs.inner.Arrays.{came_back}
use Rattle.sgx_rules.specs.Processors.{BareTranslation, Seat, Stay, stay, translations}
use Rattle.sgx_rules.specs.Slots.{is_slot_busy, next_version, version_in}
use Rattle.sgx_rules.specs.Starts.{open_start}
use Rattle.sgx_rules.specs.inner.Starts.{BareStart, bare_start}
use Rattle.cached_translations.specs.declared.cache.Translation.{Translation}
use Rattle.machine_laws.specs.inner.State.{State, is_busy_at, place_at}

abbrev pub seat_of_stay : Option Stay → Option Seat
seat_of_stay None = None
seat_of_stay (Some t) = Some t.seat

abbrev pub without_perm : Translation → BareTranslation
without_perm t = record { number = t.number; frame = t.frame.0 }

-- the epoch that a processor noted, 0 of one outside
abbrev pub noted_inside : Option Stay → ℕ → ℕ
noted_inside None epoch = 0
noted_inside (Some t) epoch = epoch

-- what frames hold, the epochs of their blocks, whether their pages are on their way out, and their open starts
pub record FrameColumns : Type 0 where
  pub content : ℕ → Content
  pub blocked : ℕ → Option ℕ
  pub is_sealing : ℕ → Bool
  pub start : ℕ → Option BareStart

-- how processors are inside, the epochs that they noted, and their translations
pub record CpuColumns : Type 0 where
  pub inside : ℕ → Option Seat
  pub noted : ℕ → ℕ
  pub translations : ℕ → List BareTranslation

-- the enclaves that were created, their epochs, what their pages were added as, and how many version array pages were made
pub record EnclaveColumns : Type 0 where
  pub enclaves : ℕ → Option FlatEnclave
  pub epoch : ℕ → ℕ
  pub added : Page → Option (Kind × Perm)
  pub vas_made : ℕ

-- .. of a state
abbrev pub frames_of : State → FrameColumns
frames_of s = record { content = s.content; blocked = s.blocked; is_sealing = s.is_sealing; start = s.start }

abbrev pub cpus_of : State → CpuColumns
cpus_of s = record { inside = s.inside; noted = s.noted; translations = λ p. map without_perm (s.cache p) }

abbrev pub enclaves_of : State → EnclaveColumns
enclaves_of s = record { enclaves = s.enclaves; epoch = s.epoch; added = s.added; vas_made = s.vas_made }

-- .. and by the entries, from the first epoch and the first version on
abbrev pub frames_by : ℕ → List Entry → FrameColumns
frames_by first past = record {
  content = content past;
  blocked = block_epoch first past;
  is_sealing = is_sealing past;
  start = λ n. bare_start (open_start past n);
}

abbrev pub cpus_by : ℕ → List Entry → CpuColumns
cpus_by first past = record {
  inside = λ p. seat_of_stay (stay past p);
  noted = λ p. noted_inside (stay past p) (noted first past p);
  translations = translations past;
}

abbrev pub enclaves_by : ℕ → List Entry → EnclaveColumns
enclaves_by first past = record { enclaves = created past; epoch = epoch first past; added = added past; vas_made = vas_made past }

-- ---- slots, of the version array pages that frames hold

abbrev pub slot_of : ℕ → ℕ → VaSlot
slot_of number index = record { va = number; index = index }

-- which slots are busy is what the entries say. Open starts and pages on their way out tell it, so it is no column
abbrev pub HasBusy : State → List Entry → Type 0
HasBusy s past = (n number index : ℕ) → s.content n ≡ IsVa number → index < 512
    → is_busy_at s (place_at n index) ≡ is_slot_busy s.frames past (slot_of number index)

-- the slots of the version array page in a frame have the versions that the entries say
abbrev pub HasVersions : State → List Entry → ℕ → ℕ → Type 0
HasVersions s past n number = (index : ℕ) → index < 512 → s.version_in (place_at n index) ≡ version_in past (slot_of number index)

-- .. of each page that was never reloaded. What a record brought back no entry tells
abbrev pub HasOwnVersions : State → List Entry → Type 0
HasOwnVersions s past = (n number : ℕ) → s.content n ≡ IsVa number → came_back past number ≡ false → HasVersions s past n number

-- .. and of each page
abbrev pub HasAllVersions : State → List Entry → Type 0
HasAllVersions s past = (n number : ℕ) → s.content n ≡ IsVa number → HasVersions s past n number

-- a version array page that an entry brings back has the versions that the entries say
abbrev pub HasBack : State → List Entry → Entry → Type 0
HasBack t past e = by_event e.event
  where
    by_event : Event → Type 0
    by_event (Did (Eld f) answer) = (number : ℕ) → t.content f.0 ≡ IsVa number → HasVersions t (e ∷ past) f.0 number
    by_event _ = Unit {0}

-- each column is what the entries say
pub record HasColumns (s : State) (past : List Entry) : Type 0 where
  pub frames : frames_of s ≡ frames_by s.first_epoch past
  pub cpus : cpus_of s ≡ cpus_by s.first_epoch past
  pub next_version : s.next_version ≡ next_version s.first_version past
  pub versions : HasOwnVersions s past
  pub enclaves : enclaves_of s ≡ enclaves_by s.first_epoch past
