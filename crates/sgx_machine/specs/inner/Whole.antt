-- What is true of every machine.
use Rattle.std.specs.Prelude.{ℕ, ◌≡◌, ◌≤◌, ◌==◌, if◌then◌else◌, Bool, List, Option, Some, length, count_by}
use Rattle.sgx_types.specs.declared.names.Kind.TheVariants as kinds
use Rattle.sgx_types.specs.declared.names.TheConstants.{MOST_FRAMES, SECS_NUMBER}
use Rattle.epcm_entry.specs.declared.entry_view.EntryView.{EntryView}
use Rattle.epcm_entry.specs.declared.entry_view.EntryView.TheVariants.{Valid}
use Rattle.epcm_entry.specs.inner.Epc.{EpcFrame, entry_at}
use Rattle.secs_state.specs.inner.Secs.{SecsState, IsSecs}
use Rattle.secs_state.specs.inner.Table.{enclave_at}
use Rattle.track_epoch.specs.inner.Tracking.{Tracking}
use Rattle.track_epoch.specs.inner.Tracks.{track_of}
use Rattle.cached_translations.specs.declared.processor.Processor.{Processor}
use Rattle.enclave_access.specs.inner.Access.{LeadsBelow}
use Rattle.evict_reload.specs.inner.Sights.{AreCountedIn, AreVaPages, HaveEnclaves}
use Rattle.version_array.specs.inner.Slots.{IsVaTable, VaArrays}
use Rattle.machine_laws.specs.inner.Guarded.{IsGuarded}
use Rattle.sgx_machine.specs.declared.machine.Machine.TheInside.{Inside}
use Rattle.sgx_machine.specs.inner.Parts.{Parts, is_noted, state_of}
use Rattle.machine_laws.specs.inner.State.{State}
use Rattle.machine_laws.specs.inner.Stands.{IsSound, IsMeasured, IsFramed}

abbrev pub parts_of : Inside → Parts
parts_of m = record {
  epc = m.epc;
  secs = m.secs;
  measures = m.measures.items;
  tracks = m.tracks;
  va = m.va;
  versions = m.versions;
  starts = m.starts.items;
  cpus = m.cpus.items;
  key = m.key;
  start_epoch = m.start_epoch;
  start_version = m.start_version;
}

-- the state of the enclave of a number
pub record IsSecsOf (enclave : ℕ) (secs : SecsState) : Type 0 where
  pub number : secs.enclave ≡ enclave
  pub sound : IsSecs secs

-- a place for each enclave from 1 to 8, and in it that enclave's state
pub record IsTable (table : List (Option SecsState)) : Type 0 where
  pub places : length table ≡ 8
  pub own : (e : ℕ) (x : SecsState) → enclave_at table e ≡ Some x → IsSecsOf e x

-- each translation leads to a frame of the EPC
abbrev pub IsWithin : State → Type 0
IsWithin s = (p : ℕ) → LeadsBelow (s.cache p) s.frames

-- the track of an enclave notes the epochs of the processors inside it: whatever the test, as many pass on either side
abbrev pub IsTracked : List Tracking → List Processor → Type 0
IsTracked tracks cpus = (e : ℕ) (t : Tracking) → track_of tracks e ≡ Some t → (test : ℕ → Bool)
    → count_by test t.noted ≡ count_by (λ (c : Processor). is_noted e test c.mode) cpus

-- an entry names a version array page by its number alone, and a SECS by its enclave
abbrev pub IsNamedFor : EntryView → Type 0
IsNamedFor (Valid page kinds.Va perm blocked sealing) = page.enclave ≡ 0
IsNamedFor (Valid page kinds.Secs perm blocked sealing) = page.number ≡ SECS_NUMBER
IsNamedFor _ = Unit {0}

-- of what is in frames: the frames that hold a version array page are those of the table, which has a place for each frame once one was
-- made; there are at most 4096 frames; each enclave counts its resident pages and knows the frame of its SECS; and what is in a frame, or
-- comes into one, is of an enclave that was created, and has a name of its kind
pub record AreHeld (epc : List EpcFrame) (secs : List (Option SecsState)) (va : VaArrays) : Type 0 where
  pub pages : AreVaPages epc va.pages
  pub places : length va.pages ≡ (if va.made == 0 then 0 else MOST_FRAMES)
  pub small : length epc ≤ MOST_FRAMES
  pub counted : AreCountedIn epc secs
  pub owned : HaveEnclaves epc secs
  pub named : (n : ℕ) → IsNamedFor (entry_at epc n)

pub record IsWhole (m : Inside) : Type 0 where
  pub processors : length m.cpus.items ≤ 16
  pub places : length m.measures.items ≡ 9
  pub table : IsTable m.secs
  pub track_places : length m.tracks ≡ 8
  pub tracked : IsTracked m.tracks m.cpus.items
  pub slots : IsVaTable m.va.pages
  pub held : AreHeld m.epc m.secs m.va
  pub start_places : length m.starts.items ≡ length m.epc
  pub measured : IsMeasured (state_of (parts_of m))
  pub framed : IsFramed (state_of (parts_of m))
  pub within : IsWithin (state_of (parts_of m))
  pub sound : IsSound (state_of (parts_of m))
  pub guarded : IsGuarded (state_of (parts_of m))
