-- What the rows of block, track, write-out and reload see of the EPC, the tracks, the version arrays and the enclaves.
use Rattle.std.specs.Prelude.{◌≡◌, ℕ, ◌≤◌, ◌==◌, ◌&&◌, ◌||◌, nat_lt, not, Bool, true, false, if◌then◌else◌, List, Option, Some}
use Rattle.std.specs.Prelude.{None, IfSome, is_some, length}
use Rattle.std.specs.Option.{option_and_then, option_map}
use Rattle.sgx_types.specs.declared.names.Kind.{Kind}
use Rattle.sgx_types.specs.declared.names.Kind.TheVariants as kinds
use Rattle.sgx_types.specs.declared.names.Page.{Page}
use Rattle.sgx_types.specs.declared.names.Perm.{Perm}
use Rattle.sgx_types.specs.declared.names.SlotAt.{SlotAt}
use Rattle.sgx_types.specs.Pages.{is_own_page, is_secs_page, is_va_page}
use Rattle.sgx_rules.specs.Frames.{Content, Holds, IsLoading, SecsOf, enclave_in, secs_frame}
use Rattle.sgx_types.specs.Cases.{allowed, when, ◌otherwise◌}
use Rattle.sgx_rules.specs.Table.{EnclaveSight, LoadSight, Row, SecsSight, TrackSight, is_va}
use Rattle.sgx_rules.specs.Table.{SlotSight, UseSight}
use Rattle.sgx_rules.specs.Table.{DrainSight, FrameSight, is_own}
use Rattle.epcm_entry.specs.declared.entry_view.EntryView.{EntryView}
use Rattle.epcm_entry.specs.declared.entry_view.EntryView.TheVariants as views
use Rattle.epcm_entry.specs.inner.Epc.{EpcFrame, entry_at}
use Rattle.epcm_entry.specs.inner.EntryView.{goes_out}
use Rattle.epcm_entry.specs.inner.Sights.{held_in, sight_in}
use Rattle.secs_state.specs.inner.Resident.{AreCounted}
use Rattle.sgx_rules.specs.Sights.{children_under, secs_seen}
use Rattle.sgx_rules.specs.declared.refusals.Refusal.TheVariants as why
use Rattle.secs_state.specs.inner.Secs.{SecsState, added_at}
use Rattle.secs_state.specs.inner.Sights.{sight_of}
use Rattle.secs_state.specs.inner.Table.{enclave_at}
use Rattle.sgx_types.specs.declared.names.TheConstants.{LAST_EPOCH}
use Rattle.track_epoch.specs.inner.Tracking.{Tracking, number_older, number_up_to}
use Rattle.track_epoch.specs.inner.Tracks.{track_of}
use Rattle.version_array.specs.declared.va_page.SlotState.{SlotState}
use Rattle.version_array.specs.inner.Slots.{has_page, is_any_busy, version_in, is_busy_at}
use Rattle.sgx_rules.specs.Flat.{settled}

-- ---- what is needed

-- the frames that hold a version array page are those at which the table has one
abbrev pub AreVaPages : List EpcFrame → List (Option (List SlotState)) → Type 0
AreVaPages epc va = (n : ℕ) → has_page va n ≡ is_va (sight_in epc n).content

-- a TCS or REG page in a frame is of an enclave from 1 to 8
abbrev pub IsNumbered : Content → Type 0
IsNumbered content = IfSome (enclave_in content) (λ enclave. (1 ≤ enclave) × (enclave ≤ 8))

-- the enclave of a SECS, TCS or REG page that a frame holds or waits for
abbrev pub owner_in : Content → Option ℕ
owner_in (SecsOf enclave) = Some enclave
owner_in (Holds page kind perm) = Some page.enclave
owner_in (IsLoading page) = if is_va_page page then None else Some page.enclave
owner_in _ = None

-- .. was created
abbrev pub HaveEnclaves : List EpcFrame → List (Option SecsState) → Type 0
HaveEnclaves epc table = (n : ℕ) → IfSome (owner_in (held_in epc n)) (λ e. is_some (enclave_at table e) ≡ true)

-- ---- slots

-- the slot, by the frame that should hold its page: it is busy where it is marked, and while the page is on its way out
abbrev pub slot_sight : List EpcFrame → List (Option (List SlotState)) → SlotAt → SlotSight
slot_sight epc va slot = record {
  frame = sight_in epc slot.frame.0;
  is_beyond = nat_lt 511 slot.index;
  is_busy = is_busy_at va slot || (is_va (held_in epc slot.frame.0) && goes_out (entry_at epc slot.frame.0));
  version = version_in va slot;
}

-- the uses of what a frame holds
abbrev pub use_sight : List EpcFrame → List (Option (List SlotState)) → ℕ → SlotAt → UseSight
use_sight epc va f slot = record {
  is_in_use = is_va (held_in epc f) && is_any_busy va f;
  is_its_own = f == slot.frame.0;
  children = children_under (length epc) (held_in epc) (held_in epc f);
}

-- ---- tracking

-- an enclave's track, seen from a block at an epoch
abbrev pub drain_from : ℕ → Option Tracking → DrainSight
drain_from block None = record { epoch = 0; kept_back = 0; is_drained = false }
drain_from block (Some t) =
    record { epoch = t.epoch; kept_back = number_up_to t block; is_drained = nat_lt block t.epoch && (number_up_to t block == 0) }

-- the track of the enclave of a blocked page, seen from its block; where no page is blocked nothing asks for it
abbrev pub drain_of : List Tracking → EntryView → DrainSight
drain_of tracks (views.Valid page kind perm (Some block) sealing) = drain_from block (track_of tracks page.enclave)
drain_of tracks _ = record { epoch = 0; kept_back = 0; is_drained = false }

-- the same of a frame
abbrev pub drain_sight : List EpcFrame → List Tracking → ℕ → DrainSight
drain_sight epc tracks f = drain_of tracks (entry_at epc f)

-- an enclave by its number, None where it was not created
abbrev pub enclave_sight : List (Option SecsState) → ℕ → Option EnclaveSight
enclave_sight table enclave = option_map sight_of (enclave_at table enclave)

-- an enclave's SECS
abbrev pub secs_sight : List EpcFrame → ℕ → SecsSight
secs_sight epc enclave = secs_seen (λ n. goes_out (entry_at epc n)) (secs_frame (length epc) (held_in epc) enclave)

-- the track of an enclave, as `track` sees it
abbrev pub track_seen : Option EnclaveSight → SecsSight → Option Tracking → TrackSight
track_seen enclave secs None = record { enclave = enclave; secs = secs; older = 0; is_spent = false }
track_seen enclave secs (Some t) =
    record { enclave = enclave; secs = secs; older = number_older t; is_spent = t.epoch == LAST_EPOCH }

-- .. of an enclave by its number
abbrev pub track_sight : List EpcFrame → List (Option SecsState) → List Tracking → ℕ → TrackSight
track_sight epc table tracks enclave = track_seen (enclave_sight table enclave) (secs_sight epc enclave) (track_of tracks enclave)

-- what is needed of the enclaves: each counts the frames as they are
abbrev pub AreCountedIn : List EpcFrame → List (Option SecsState) → Type 0
AreCountedIn epc table = AreCounted (length epc) (held_in epc) table

-- the cases that a SECS gives
abbrev pub secs_row : SecsSight → Row
secs_row s = when s.is_away why.Absent otherwise when s.is_sealing why.Conflict otherwise allowed

-- ---- enclaves

-- the kind and the permissions with which a page was added to its enclave, None where it was not, or there is no such enclave
abbrev pub added_in : List (Option SecsState) → Page → Option (Kind × Perm)
added_in table page = option_and_then (λ secs. added_at secs page.number) (enclave_at table page.enclave)

-- the page was added to an enclave that was created
abbrev pub is_added : List (Option SecsState) → Page → Bool
is_added table page = is_some (added_in table page)

-- ---- pages to be loaded

-- whether there is such a page, by how many version array pages were made and by the enclaves
abbrev pub is_known : ℕ → List (Option SecsState) → Page → Bool
is_known made table g =
    if is_va_page g then nat_lt g.number made
    else if is_secs_page g then is_some (enclave_at table g.enclave)
    else is_added table g

abbrev pub load_sight : List EpcFrame → ℕ → List (Option SecsState) → Page → LoadSight
load_sight epc made table g =
    record { is_known = is_known made table g; secs = if is_own_page g then secs_sight epc g.enclave else settled }

-- ---- what keeps a page in its frame

-- how many frames hold or load pages under what a frame holds
abbrev pub children_in : List EpcFrame → ℕ → ℕ
children_in epc f = children_under (length epc) (held_in epc) (held_in epc f)

-- a SECS stays while pages of its enclave are there
abbrev pub children_row : ℕ → Row
children_row count = when (not (count == 0)) (why.ChildPresent count) otherwise allowed

-- a TCS or REG page stays until it is blocked, and then until its translations are gone
abbrev pub track_row_from : Tracking → Option ℕ → Row
track_row_from t None = when true why.PageNotBlocked otherwise allowed
track_row_from t (Some block) =
    when (not (drain_from block (Some t)).is_drained) (why.NotTracked t.epoch (number_up_to t block)) otherwise allowed

-- the three cases of the row of `ewbstart` together
abbrev pub stay_row : FrameSight → ℕ → DrainSight → Row
stay_row s children drain =
    when (not (children == 0)) (why.ChildPresent children)
    otherwise when (is_own s.content && not s.is_blocked) why.PageNotBlocked
    otherwise when (is_own s.content && not drain.is_drained) (why.NotTracked drain.epoch drain.kept_back)
    otherwise allowed

-- the cases that a page to be loaded gives
abbrev pub page_row : LoadSight → Row
page_row page =
    when (not page.is_known) why.Absent
    otherwise when page.secs.is_away why.Absent
    otherwise when page.secs.is_sealing why.Conflict
    otherwise allowed

-- a TCS or a REG page
abbrev pub is_kind_own : Kind → Bool
is_kind_own kinds.Tcs = true
is_kind_own kinds.Reg = true
is_kind_own _ = false

abbrev pub is_array : Kind → Bool
is_array kinds.Va = true
is_array _ = false
