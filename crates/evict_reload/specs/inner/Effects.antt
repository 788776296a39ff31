-- What block, track, write-out and reload leave.
use Rattle.std.specs.Prelude.{ℕ, ◌≡◌, ◌+◌, ◌-◌, length, Bool, false, if◌then◌else◌, List, Option, Some, None}
use Rattle.sgx_types.specs.declared.names.Kind.{Kind}
use Rattle.sgx_types.specs.declared.names.Kind.TheVariants as kinds
use Rattle.sgx_types.specs.declared.names.Page.{Page}
use Rattle.sgx_types.specs.declared.names.Perm.{Perm}
use Rattle.sgx_types.specs.declared.names.SlotAt.{SlotAt}
use Rattle.sgx_types.specs.declared.record.Header.{Header}
use Rattle.std.specs.Option.{option_map}
use Rattle.sgx_types.specs.Pages.{is_own_page, is_secs_page, is_va_page, no_perm}
use Rattle.sgx_rules.specs.Frames.{enclave_in, secs_frame}
use Rattle.sgx_rules.specs.PageBytes.{secs_header, va_header}
use Rattle.sgx_rules.specs.Table.{is_va}
use Rattle.sgx_types.specs.Sealed.{header_of}
use Rattle.epcm_entry.specs.declared.entry_view.EntryView.{EntryView}
use Rattle.epcm_entry.specs.declared.entry_view.EntryView.TheVariants as views
use Rattle.epcm_entry.specs.inner.Epc.{EpcFrame, with_page, with_words}
use Rattle.epcm_entry.specs.inner.Epc.{with_blocked as with_block_at}
use Rattle.epcm_entry.specs.inner.Sights.{held_in, sight_in}
use Rattle.epcm_entry.specs.inner.Words.{words_of}
use Rattle.secs_state.specs.inner.Secs.{SecsState, with_children, with_frame}
use Rattle.secs_state.specs.inner.Table.{enclave_at, with_enclave}
use Rattle.track_epoch.specs.inner.Tracking.{Tracking, tracked}
use Rattle.track_epoch.specs.inner.Tracks.{track_of, with_track}
use Rattle.version_array.specs.declared.va_page.SlotState.{SlotState}
use Rattle.version_array.specs.inner.Slots.{with_filled, with_version, with_busy, without_page}
use Rattle.evict_reload.specs.inner.Sights.{added_in, is_kind_own}

-- ---- EBLOCK

-- the epoch of an enclave
abbrev pub epoch_tracked : Option Tracking → ℕ
epoch_tracked None = 0
epoch_tracked (Some t) = t.epoch

-- the same by the enclave's number, if there is one
abbrev pub epoch_of : List Tracking → Option ℕ → ℕ
epoch_of tracks None = 0
epoch_of tracks (Some enclave) = epoch_tracked (track_of tracks enclave)

-- the page in a frame blocked at its enclave's epoch
abbrev pub with_blocked : List EpcFrame → List Tracking → ℕ → List EpcFrame
with_blocked epc tracks f = with_block_at epc f (epoch_of tracks (enclave_in (sight_in epc f).content))

-- ---- ETRACK

-- an enclave's next epoch has begun
abbrev pub with_next : List Tracking → ℕ → Option Tracking → List Tracking
with_next tracks enclave None = tracks
with_next tracks enclave (Some t) = with_track tracks enclave (tracked t)

abbrev pub with_tracked : List Tracking → ℕ → List Tracking
with_tracked tracks enclave = with_next tracks enclave (track_of tracks enclave)

-- ---- EWB

-- the page that an entry says its frame holds
abbrev pub page_of : EntryView → Option Page
page_of (views.Valid page kind perm blocked sealing) = Some page
page_of _ = None

-- the slot has a version, and no start uses it
abbrev pub with_ended : List (Option (List SlotState)) → SlotAt → ℕ → List (Option (List SlotState))
with_ended va slot version = with_busy (with_version va slot version) slot false

-- ---- ELDU

-- the header that a page's record has, by what it was added as
abbrev pub header_by : Option SecsState → Page → Option (Kind × Perm) → Option Header
header_by (Some secs) page (Some x) = Some (header_of secs.base page x.0 x.1)
header_by _ page _ = None

-- the same by the page's name and the enclaves' states
abbrev pub header_in : List (Option SecsState) → Page → Option Header
header_in table page =
    if is_va_page page then Some (va_header page.number)
    else if is_secs_page page then Some (secs_header page.enclave)
    else header_by (enclave_at table page.enclave) page (added_in table page)

-- the type and the permissions of a page, by its name and the enclaves' states
abbrev pub kind_in : List (Option SecsState) → Page → Option (Kind × Perm)
kind_in table page =
    if is_va_page page then Some (kinds.Va, no_perm)
    else if is_secs_page page then Some (kinds.Secs, no_perm)
    else added_in table page

-- the frame holds a page of this type, a TCS or REG page with these bytes
abbrev pub with_kind : List EpcFrame → ℕ → Page → Kind → Perm → List ℕ → List EpcFrame
with_kind epc f page kind perm plain =
    if is_kind_own kind then with_words (with_page epc f page kind perm) f (words_of plain) else with_page epc f page kind perm

abbrev pub with_plain : List EpcFrame → ℕ → Page → Option (Kind × Perm) → List ℕ → List EpcFrame
with_plain epc f page None plain = epc
with_plain epc f page (Some x) plain = with_kind epc f page x.0 x.1 plain

-- the same by the enclaves' states
abbrev pub with_reloaded : List EpcFrame → List (Option SecsState) → ℕ → Page → List ℕ → List EpcFrame
with_reloaded epc table f page plain = with_plain epc f page (kind_in table page) plain

-- the slots of a version array page come with it
abbrev pub refilled : Bool → List (Option (List SlotState)) → ℕ → List ℕ → List (Option (List SlotState))
refilled is_array va f plain = if is_array then with_filled va f plain else va

-- the slots once a page is back
abbrev pub with_in : List (Option (List SlotState)) → ℕ → Page → List ℕ → SlotAt → List (Option (List SlotState))
with_in va f page plain slot = with_ended (refilled (is_va_page page) va f plain) slot 0

-- ---- resident pages

-- one resident page more of an enclave
abbrev pub with_child_of : List (Option SecsState) → ℕ → Option SecsState → List (Option SecsState)
with_child_of table enclave None = table
with_child_of table enclave (Some x) = with_enclave table enclave (with_children x (x.children + 1))

-- .. of a page's, where it is a TCS or REG page
abbrev pub with_child : List (Option SecsState) → Page → List (Option SecsState)
with_child table page = if is_own_page page then with_child_of table page.enclave (enclave_at table page.enclave) else table

-- what an enclave's state says beside its counts
abbrev pub beside : SecsState → SecsState
beside x = record x { children = 0; frame = None }

-- two tables differ in counts alone
pub record SameBeside (old new : List (Option SecsState)) : Type 0 where
  pub places : length new ≡ length old
  pub each : (e : ℕ) → option_map beside (enclave_at new e) ≡ option_map beside (enclave_at old e)

-- an enclave with one resident page fewer
abbrev pub without_child_of : List (Option SecsState) → ℕ → Option SecsState → List (Option SecsState)
without_child_of table enclave None = table
without_child_of table enclave (Some x) = with_enclave table enclave (with_children x (x.children - 1))

-- .. with its SECS in this frame, if in any
abbrev pub with_frame_of : List (Option SecsState) → ℕ → Option ℕ → Option SecsState → List (Option SecsState)
with_frame_of table enclave frame None = table
with_frame_of table enclave frame (Some x) =
    with_enclave table enclave (with_frame x (option_map (λ n. record { 0 = n }) frame))

-- what a page of this kind that went out leaves of its enclave, by what frames hold then
abbrev pub without_page_of : List EpcFrame → List (Option SecsState) → Page → Kind → List (Option SecsState)
without_page_of epc table page kinds.Va = table
without_page_of epc table page kinds.Secs =
    with_frame_of table page.enclave (secs_frame (length epc) (held_in epc) page.enclave) (enclave_at table page.enclave)
without_page_of epc table page _ = without_child_of table page.enclave (enclave_at table page.enclave)

-- the slots of a version array page go with it
abbrev pub emptied : Bool → List (Option (List SlotState)) → ℕ → List (Option (List SlotState))
emptied is_array va f = if is_array then without_page va f else va

-- the slots once what a frame held is out
abbrev pub with_out : List EpcFrame → List (Option (List SlotState)) → ℕ → SlotAt → ℕ → List (Option (List SlotState))
with_out epc va f slot version = with_ended (emptied (is_va (held_in epc f)) va f) slot version

-- what a page of this kind that is back leaves of its enclave, by what frames hold then
abbrev pub with_page_of : List EpcFrame → List (Option SecsState) → Page → Kind → List (Option SecsState)
with_page_of epc table page kinds.Secs =
    with_frame_of table page.enclave (secs_frame (length epc) (held_in epc) page.enclave) (enclave_at table page.enclave)
with_page_of epc table page _ = table

-- one resident page fewer of an enclave, where a page's load is refused that is a TCS or REG page
abbrev pub without_child : List (Option SecsState) → Page → List (Option SecsState)
without_child table page = if is_own_page page then without_child_of table page.enclave (enclave_at table page.enclave) else table
