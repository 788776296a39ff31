-- What the rows of the instruction table see, read from the entries before a place, and by it the row of each instruction.
use Rattle.std.specs.Prelude.{ℕ, ◌==◌, ◌/◌, ◌^◌, ◌&&◌, Bool, true, false, if◌then◌else◌, List, Option, Some, None, nat_le, nat_lt}
use Rattle.std.specs.Prelude.{is_some}
use Rattle.sgx_rules.specs.declared.entries.Entry.{Entry}
use Rattle.sgx_types.specs.declared.names.Actor.{Actor}
use Rattle.sgx_types.specs.declared.names.Actor.TheVariants as actors
use Rattle.sgx_rules.specs.declared.entries.Action.{Action}
use Rattle.sgx_rules.specs.declared.entries.Action.TheVariants.{Epa, Create, Add, Extend, Init, Enter, Resume, Exit, Aex, Fill}
use Rattle.sgx_rules.specs.declared.entries.Action.TheVariants.{Load, Store}
use Rattle.sgx_rules.specs.declared.entries.Action.TheVariants.{Xadd, Set, Plus, Pf, OutLoad, OutStore, Block, Track, EwbStart}
use Rattle.sgx_rules.specs.declared.entries.Action.TheVariants.{Ewb}
use Rattle.sgx_rules.specs.declared.entries.Action.TheVariants.{EldStart, Eld}
use Rattle.sgx_types.specs.declared.names.Kind.{Kind}
use Rattle.sgx_types.specs.declared.names.Perm.{Perm}
use Rattle.sgx_types.specs.declared.names.Page.{Page}
use Rattle.sgx_types.specs.declared.names.SlotAt.{SlotAt}
use Rattle.sgx_types.specs.declared.names.TheConstants.{LAST_EPOCH}
use Rattle.sgx_rules.specs.Epochs.{epoch, epoch_in, older_at}
use Rattle.sgx_rules.specs.Eviction.{is_drained, kept_back}
use Rattle.sgx_types.specs.Pages.{is_own_page, is_va_page}
use Rattle.sgx_rules.specs.Frames.{Content, SecsOf, IsVa, children, content, enclave_in, is_sealing, is_blocked}
use Rattle.sgx_types.specs.Pages.{is_secs_page, page_at}
use Rattle.sgx_rules.specs.Frames.{secs_frame, vas_made}
use Rattle.sgx_types.specs.Making.{Making}
use Rattle.sgx_rules.specs.Processors.{Seat, Stay, stay, holds_number, translations}
use Rattle.sgx_rules.specs.Slots.{is_busy_at, is_va_in_use, next_version, version_at}
use Rattle.sgx_types.specs.Cases.{allowed}
use Rattle.sgx_rules.specs.Table.{DrainSight, EnterSight, FrameSight, Row, SlotSight, TrackSight, epa_row, is_ready}
use Rattle.sgx_rules.specs.Table.{create_row}
use Rattle.sgx_rules.specs.Table.{LoadSight, SecsSight, UseSight, is_made}
use Rattle.sgx_rules.specs.Table.{add_row, extend_row, init_row, enter_row, resume_row, inside_row, fill_row, load_row}
use Rattle.sgx_rules.specs.Table.{store_row}
use Rattle.sgx_rules.specs.Table.{xadd_row, pf_row, outside_row, block_row, track_row}
use Rattle.sgx_rules.specs.Table.{ewbstart_row}
use Rattle.sgx_rules.specs.Table.{eldstart_row}
use Rattle.sgx_rules.specs.Flat.{FlatMemory, FlatPage, flat, added_as, enclave_sight, fields_in, settled}

-- ---- frames and enclaves

-- a frame of an EPC with so many frames
abbrev pub sight_at : ℕ → List Entry → ℕ → FrameSight
sight_at frames past n = record {
  is_beyond = nat_le frames n;
  content = content past n;
  is_sealing = is_sealing past n;
  is_blocked = is_blocked past n;
}

-- an enclave's SECS by the frame that holds it, and by which frames are on their way out
abbrev pub secs_seen : (ℕ → Bool) → Option ℕ → SecsSight
secs_seen sealing None = record { is_away = true; is_sealing = false }
secs_seen sealing (Some n) = record { is_away = false; is_sealing = sealing n }

-- an enclave's SECS in one of so many frames
abbrev pub secs_sight_at : ℕ → List Entry → ℕ → SecsSight
secs_sight_at frames past enclave = secs_seen (is_sealing past) (secs_frame frames (content past) enclave)

-- whether the enclave of the page in a frame is initialised
abbrev pub is_closed : FlatMemory → Option ℕ → Bool
is_closed m None = false
is_closed m (Some enclave) = is_ready (enclave_sight m enclave)

-- ---- processors

-- how an actor is inside an enclave: who is no processor is inside none
abbrev pub stay_of : List Entry → Actor → Option Stay
stay_of past (actors.Cpu p) = stay past p.0
stay_of past actors.Builder = None
stay_of past actors.Reclaimer = None

abbrev pub enclave_of_stay : Option Stay → Option ℕ
enclave_of_stay None = None
enclave_of_stay (Some s) = Some s.seat.enclave

abbrev pub perm_of_page : Option FlatPage → Option Perm
perm_of_page None = None
perm_of_page (Some x) = Some x.perm

-- the permissions of the translation that a processor inside holds of a page, None where it holds none
abbrev pub translation_at : List Entry → ℕ → Option Stay → ℕ → Option Perm
translation_at past p None number = None
translation_at past p (Some s) number = held (holds_number (translations past p) number)
  where
    held : Bool → Option Perm
    held held_now = if held_now then perm_of_page ((flat past).pages (page_at s.seat.enclave number)) else None

-- .. that an actor holds: who is no processor holds none
abbrev pub translation_by : List Entry → Actor → ℕ → Option Perm
translation_by past (actors.Cpu p) number = translation_at past p.0 (stay past p.0) number
translation_by past actors.Builder number = None
translation_by past actors.Reclaimer number = None

-- what the page at an offset in the enclave that an actor is inside was added as
abbrev pub added_at : List Entry → Option Stay → ℕ → Option (Kind × Perm)
added_at past None number = None
added_at past (Some s) number = added_as ((flat past).pages (page_at s.seat.enclave number))

-- what `enter` and `resume` see
abbrev pub enter_sight_at : ℕ → List Entry → Option Stay → Seat → EnterSight
enter_sight_at frames past inside seat = record {
  is_inside = is_some inside;
  enclave = enclave_sight (flat past) seat.enclave;
  tcs = sight_at frames past seat.tcs_frame;
  tcs_busy = (flat past).is_busy (page_at seat.enclave seat.tcs);
  fields = fields_in (flat past) seat.enclave seat.tcs;
  ssa = sight_at frames past seat.ssa_frame;
}

abbrev pub seat_of : ℕ → ℕ → ℕ → ℕ → Seat
seat_of enclave tcs tf sf = record { enclave = enclave; tcs = tcs; tcs_frame = tf; ssa_frame = sf }

-- ---- tracking and slots

-- an enclave's tracking, where epochs count from the first
abbrev pub track_sight_at : ℕ → ℕ → List Entry → ℕ → TrackSight
track_sight_at frames first past enclave = record {
  enclave = enclave_sight (flat past) enclave;
  secs = secs_sight_at frames past enclave;
  older = older_at past enclave;
  is_spent = epoch first past enclave == LAST_EPOCH;
}

abbrev pub slot_sight_at : ℕ → List Entry → SlotAt → SlotSight
slot_sight_at frames past slot = record {
  frame = sight_at frames past slot.frame.0;
  is_beyond = nat_lt 511 slot.index;
  is_busy = is_busy_at frames past slot;
  version = version_at past slot;
}

-- whether a slot of what a frame holds is busy, which only a version array page has
abbrev pub is_in_use : ℕ → List Entry → Content → Bool
is_in_use frames past (IsVa number) = is_va_in_use frames past number
is_in_use frames past _ = false

-- how many frames hold or load pages under what a frame holds, which only a SECS has
abbrev pub children_under : ℕ → (ℕ → Content) → Content → ℕ
children_under frames held (SecsOf enclave) = children frames held enclave
children_under frames held _ = 0

abbrev pub use_sight_at : ℕ → List Entry → ℕ → SlotAt → UseSight
use_sight_at frames past n slot = record {
  is_in_use = is_in_use frames past (content past n);
  is_its_own = n == slot.frame.0;
  children = children_under frames (content past) (content past n);
}

-- whether there is such a page: a version array page that was made, the SECS of an enclave that was created, or a page that was
-- added to one
abbrev pub is_known : FlatMemory → ℕ → Page → Bool
is_known m vas g =
    if is_va_page g then nat_lt g.number vas
    else if is_secs_page g then is_made (enclave_sight m g.enclave)
    else is_made (enclave_sight m g.enclave) && is_some (m.pages g)

abbrev pub load_sight_at : ℕ → List Entry → Page → LoadSight
load_sight_at frames past g = record {
  is_known = is_known (flat past) (vas_made past) g;
  secs = if is_own_page g then secs_sight_at frames past g.enclave else settled;
}

-- the tracking of the page in a frame, seen from its block
abbrev pub drain_sight_at : ℕ → List Entry → ℕ → DrainSight
drain_sight_at first past n = record {
  epoch = epoch_in first past n;
  kept_back = kept_back past n;
  is_drained = is_drained past n;
}

-- ---- the rows

-- the row of an instruction, by its actor, on a machine of this making. The two commits have none: what they end decides
abbrev pub row_at : Making → List Entry → Actor → Action → Row
row_at k past actor (Epa f) = epa_row (sight_at k.frames past f.0)
row_at k past actor (Create enclave f base size) =
    create_row enclave base size (is_some ((flat past).enclaves enclave)) (sight_at k.frames past f.0)
row_at k past actor (Add enclave number f kind perm init) =
    add_row number kind perm init (enclave_sight (flat past) enclave) (secs_sight_at k.frames past enclave)
    (is_some ((flat past).pages (page_at enclave number))) (sight_at k.frames past f.0)
row_at k past actor (Extend f chunk) =
    extend_row chunk (is_closed (flat past) (enclave_in (content past f.0))) (sight_at k.frames past f.0)
row_at k past actor (Init enclave expect) = init_row (enclave_sight (flat past) enclave) (secs_sight_at k.frames past enclave)
row_at k past actor (Enter enclave tcs tf sf) =
    enter_row enclave tcs (enter_sight_at k.frames past (stay_of past actor) (seat_of enclave tcs tf.0 sf.0))
row_at k past actor (Resume enclave tcs tf sf) =
    resume_row enclave tcs (enter_sight_at k.frames past (stay_of past actor) (seat_of enclave tcs tf.0 sf.0))
row_at k past actor Exit = inside_row (is_some (stay_of past actor))
row_at k past actor (Aex cause) = inside_row (is_some (stay_of past actor))
row_at k past actor (Fill number f) = fill_row number (enclave_of_stay (stay_of past actor)) (sight_at k.frames past f.0)
row_at k past actor (Load off) = load_row off (is_some (stay_of past actor)) (translation_by past actor (off / 4096))
row_at k past actor (Store off value) = store_row off (is_some (stay_of past actor)) (translation_by past actor (off / 4096))
row_at k past actor (Xadd off value) = xadd_row off (is_some (stay_of past actor)) (translation_by past actor (off / 4096))
row_at k past actor (Set value) = inside_row (is_some (stay_of past actor))
row_at k past actor (Plus value) = inside_row (is_some (stay_of past actor))
row_at k past actor (Pf op off) = pf_row op off (is_some (stay_of past actor)) (added_at past (stay_of past actor) (off / 4096))
row_at k past actor (OutLoad enclave off) = outside_row (is_some (stay_of past actor))
row_at k past actor (OutStore enclave off value) = outside_row (is_some (stay_of past actor))
row_at k past actor (Block f) = block_row (sight_at k.frames past f.0)
row_at k past actor (Track enclave) = track_row (track_sight_at k.frames k.first_epoch past enclave)
row_at k past actor (EwbStart f slot) =
    ewbstart_row (sight_at k.frames past f.0) (use_sight_at k.frames past f.0 slot) (slot_sight_at k.frames past slot)
    (drain_sight_at k.first_epoch past f.0) (next_version k.first_version past == 2 ^ 64)
row_at k past actor (Ewb f) = allowed
row_at k past actor (EldStart f page slot) =
    eldstart_row (sight_at k.frames past f.0) (load_sight_at k.frames past page) (slot_sight_at k.frames past slot)
row_at k past actor (Eld f) = allowed
