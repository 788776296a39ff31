-- The machine's state as functions of a frame, an enclave, a page and a processor, what an instruction sees of it, and
-- what each instruction does to it.
use Rattle.std.specs.Prelude.{ℕ, ◌==◌, ◌+◌, ◌-◌, ◌/◌, ◌^◌, ◌&&◌, ◌||◌, Bool, true, false, if◌then◌else◌, List, []}
use Rattle.std.specs.Prelude.{Option, Some, None, nat_le, nat_lt, is_some, slice_index, slice_set}
use Rattle.sgx_types.specs.declared.names.Actor.{Actor}
use Rattle.sgx_types.specs.declared.names.Actor.TheVariants as actors
use Rattle.sgx_rules.specs.declared.entries.Action.{Action}
use Rattle.sgx_rules.specs.declared.entries.Action.TheVariants.{Epa, Create, Add, Extend, Init, Enter, Resume, Exit, Aex, Fill}
use Rattle.sgx_rules.specs.declared.entries.Action.TheVariants.{Load, Store}
use Rattle.sgx_rules.specs.declared.entries.Action.TheVariants.{Xadd, Set, Plus, Pf, OutLoad, OutStore, Block, Track, EwbStart}
use Rattle.sgx_rules.specs.declared.entries.Action.TheVariants.{EldStart}
use Rattle.sgx_types.specs.declared.lawful.PageInit.{PageInit}
use Rattle.sgx_types.specs.declared.names.Kind.{Kind}
use Rattle.sgx_types.specs.declared.names.Page.{Page}
use Rattle.sgx_types.specs.declared.names.Perm.{Perm}
use Rattle.sgx_types.specs.declared.names.SlotAt.{SlotAt}
use Rattle.sgx_types.specs.Counts.{any_below, count_below}
use Rattle.sgx_types.specs.Making.{Making}
use Rattle.sgx_rules.specs.Epochs.{epoch_of}
use Rattle.sgx_types.specs.Pages.{is_own_page, is_secs_page, is_va_page, same_page, page_at}
use Rattle.sgx_rules.specs.Frames.{Content, Free, IsVa, SecsOf, Holds, IsLoading, enclave_in}
use Rattle.sgx_rules.specs.Frames.{secs_frame}
use Rattle.sgx_rules.specs.Processors.{Seat}
use Rattle.sgx_types.specs.Cases.{allowed}
use Rattle.sgx_rules.specs.Table.{DrainSight, EnterSight, FrameSight, LoadSight, Row, SecsSight, SlotSight, TrackSight}
use Rattle.sgx_rules.specs.Table.{UseSight}
use Rattle.sgx_rules.specs.Table.{is_made, is_own, is_ready, is_va, epa_row, create_row}
use Rattle.sgx_rules.specs.Table.{add_row, extend_row, init_row, enter_row, resume_row, inside_row, fill_row, load_row}
use Rattle.sgx_rules.specs.Table.{store_row}
use Rattle.sgx_rules.specs.Table.{xadd_row, pf_row, outside_row, block_row, track_row}
use Rattle.sgx_rules.specs.Table.{ewbstart_row}
use Rattle.sgx_rules.specs.Table.{eldstart_row}
use Rattle.epcm_entry.specs.inner.Words.{words_of, zero_words}
use Rattle.cached_translations.specs.declared.cache.Translation.{Translation}
use Rattle.cached_translations.specs.inner.Translations.{translation_of, with_translation}
use Rattle.measure_log.specs.declared.measure.Measure.{Measure}
use Rattle.sgx_rules.specs.Flat.{FlatEnclave, enclave_sight_of, as_initialised, settled, tcs_fields, with_cssa, first_words, word_index}
use Rattle.sgx_rules.specs.Flat.{sum_of}
use Rattle.sgx_rules.specs.Sights.{children_under, seat_of, secs_seen}
use Rattle.sgx_types.specs.inner.Places.{same_place}
use Rattle.sgx_rules.specs.Starts.{slot_in}
use Rattle.sgx_rules.specs.inner.Starts.{BareStart}
use Rattle.sgx_types.specs.declared.names.VaSlot.{VaSlot}
use Rattle.sgx_types.specs.declared.names.TheConstants.{LAST_EPOCH}

pub record State : Type 0 where
  pub frames : ℕ
  pub content : ℕ → Content
  -- the epoch of the block of the page in a frame
  pub blocked : ℕ → Option ℕ
  pub is_sealing : ℕ → Bool
  pub words : ℕ → List ℕ
  pub enclaves : ℕ → Option FlatEnclave
  pub added : Page → Option (Kind × Perm)
  -- how many version array pages were made
  pub vas_made : ℕ
  pub is_busy : Page → Bool
  pub measure : ℕ → Option Measure
  pub inside : ℕ → Option Seat
  pub acc : ℕ → ℕ
  pub cache : ℕ → List Translation
  -- the epoch that a processor inside noted when it entered, and 0 of one outside
  pub noted : ℕ → ℕ
  pub epoch : ℕ → ℕ
  -- of the version array page in a frame the versions in its slots, 0 where there is no such page, and which slots open starts name
  pub version_in : SlotAt → ℕ
  pub is_slot_named : SlotAt → Bool
  pub next_version : ℕ
  -- the open start of a frame
  pub start : ℕ → Option BareStart
  pub cpus : ℕ
  pub key : List ℕ
  pub first_epoch : ℕ
  pub first_version : ℕ

-- what the machine was made with
abbrev pub making_of : State → Making
making_of s = record { frames = s.frames; cpus = s.cpus; key = s.key; first_epoch = s.first_epoch; first_version = s.first_version }

-- a machine that has done nothing yet
abbrev pub fresh : ℕ → ℕ → List ℕ → ℕ → ℕ → State
fresh frames cpus key first_epoch first_version = record {
  frames = frames;
  content = λ n. Free;
  blocked = λ n. None;
  is_sealing = λ n. false;
  words = λ n. zero_words;
  enclaves = λ e. None;
  added = λ g. None;
  vas_made = 0;
  is_busy = λ g. false;
  measure = λ e. None;
  inside = λ p. None;
  acc = λ p. 0;
  cache = λ p. [];
  noted = λ p. 0;
  epoch = λ e. first_epoch;
  version_in = λ slot. 0;
  is_slot_named = λ slot. false;
  next_version = first_version;
  start = λ n. None;
  cpus = cpus;
  key = key;
  first_epoch = first_epoch;
  first_version = first_version;
}

-- ---- what an instruction sees

abbrev pub sight : State → ℕ → FrameSight
sight s n = record { is_beyond = nat_le s.frames n; content = s.content n; is_sealing = s.is_sealing n; is_blocked = is_some (s.blocked n) }

abbrev pub seat_enclave : Option Seat → Option ℕ
seat_enclave None = None
seat_enclave (Some seat) = Some seat.enclave

abbrev pub perm_of_held : Option Translation → Option Perm
perm_of_held None = None
perm_of_held (Some t) = Some t.perm

-- the permissions of a translation that a processor inside holds
abbrev pub translation : State → ℕ → Option Seat → ℕ → Option Perm
translation s p None number = None
translation s p (Some seat) number = perm_of_held (translation_of (s.cache p) number)

-- what `enter` and `resume` see
abbrev pub enter_sight : State → ℕ → Seat → EnterSight
enter_sight s p seat = record {
  is_inside = is_some (s.inside p);
  enclave = enclave_sight_of (s.enclaves seat.enclave);
  tcs = sight s seat.tcs_frame;
  tcs_busy = s.is_busy (page_at seat.enclave seat.tcs);
  fields = tcs_fields (s.words seat.tcs_frame);
  ssa = sight s seat.ssa_frame;
}

-- what the page of this number in the enclave that a processor is inside was added as
abbrev pub added_inside : State → Option Seat → ℕ → Option (Kind × Perm)
added_inside s None number = None
added_inside s (Some seat) number = s.added (page_at seat.enclave number)

-- the epoch of the enclave whose page a frame holds
abbrev pub epoch_in : State → ℕ → ℕ
epoch_in s n = epoch_of s.epoch (enclave_in (s.content n))

-- inside the enclave, having noted an epoch that passes
abbrev pub is_noting : ℕ → (ℕ → Bool) → Option Seat → ℕ → Bool
is_noting enclave test None m = false
is_noting enclave test (Some seat) m = (seat.enclave == enclave) && test m

-- how many processors are inside an enclave with such an epoch
abbrev pub number_noting : State → ℕ → (ℕ → Bool) → ℕ
number_noting s enclave test = count_below (λ p. is_noting enclave test (s.inside p) (s.noted p)) 16

-- an enclave's SECS
abbrev pub secs_sight : State → ℕ → SecsSight
secs_sight s enclave = secs_seen s.is_sealing (secs_frame s.frames s.content enclave)

-- what `track` sees
abbrev pub track_sight : State → ℕ → TrackSight
track_sight s enclave = record {
  enclave = enclave_sight_of (s.enclaves enclave);
  secs = secs_sight s enclave;
  older = number_noting s enclave (λ m. nat_lt m (s.epoch enclave));
  is_spent = s.epoch enclave == LAST_EPOCH;
}

-- the slot of this index in a frame
abbrev pub place_at : ℕ → ℕ → SlotAt
place_at n index = record { frame = record { 0 = n }; index = index }

-- a slot of the version array page in a frame is busy where an open start names it, and while the page is on its way out
abbrev pub is_busy_at : State → SlotAt → Bool
is_busy_at s slot = is_va (s.content slot.frame.0) && (s.is_slot_named slot || s.is_sealing slot.frame.0)

abbrev pub version_at : State → SlotAt → ℕ
version_at s slot = if is_va (s.content slot.frame.0) then s.version_in slot else 0

abbrev pub slot_sight : State → SlotAt → SlotSight
slot_sight s slot = record {
  frame = sight s slot.frame.0;
  is_beyond = nat_lt 511 slot.index;
  is_busy = is_busy_at s slot;
  version = version_at s slot;
}

-- an open start names a slot of what a frame holds
abbrev pub is_in_use : State → ℕ → Bool
is_in_use s n = is_va (s.content n) && any_below (λ index. s.is_slot_named (place_at n index)) 512

-- the uses of what a frame holds
abbrev pub use_sight : State → ℕ → SlotAt → UseSight
use_sight s n slot = record {
  is_in_use = is_in_use s n;
  is_its_own = n == slot.frame.0;
  children = children_under s.frames s.content (s.content n);
}

-- whether there is such a page
abbrev pub is_known : State → Page → Bool
is_known s g =
    if is_va_page g then nat_lt g.number s.vas_made
    else if is_secs_page g then is_made (enclave_sight_of (s.enclaves g.enclave))
    else is_made (enclave_sight_of (s.enclaves g.enclave)) && is_some (s.added g)

-- a page that is to be loaded
abbrev pub load_sight : State → Page → LoadSight
load_sight s g = record { is_known = is_known s g; secs = if is_own_page g then secs_sight s g.enclave else settled }

abbrev pub number_up_to : State → Option ℕ → Option ℕ → ℕ
number_up_to s (Some enclave) (Some b) = number_noting s enclave (λ m. nat_le m b)
number_up_to s _ _ = 0

abbrev pub has_passed : State → Option ℕ → Option ℕ → Bool
has_passed s (Some enclave) (Some b) = nat_lt b (s.epoch enclave) && (number_noting s enclave (λ m. nat_le m b) == 0)
has_passed s _ _ = false

-- the tracking of the page in a frame, seen from its block
abbrev pub drain_sight : State → ℕ → DrainSight
drain_sight s n = record {
  epoch = epoch_in s n;
  kept_back = number_up_to s (enclave_in (s.content n)) (s.blocked n);
  is_drained = has_passed s (enclave_in (s.content n)) (s.blocked n);
}

-- the last version, 2 ^ 64 - 1, was drawn
abbrev pub is_version_spent : State → Bool
is_version_spent s = s.next_version == 2 ^ 64

abbrev pub cpu_row_of : State → ℕ → Action → Row
cpu_row_of s p (Enter enclave tcs tf sf) = enter_row enclave tcs (enter_sight s p (seat_of enclave tcs tf.0 sf.0))
cpu_row_of s p (Resume enclave tcs tf sf) = resume_row enclave tcs (enter_sight s p (seat_of enclave tcs tf.0 sf.0))
cpu_row_of s p Exit = inside_row (is_some (s.inside p))
cpu_row_of s p (Aex cause) = inside_row (is_some (s.inside p))
cpu_row_of s p (Fill number f) = fill_row number (seat_enclave (s.inside p)) (sight s f.0)
cpu_row_of s p (Load off) = load_row off (is_some (s.inside p)) (translation s p (s.inside p) (off / 4096))
cpu_row_of s p (Store off value) = store_row off (is_some (s.inside p)) (translation s p (s.inside p) (off / 4096))
cpu_row_of s p (Xadd off value) = xadd_row off (is_some (s.inside p)) (translation s p (s.inside p) (off / 4096))
cpu_row_of s p (Set value) = inside_row (is_some (s.inside p))
cpu_row_of s p (Plus value) = inside_row (is_some (s.inside p))
cpu_row_of s p (Pf op off) = pf_row op off (is_some (s.inside p)) (added_inside s (s.inside p) (off / 4096))
cpu_row_of s p (OutLoad enclave off) = outside_row (is_some (s.inside p))
cpu_row_of s p (OutStore enclave off value) = outside_row (is_some (s.inside p))
cpu_row_of s p _ = allowed

-- the state as it is with nobody inside an enclave
abbrev pub from_outside : State → State
from_outside s = record s { inside = λ p. None }

-- the row of a processor's instruction for who is inside no enclave
abbrev pub row_outside : State → Action → Row
row_outside s action = cpu_row_of (from_outside s) 0 action

-- whether the enclave of the page in a frame is initialised
abbrev pub is_closed : State → Option ℕ → Bool
is_closed s None = false
is_closed s (Some enclave) = is_ready (enclave_sight_of (s.enclaves enclave))

-- the row of an instruction
abbrev pub row_of : State → Actor → Action → Row
row_of s actor (Epa f) = epa_row (sight s f.0)
row_of s actor (Create enclave f base size) = create_row enclave base size (is_some (s.enclaves enclave)) (sight s f.0)
row_of s actor (Add enclave number f kind perm init) =
    add_row number kind perm init (enclave_sight_of (s.enclaves enclave)) (secs_sight s enclave)
    (is_some (s.added (page_at enclave number)))
    (sight s f.0)
row_of s actor (Extend f chunk) = extend_row chunk (is_closed s (enclave_in (s.content f.0))) (sight s f.0)
row_of s actor (Init enclave expect) = init_row (enclave_sight_of (s.enclaves enclave)) (secs_sight s enclave)
row_of s actor (Block f) = block_row (sight s f.0)
row_of s actor (Track enclave) = track_row (track_sight s enclave)
row_of s actor (EwbStart f slot) =
    ewbstart_row (sight s f.0) (use_sight s f.0 slot) (slot_sight s slot) (drain_sight s f.0) (is_version_spent s)
row_of s actor (EldStart f page slot) = eldstart_row (sight s f.0) (load_sight s page) (slot_sight s slot)
row_of s (actors.Cpu p) action = cpu_row_of s p.0 action
row_of s actor action = allowed

-- ---- what an instruction does

abbrev pub with_content : State → ℕ → Content → State
with_content s f c = record s {
  content = λ n. if f == n then c else s.content n;
  blocked = λ n. if f == n then None else s.blocked n;
}

-- the slots of a new version array page are empty
abbrev pub after_epa : State → ℕ → State
after_epa s f = record (with_content s f (IsVa s.vas_made)) {
  vas_made = s.vas_made + 1;
  version_in = λ slot. if f == slot.frame.0 then 0 else s.version_in slot;
  is_slot_named = λ slot. if f == slot.frame.0 then false else s.is_slot_named slot;
}

abbrev pub after_create : State → ℕ → ℕ → ℕ → ℕ → Measure → State
after_create s enclave f base size begun = record (with_content s f (SecsOf enclave)) {
  enclaves = λ e. if e == enclave then Some (record { base = base; size = size; is_init = false }) else s.enclaves e;
  measure = λ e. if e == enclave then Some begun else s.measure e;
}

abbrev pub after_add : State → Page → ℕ → Kind → Perm → PageInit → Measure → State
after_add s g f kind perm init longer = record (with_content s f (Holds g kind perm)) {
  words = λ n. if f == n then first_words init else s.words n;
  added = λ q. if same_page q g then Some (kind, perm) else s.added q;
  measure = λ e. if e == g.enclave then Some longer else s.measure e;
}

abbrev pub after_extend : State → ℕ → Measure → State
after_extend s enclave longer = record s { measure = λ e. if e == enclave then Some longer else s.measure e }

abbrev pub after_init : State → ℕ → State
after_init s enclave = record s { enclaves = λ e. if e == enclave then as_initialised (s.enclaves e) else s.enclaves e }

-- the words of one frame are changed
abbrev pub rewritten : (ℕ → List ℕ) → ℕ → (List ℕ → List ℕ) → ℕ → List ℕ
rewritten words f change n = if f == n then change (words n) else words n

-- how many state save frames of the TCS page in a frame are in use
abbrev pub cssa_in : State → ℕ → ℕ
cssa_in s n = (tcs_fields (s.words n)).cssa

-- a processor comes inside with this accumulator
abbrev pub with_inside : State → ℕ → Seat → ℕ → State
with_inside s p seat acc = record s {
  inside = λ q. if p == q then Some seat else s.inside q;
  cache = λ q. if p == q then [] else s.cache q;
  acc = λ q. if p == q then acc else s.acc q;
  noted = λ q. if p == q then s.epoch seat.enclave else s.noted q;
  is_busy = λ q. if same_page q (page_at seat.enclave seat.tcs) then true else s.is_busy q;
}

abbrev pub after_enter : State → ℕ → Seat → State
after_enter s p seat = with_inside s p seat (cssa_in s seat.tcs_frame)

-- the first word in a frame, which is what an asynchronous exit saved
abbrev pub saved_word : State → ℕ → ℕ
saved_word s n = slice_index (s.words n) 0

-- .. with what was saved, and one state save frame fewer is in use
abbrev pub after_resume : State → ℕ → Seat → State
after_resume s p seat = record (with_inside s p seat (saved_word s seat.ssa_frame)) {
  words = rewritten s.words seat.tcs_frame (λ words. with_cssa words (cssa_in s seat.tcs_frame - 1));
}

-- seated by this TCS page
abbrev pub is_seated_by : Option Seat → Page → Bool
is_seated_by None g = false
is_seated_by (Some seat) g = same_page g (page_at seat.enclave seat.tcs)

abbrev pub after_exit : State → ℕ → State
after_exit s p = record s {
  inside = λ q. if p == q then None else s.inside q;
  cache = λ q. if p == q then [] else s.cache q;
  noted = λ q. if p == q then 0 else s.noted q;
  is_busy = λ g. if is_seated_by (s.inside p) g then false else s.is_busy g;
}

-- the accumulator goes into the first word of the state save frame, and one more is in use
abbrev pub with_saved : State → ℕ → Option Seat → State
with_saved s acc None = s
with_saved s acc (Some seat) = record s {
  words = rewritten (rewritten s.words seat.ssa_frame (λ words. slice_set words 0 acc)) seat.tcs_frame
      (λ words. with_cssa words (cssa_in s seat.tcs_frame + 1));
}

abbrev pub after_aex : State → ℕ → State
after_aex s p = after_exit (with_saved s (s.acc p) (s.inside p)) p

abbrev pub with_acc : State → ℕ → ℕ → State
with_acc s p acc = record s { acc = λ q. if p == q then acc else s.acc q }

abbrev pub after_fill : State → ℕ → Translation → State
after_fill s p t = record s { cache = λ q. if p == q then with_translation (s.cache q) t else s.cache q }

-- the frame of a translation, the first where none is held
abbrev pub frame_in : Option Translation → ℕ
frame_in None = 0
frame_in (Some t) = t.frame.0

-- the word at an offset, by the translation of its page
abbrev pub word_at : State → ℕ → ℕ → ℕ
word_at s p off = slice_index (s.words (frame_in (translation_of (s.cache p) (off / 4096)))) (word_index off)

-- the word at an offset becomes this one, by the translation of its page
abbrev pub after_store : State → ℕ → ℕ → ℕ → State
after_store s p off value = record s {
  words = rewritten s.words (frame_in (translation_of (s.cache p) (off / 4096))) (λ words. slice_set words (word_index off) value);
}

abbrev pub after_xadd : State → ℕ → ℕ → ℕ → State
after_xadd s p off value = after_store s p off (sum_of (word_at s p off) value)

-- ---- block, track, write-out and reload

-- the page in a frame is blocked at its enclave's epoch
abbrev pub after_block : State → ℕ → State
after_block s f = record s { blocked = λ n. if f == n then Some (epoch_in s n) else s.blocked n }

abbrev pub after_track : State → ℕ → State
after_track s enclave = record s { epoch = λ e. if enclave == e then s.epoch e + 1 else s.epoch e }

-- the slot that is found in a frame; where the frame holds no version array page, the first one of the first
abbrev pub slot_of_found : Option VaSlot → VaSlot
slot_of_found None = record { va = 0; index = 0 }
slot_of_found (Some slot) = slot

-- a start with the slot that it found, under this version
abbrev pub started : State → SlotAt → ℕ → Option Page → BareStart
started s at version loads =
    record { at = at; slot = slot_of_found (slot_in (s.content at.frame.0) at.index); version = version; loads = loads }

-- a start of a frame names a slot
abbrev pub with_start : State → ℕ → BareStart → State
with_start s f start = record s {
  start = λ n. if f == n then Some start else s.start n;
  is_slot_named = λ slot. if same_place start.at slot then true else s.is_slot_named slot;
}

-- the page in a frame is on its way out, and a version is drawn
abbrev pub after_ewbstart : State → ℕ → SlotAt → State
after_ewbstart s f slot = record (with_start s f (started s slot s.next_version None)) {
  is_sealing = λ n. if f == n then true else s.is_sealing n;
  next_version = s.next_version + 1;
}

-- a frame waits for the page whose version is in the slot
abbrev pub after_eldstart : State → ℕ → Page → SlotAt → State
after_eldstart s f page slot = record (with_start s f (started s slot (version_at s slot) (Some page))) {
  content = λ n. if f == n then IsLoading page else s.content n;
  blocked = λ n. if f == n then None else s.blocked n;
}

-- the start of a frame has ended, and names its slot no more
abbrev pub without_start : State → ℕ → BareStart → State
without_start s f start = record s {
  start = λ n. if f == n then None else s.start n;
  is_slot_named = λ slot. if same_place start.at slot then false else s.is_slot_named slot;
}

abbrev pub with_version : State → SlotAt → ℕ → State
with_version s at version = record s { version_in = λ slot. if same_place at slot then version else s.version_in slot }

-- a frame is free, and its words are 0
abbrev pub with_free : State → ℕ → State
with_free s f = record s {
  content = λ n. if f == n then Free else s.content n;
  blocked = λ n. if f == n then None else s.blocked n;
  is_sealing = λ n. if f == n then false else s.is_sealing n;
  words = λ n. if f == n then zero_words else s.words n;
}

-- the slots of the version array page in a frame go with it
abbrev pub with_slots_gone : State → ℕ → Bool → State
with_slots_gone s f is_array = record s { version_in = λ slot. if is_array && (slot.frame.0 == f) then 0 else s.version_in slot }

-- what a frame held is out, and its version in the slot
abbrev pub after_ewb : State → ℕ → BareStart → State
after_ewb s f start =
    with_version (with_slots_gone (with_free (without_start s f start) f) f (is_va (s.content f))) start.at start.version

-- a page is back in a frame, with the words that its bytes make, or a version array page with its slots, and no version is in the slot
-- of its start. Nothing of a SECS is kept in its frame
abbrev pub after_eld : State → ℕ → BareStart → Content → List ℕ → State
after_eld s f start back plain = record (with_version (without_start s f start) start.at 0) {
  content = λ n. if f == n then back else s.content n;
  blocked = λ n. if f == n then None else s.blocked n;
  words = λ n. if is_own back && (f == n) then words_of plain else s.words n;
  version_in = λ slot.
      if is_va back && (slot.frame.0 == f) then slice_index (words_of plain) slot.index
      else if same_place start.at slot then 0 else s.version_in slot;
}

-- a load is refused: its frame is free, and its slot keeps the version
abbrev pub after_failed_eld : State → ℕ → BareStart → State
after_failed_eld s f start = with_free (without_start s f start) f
