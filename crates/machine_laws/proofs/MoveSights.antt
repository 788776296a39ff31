-- What the rows of the instructions that move pages see in the state is what they see by the entries.
use Rattle.std.proofs.Common.{◌≡◌, ℕ, ◌<◌, ◌==◌, ◌^◌, ◌&&◌, ◌||◌, Bool, true, false, cond, leb, refl, sym, ap, subst, ◌∙◌, arith}
use Rattle.std.proofs.Common.{Option, Some, None, is_some, List, nat_lt}
use Rattle.std.proofs.lemmas.Bool.{eq-eqb, eqb-true, false≢true, ltb-false}
use Rattle.sgx_rules.specs.declared.entries.Entry.{Entry}
use Rattle.sgx_types.specs.declared.names.Actor.{Actor}
use Rattle.sgx_rules.specs.declared.entries.Action.TheVariants.{Block, Track, EwbStart, EldStart}
use Rattle.sgx_types.specs.declared.names.Frame.{Frame}
use Rattle.sgx_types.specs.declared.names.SlotAt.{SlotAt}
use Rattle.sgx_rules.specs.declared.refusals.Refusal.TheVariants as why
use Rattle.sgx_rules.specs.inner.ByEpochs.{up_to_block}
use Rattle.sgx_rules.specs.inner.Enclaves.{EnclavesAreFlat}
use Rattle.sgx_rules.specs.Epochs.{epoch, epoch_in, epoch_of}
use Rattle.sgx_rules.specs.inner.Epochs.{block_epoch}
use Rattle.sgx_rules.specs.Eviction.{kept_back}
use Rattle.sgx_rules.specs.Flat.{enclave_sight_of, flat, settled}
use Rattle.sgx_types.specs.declared.names.TheConstants.{LAST_EPOCH}
use Rattle.sgx_types.specs.declared.names.Page.{Page}
use Rattle.sgx_types.specs.Counts.{any_below}
use Rattle.sgx_types.specs.Pages.{is_own_page, is_secs_page, is_va_page}
use Rattle.sgx_rules.specs.Frames.{Content, Free, IsVa, SecsOf, Holds, IsLoading, content, enclave_in, secs_frame, vas_made}
use Rattle.sgx_rules.specs.Slots.{is_busy_of, is_of_va, is_va_in_use, next_version, open_slot, slot_of, version_of}
use Rattle.sgx_rules.specs.Starts.{Start, open_start, slot_in}
use Rattle.sgx_rules.specs.inner.Starts.{BareStart, bare_start, without_place}
use Rattle.sgx_rules.specs.Table.{DrainSight, FrameSight, LoadSight, SlotSight, UseSight, block_row, eldstart_row, ewbstart_row}
use Rattle.sgx_types.specs.Cases.{first_of_row}
use Rattle.sgx_rules.specs.Table.{is_made, is_va}
use Rattle.sgx_rules.specs.Table.{track_row}
use Rattle.sgx_rules.proofs.Keystone.{epochs_tell}
use Rattle.sgx_types.proofs.CountLaws.{any_below-found, any_below-some}
use Rattle.sgx_rules.specs.Sights.{children_under, drain_sight_at, is_in_use, is_known, load_sight_at, row_at, secs_seen, secs_sight_at}
use Rattle.sgx_rules.specs.Sights.{sight_at, slot_sight_at, track_sight_at, use_sight_at}
use Rattle.machine_laws.specs.inner.State.{making_of}
use Rattle.machine_laws.specs.inner.State.{State, drain_sight, is_version_spent, load_sight}
use Rattle.machine_laws.specs.inner.State.{number_up_to, place_at, row_of, secs_sight, sight}
use Rattle.machine_laws.specs.inner.State.{slot_sight, track_sight, use_sight}
use Rattle.machine_laws.specs.inner.State as state
use Rattle.machine_laws.proofs.BuildLaws.{is_some-added_as}
use Rattle.machine_laws.proofs.ShapeLaws.{drained_by, noting_agrees, older_agrees}
use Rattle.machine_laws.specs.inner.Columns.{HasAllVersions, HasBusy, HasColumns}
use Rattle.machine_laws.specs.inner.Guarded.{IsGuarded, IsOpen}
use Rattle.machine_laws.proofs.ColumnLaws.{blocked_is, content_is, enclave_seen, epoch_is, next_version_is, page_seen, sight_is}
use Rattle.machine_laws.proofs.ColumnLaws.{start_is, vas_is}
use Rattle.machine_laws.proofs.SlotLaws.{arrays_as, busy_is, found_as, started_as}

-- ---- what the rows see

-- what rows see of an enclave's SECS
pub secs_sees : (s : State) (past : List Entry) → HasColumns s past → (enclave : ℕ)
    → secs_sight s enclave ≡ secs_sight_at s.frames past enclave
secs_sees s past h enclave i = secs_seen (h.frames i).is_sealing (secs_frame s.frames (h.frames i).content enclave)

-- what the row of `track` sees
track_sees : (s : State) (past : List Entry) → HasColumns s past → EnclavesAreFlat past → (enclave : ℕ)
    → track_sight s enclave ≡ track_sight_at s.frames s.first_epoch past enclave
track_sees s past h seen enclave i = record {
  enclave = enclave_sight_of (enclave_seen h seen enclave i);
  secs = secs_sees s past h enclave i;
  older = older_agrees s past h enclave i;
  is_spent = epoch_is h enclave i == LAST_EPOCH;
}

-- what a row sees of a slot of a version array page
pub slot_sees : (s : State) (past : List Entry) → HasColumns s past → HasAllVersions s past → HasBusy s past → (slot : SlotAt)
    → slot.index < 512 → slot_sight s slot ≡ slot_sight_at s.frames past slot
slot_sees s past h versions busy slot low i = record {
  frame = sight_is h slot.frame.0 i;
  is_beyond = nat_lt 511 slot.index;
  is_busy = by_busy (s.content slot.frame.0) refl (content past slot.frame.0) (sym (content_is h slot.frame.0)) i;
  version = by_version (s.content slot.frame.0) refl (content past slot.frame.0) (sym (content_is h slot.frame.0)) i;
}
  where
    by_busy : (c : Content) → s.content slot.frame.0 ≡ c → (d : Content) → d ≡ s.content slot.frame.0
        → (is_va c && (s.is_slot_named slot || s.is_sealing slot.frame.0)) ≡ is_busy_of s.frames past (slot_in d slot.index)
    by_busy c held d same = rw (same, held) (by_kind c held)
      where
        by_kind : (c : Content) → s.content slot.frame.0 ≡ c
            → (is_va c && (s.is_slot_named slot || s.is_sealing slot.frame.0)) ≡ is_busy_of s.frames past (slot_in c slot.index)
        by_kind (IsVa number) held = ap (λ c. is_va c && (s.is_slot_named slot || s.is_sealing slot.frame.0)) (sym held)
            ∙ busy slot.frame.0 number slot.index held low
        by_kind Free held = refl
        by_kind (SecsOf enclave) held = refl
        by_kind (Holds page kind perm) held = refl
        by_kind (IsLoading page) held = refl

    by_version : (c : Content) → s.content slot.frame.0 ≡ c → (d : Content) → d ≡ s.content slot.frame.0
        → cond (is_va c) (s.version_in slot) 0 ≡ version_of past (slot_in d slot.index)
    by_version c held d same = rw (same, held) (by_kind c held)
      where
        by_kind : (c : Content) → s.content slot.frame.0 ≡ c → cond (is_va c) (s.version_in slot) 0 ≡ version_of past (slot_in c slot.index)
        by_kind (IsVa number) held = versions slot.frame.0 number held slot.index low
        by_kind Free held = refl
        by_kind (SecsOf enclave) held = refl
        by_kind (Holds page kind perm) held = refl
        by_kind (IsLoading page) held = refl

-- whether open starts name slots of what a frame holds
in_use_is : (s : State) (past : List Entry) → HasColumns s past → IsGuarded s → (n : ℕ)
    → state.is_in_use s n ≡ is_in_use s.frames past (content past n)
in_use_is s past h guarded n = rw (content_is h n) (by_content (content past n) (content_is h n))
  where
    by_content : (c : Content) → s.content n ≡ c
        → (is_va c && any_below (λ index. s.is_slot_named (place_at n index)) 512) ≡ is_in_use s.frames past c
    by_content Free held = refl
    by_content (SecsOf enclave) held = refl
    by_content (Holds page kind perm) held = refl
    by_content (IsLoading page) held = refl
    by_content (IsVa number) held = by_tests (any_below (λ index. s.is_slot_named (place_at n index)) 512) refl
        (is_va_in_use s.frames past number) refl
      where
        there : content past n ≡ IsVa number
        there = sym (content_is h n) ∙ held

        to_entries : any_below (λ index. s.is_slot_named (place_at n index)) 512 ≡ true → is_va_in_use s.frames past number ≡ true
        to_entries is =
            let found = any_below-found (λ index. s.is_slot_named (place_at n index)) 512 is in
            let named = guarded.apart.named (place_at n found.0) found.2 in
            let x = started_as s past h named.frame named.start named.is_open in
            let place = found_as s past h guarded named.frame x.start x.opened in
            let at : x.start.at ≡ place_at n found.0 = ap (λ (y : BareStart). y.at) x.same ∙ named.names in
            let here : IsVa x.start.slot.va ≡ IsVa number = sym place.held ∙ ap (λ (y : SlotAt). content past y.frame.0) at ∙ there in
            let va : x.start.slot.va ≡ number = cc here in
            any_below-some (λ m. is_of_va (open_slot past m) number) s.frames named.frame
            (guarded.apart.below named.frame named.start named.is_open)
            (ap (λ o. is_of_va (slot_of o) number) x.opened ∙ eq-eqb x.start.slot.va number va)

        to_state : is_va_in_use s.frames past number ≡ true → any_below (λ index. s.is_slot_named (place_at n index)) 512 ≡ true
        to_state is =
            let found = any_below-found (λ m. is_of_va (open_slot past m) number) s.frames is in
            by_start found.0 (open_start past found.0) refl found.2
          where
            by_start : (m : ℕ) (o : Option Start) → open_start past m ≡ o → is_of_va (slot_of o) number ≡ true
                → any_below (λ index. s.is_slot_named (place_at n index)) 512 ≡ true
            by_start m None opened k = cc k
            by_start m (Some x) opened k =
                let place = found_as s past h guarded m x opened in
                let frame : x.at.frame.0 ≡ n = (arrays_as s past h guarded).once x.at.frame.0 n number
                (place.held ∙ ap IsVa (eqb-true x.slot.va number k)) there in
                let bare : s.start m ≡ Some (without_place x) = start_is h m ∙ ap bare_start opened in
                let is_open : IsOpen s (without_place x) = rw bare at (guarded.opened m) in
                any_below-some (λ index. s.is_slot_named (place_at n index)) 512 x.at.index is_open.within
                (subst (λ k. s.is_slot_named (place_at k x.at.index) ≡ true) frame (guarded.apart.marked m (without_place x) bare))

        by_tests : (a : Bool) → any_below (λ index. s.is_slot_named (place_at n index)) 512 ≡ a → (b : Bool)
            → is_va_in_use s.frames past number ≡ b → a ≡ b
        by_tests true e true d = refl
        by_tests false e false d = refl
        by_tests true e false d = absurd (false≢true (sym d ∙ to_entries e))
        by_tests false e true d = absurd (false≢true (sym e ∙ to_state d))

-- what the row of EWB's start sees of what a frame holds
uses_see : (s : State) (past : List Entry) → HasColumns s past → IsGuarded s → (n : ℕ) (slot : SlotAt)
    → use_sight s n slot ≡ use_sight_at s.frames past n slot
uses_see s past h guarded n slot i = record {
  is_in_use = in_use_is s past h guarded n i;
  is_its_own = n == slot.frame.0;
  children = children_under s.frames (h.frames i).content ((h.frames i).content n);
}

-- what the row of ELDU's start sees of its page
load_sees : (s : State) (past : List Entry) → HasColumns s past → EnclavesAreFlat past → (g : Page)
    → load_sight s g ≡ load_sight_at s.frames past g
load_sees s past h seen g i = record {
  is_known = known i;
  secs = cond (is_own_page g) (secs_sees s past h g.enclave i) settled;
}
  where
    known : state.is_known s g ≡ is_known (flat past) (vas_made past) g
    known j = cond (is_va_page g) (nat_lt g.number (vas_is h j))
        (cond (is_secs_page g) (is_made (enclave_sight_of (enclave_seen h seen g.enclave j)))
        (is_made (enclave_sight_of (enclave_seen h seen g.enclave j))
        && (ap is_some (page_seen h seen g) ∙ is_some-added_as ((flat past).pages g)) j))

-- how many processors keep a page back
kept_back_by : (s : State) (past : List Entry) → HasColumns s past → (n : ℕ)
    → number_up_to s (enclave_in (s.content n)) (s.blocked n) ≡ kept_back past n
kept_back_by s past h n =
    rw (content_is h n, blocked_is h n) (by_block (enclave_in (content past n)) (block_epoch s.first_epoch past n)
    ∙ sym ((epochs_tell s.first_epoch past).kept_back n))
  where
    by_block : (c b : Option ℕ) → number_up_to s c b ≡ up_to_block s.first_epoch past c b
    by_block None b = refl
    by_block (Some enclave) None = refl
    by_block (Some enclave) (Some b) = noting_agrees s past h enclave (λ m. leb m b)

-- the epoch of the enclave whose page a frame holds
epoch_by : (s : State) (past : List Entry) → HasColumns s past → (n : ℕ)
    → epoch_of s.epoch (enclave_in (s.content n)) ≡ epoch_in s.first_epoch past n
epoch_by s past h n = rw (content_is h n) (by_enclave (enclave_in (content past n)))
  where
    by_enclave : (c : Option ℕ) → epoch_of s.epoch c ≡ epoch_of (epoch s.first_epoch past) c
    by_enclave None = refl
    by_enclave (Some enclave) = epoch_is h enclave

-- what the row of EWB's start sees of the tracking
drain_sees : (s : State) (past : List Entry) → HasColumns s past → (n : ℕ) → drain_sight s n ≡ drain_sight_at s.first_epoch past n
drain_sees s past h n i =
    record { epoch = epoch_by s past h n i; kept_back = kept_back_by s past h n i; is_drained = drained_by s past h n i }

-- the rows of starts, where they see the same
ewbstart_same : (v v' : FrameSight) (uses uses' : UseSight) (slot slot' : SlotSight) (drain drain' : DrainSight) (b b' : Bool) → v ≡ v'
    → uses ≡ uses' → slot ≡ slot' → drain ≡ drain' → b ≡ b'
    → first_of_row (ewbstart_row v uses slot drain b) ≡ first_of_row (ewbstart_row v' uses' slot' drain' b')
ewbstart_same v v' uses uses' slot slot' drain drain' b b' e1 e2 e3 e4 e5 i =
    first_of_row (ewbstart_row (e1 i) (e2 i) (e3 i) (e4 i) (e5 i))

eldstart_same : (v v' : FrameSight) (page page' : LoadSight) (slot slot' : SlotSight) → v ≡ v' → page ≡ page' → slot ≡ slot'
    → first_of_row (eldstart_row v page slot) ≡ first_of_row (eldstart_row v' page' slot')
eldstart_same v v' page page' slot slot' e1 e2 e3 i = first_of_row (eldstart_row (e1 i) (e2 i) (e3 i))

-- a slot past the end of its page is out of range, whatever else is seen
beyond_first : (a b c : Bool) → c ≡ true → (a || b || c) ≡ true
beyond_first true b c is = refl
beyond_first false true c is = refl
beyond_first false false c is = is

ewbstart_beyond : (v : FrameSight) (uses : UseSight) (slot : SlotSight) (drain : DrainSight) (b : Bool) → slot.is_beyond ≡ true
    → first_of_row (ewbstart_row v uses slot drain b) ≡ Some why.BadRange
ewbstart_beyond v uses slot drain b is = rw (beyond_first v.is_beyond slot.frame.is_beyond slot.is_beyond is) refl

eldstart_beyond : (v : FrameSight) (page : LoadSight) (slot : SlotSight) → slot.is_beyond ≡ true
    → first_of_row (eldstart_row v page slot) ≡ Some why.BadRange
eldstart_beyond v page slot is = rw (beyond_first v.is_beyond slot.frame.is_beyond slot.is_beyond is) refl

-- ---- the rows of instructions that move pages, in the state and by the entries
--
-- They see columns alone, and of flat memory that it has the enclaves and pages that the entries made.

pub block_agrees : (s : State) (past : List Entry) (a : Actor) (f : Frame) → HasColumns s past
    → first_of_row (row_of s a (Block f)) ≡ first_of_row (row_at (making_of s) past a (Block f))
block_agrees s past a f h = ap (λ v. first_of_row (block_row v)) (sight_is h f.0)

pub track_agrees : (s : State) (past : List Entry) (a : Actor) (enclave : ℕ) → HasColumns s past → EnclavesAreFlat past
    → first_of_row (row_of s a (Track enclave)) ≡ first_of_row (row_at (making_of s) past a (Track enclave))
track_agrees s past a enclave h seen = ap (λ v. first_of_row (track_row v)) (track_sees s past h seen enclave)

pub ewbstart_agrees : (s : State) (past : List Entry) (a : Actor) (f : Frame) (slot : SlotAt) → HasColumns s past → HasAllVersions s past
    → IsGuarded s
    → first_of_row (row_of s a (EwbStart f slot)) ≡ first_of_row (row_at (making_of s) past a (EwbStart f slot))
ewbstart_agrees s past a f slot h versions guarded = by_range (nat_lt 511 slot.index) refl
  where
    by_range : (b : Bool) → nat_lt 511 slot.index ≡ b
        → first_of_row (row_of s a (EwbStart f slot)) ≡ first_of_row (row_at (making_of s) past a (EwbStart f slot))
    by_range true e =
        ewbstart_beyond (sight s f.0) (use_sight s f.0 slot) (slot_sight s slot) (drain_sight s f.0) (is_version_spent s) e
        ∙ sym (ewbstart_beyond (sight_at s.frames past f.0) (use_sight_at s.frames past f.0 slot) (slot_sight_at s.frames past slot)
        (drain_sight_at s.first_epoch past f.0) (next_version s.first_version past == 2 ^ 64) e)
    by_range false e =
        ewbstart_same _ _ _ _ _ _ _ _ _ _ (sight_is h f.0) (uses_see s past h guarded f.0 slot)
        (slot_sees s past h versions (busy_is s past h guarded) slot (let low = ltb-false 511 slot.index e in omega (arith, low)))
        (drain_sees s past h f.0)
        (ap (λ (n : ℕ). n == 2 ^ 64) (next_version_is h))

pub eldstart_agrees : (s : State) (past : List Entry) (a : Actor) (f : Frame) (page : Page) (slot : SlotAt) → HasColumns s past
    → HasAllVersions s past → IsGuarded s → EnclavesAreFlat past
    → first_of_row (row_of s a (EldStart f page slot)) ≡ first_of_row (row_at (making_of s) past a (EldStart f page slot))
eldstart_agrees s past a f page slot h versions guarded seen = by_range (nat_lt 511 slot.index) refl
  where
    by_range : (b : Bool) → nat_lt 511 slot.index ≡ b
        → first_of_row (row_of s a (EldStart f page slot)) ≡ first_of_row (row_at (making_of s) past a (EldStart f page slot))
    by_range true e =
        eldstart_beyond (sight s f.0) (load_sight s page) (slot_sight s slot) e
        ∙ sym (eldstart_beyond (sight_at s.frames past f.0) (load_sight_at s.frames past page) (slot_sight_at s.frames past slot) e)
    by_range false e =
        eldstart_same _ _ _ _ _ _ (sight_is h f.0) (load_sees s past h seen page)
        (slot_sees s past h versions (busy_is s past h guarded) slot (let low = ltb-false 511 slot.index e in omega (arith, low)))
