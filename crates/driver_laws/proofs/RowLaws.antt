-- What the instruction table says of a load of a page that is away, and of a try to write out a page that was taken.
use Rattle.std.proofs.Common.{◌≡◌, ℕ, ◌<◌, ◌==◌, not, Bool, true, false, if◌then◌else◌, refl, sym, ◌∙◌, ap}
use Rattle.std.proofs.Common.{subst, List, [], ◌∷◌, Option, Some, None, is_some, nat_le, nat_lt, arith, ◌&&◌, ◌||◌}
use Rattle.std.proofs.lemmas.Bool.{eq-eqb, eqb-true, false≢true, leb-true, ltb-true}
use Rattle.std.proofs.lemmas.Option.{none-some, same_Some}
use Rattle.sgx_types.proofs.Truths.{both_true}
use Rattle.sgx_types.proofs.Pages.{same_page-refl, same_pages}
use Rattle.sgx_types.proofs.CountLaws.{any_below-none, count_below-zero}
use Rattle.sgx_types.proofs.LeastLaws.{is_least, IsLeastOr, least_found}
use Rattle.sgx_rules.specs.Frames.{added, children, Content, content, Free, held_after, Holds}
use Rattle.sgx_rules.specs.Frames.{is_blocked, is_child, is_free, is_sealing, is_secs_of}
use Rattle.sgx_rules.specs.Frames.{IsLoading, IsVa, made_before, page_there, put_by, reloaded, secs_frame, SecsOf, stands, vas_made}
use Rattle.sgx_types.specs.Pages.{is_own_page, is_va_page, page_at, same_page, secs_page, va_page}
use Rattle.sgx_rules.specs.Rules.{Along, FitsRule}
use Rattle.sgx_rules.specs.Flat.{settled}
use Rattle.sgx_rules.specs.Sights.{children_under, is_in_use, secs_seen, secs_sight_at, sight_at, use_sight_at}
use Rattle.sgx_rules.specs.Slots.{is_busy_at, is_busy_of, is_of_va, is_va_in_use, is_va_of, open_slot, slot_of as starts_slot}
use Rattle.sgx_rules.specs.Slots.{version_at, version_in, version_of}
use Rattle.sgx_rules.specs.inner.Slots.{IsIdle}
use Rattle.sgx_rules.specs.Starts.{open_start, slot_found, slot_in, Start}
use Rattle.sgx_types.specs.Cases.{first_of_row}
use Rattle.sgx_rules.specs.Table.{DrainSight, eldstart_row, ewbstart_row, FrameSight, is_busy, is_loading}
use Rattle.sgx_rules.specs.Table.{is_out_of_range, is_own, is_va, is_valid, LoadSight, SecsSight}
use Rattle.sgx_rules.specs.declared.entries.Action.TheVariants.{Add, Create, Eld, EldStart, Epa, Ewb}
use Rattle.sgx_rules.specs.declared.entries.Answer.TheVariants.{Moved}
use Rattle.sgx_rules.specs.declared.entries.Entry.{Entry}
use Rattle.sgx_rules.specs.declared.entries.Event.{Event}
use Rattle.sgx_rules.specs.declared.entries.Event.TheVariants.{Did, Refused}
use Rattle.sgx_types.specs.declared.names.Kind.{Kind}
use Rattle.sgx_types.specs.declared.names.Page.{Page}
use Rattle.sgx_types.specs.declared.names.Perm.{Perm}
use Rattle.sgx_types.specs.declared.names.SlotAt.{SlotAt}
use Rattle.sgx_types.specs.declared.names.VaSlot.{VaSlot}
use Rattle.sgx_rules.proofs.Busy.{idle_free, StaysIn}
use Rattle.sgx_rules.proofs.Contents.{held_page, IsHeld, there_is, va_no_free}
use Rattle.driver_slots.specs.inner.Keeper.{is_ours, is_out, Keeper, va_slot}
use Rattle.job_grammar.specs.Jobs.{JobView}
use Rattle.driver_rules.specs.Places.{Away, Here, is_here, Leaving, Place, place}
use Rattle.driver_rules.proofs.ReclaimLaws.{other_secs}
use Rattle.driver_laws.specs.inner.Agrees.{Keeping, ShowsSlots}
use Rattle.driver_laws.specs.inner.Sound.{is_load_start, is_write_start, IsSound, slot_outside}
use Rattle.driver_laws.specs.inner.Stages.{IsTaken}
use Rattle.driver_laws.specs.inner.Used.{left_to_refuse, load_left, SealingAreOpen, slot_with, SlotsAreUsed, start_left}
use Rattle.driver_laws.proofs.AloneLaws.{free_none}
use Rattle.driver_laws.proofs.PlaceLaws.{holds_one, loads_no_page}
use Rattle.driver_laws.proofs.ReadyLaws.{away_idle}
use Rattle.driver_laws.proofs.SoundLaws.{entry_of, own_none, frame_of_here}
use Rattle.driver_laws.proofs.StillLaws.{holds_here}

-- ---- frames

-- what is held stands in a frame of the EPC
held_within : (frames : ℕ) (past : List Entry) (n : ℕ) → Along (FitsRule frames) past → is_free (content past n) ≡ false → n < frames
held_within frames [] n fits h = cc
held_within frames (e ∷ past) n fits h = by_event e.event fits.0 h (held_within frames past n fits.1)
  where
    put : (f : ℕ) (c : Content) (b : Bool) → (f == n) ≡ b → f < frames → is_free (if b then c else content past n) ≡ false
        → (is_free (content past n) ≡ false → n < frames) → n < frames
    put f c true is less k before = subst (λ m. m < frames) (eqb-true f n is) less
    put f c false is less k before = before k

    freed : (b : Bool) → is_free (if b then Free else content past n) ≡ false → (is_free (content past n) ≡ false → n < frames)
        → n < frames
    freed true k before = cc
    freed false k before = before k

    by_event : (ev : Event) → FitsRule frames past (entry_of e.actor ev)
        → is_free (held_after (put_by ev (made_before past)) n (content past n)) ≡ false
        → (is_free (content past n) ≡ false → n < frames) → n < frames
    by_event (Did (Epa f) answer) fit k before = put f.0 (IsVa (vas_made past)) (f.0 == n) refl fit.0 k before
    by_event (Did (Create enclave f base size) answer) fit k before = put f.0 (SecsOf enclave) (f.0 == n) refl fit.0 k before
    by_event (Did (Add enclave number f kind perm init) answer) fit k before =
        put f.0 (Holds (page_at enclave number) kind perm) (f.0 == n) refl fit.0 k before
    by_event (Did (EldStart f page slot) answer) fit k before = put f.0 (IsLoading page) (f.0 == n) refl fit.0.0 k before
    by_event (Did (Ewb f) answer) fit k before = freed (f.0 == n) k before
    by_event (Did (Eld f) (Moved page version tag)) fit k before =
        put f.0 (reloaded page (added past page)) (f.0 == n) refl fit.0 k before
    by_event (Refused (Eld f) refusal) fit k before = freed (f.0 == n) k before
    by_event _ fit k before = before k

-- .. and so does a version array page
pub array_within : (frames : ℕ) (past : List Entry) (n : ℕ) → Along (FitsRule frames) past → is_va (content past n) ≡ true
    → nat_le frames n ≡ false
array_within frames past n fits h = by_test (nat_le frames n) refl (held_within frames past n fits (va_no_free (content past n) h))
  where
    by_test : (b : Bool) → nat_le frames n ≡ b → n < frames → b ≡ false
    by_test false k l = refl
    by_test true k l = let high = leb-true frames n k in absurd (omega (arith, high, l))

-- ---- pages that are here

-- the page that stands in a frame, and is here, is not on its way out of it
here_stays : (past : List Entry) (g : Page) (n : ℕ) → IsSound past → SealingAreOpen past → is_here (place past g) ≡ true
    → stands (content past n) g ≡ true → is_sealing past n ≡ false
here_stays past g n s sealing here stood = by_test (is_sealing past n) refl
  where
    not_leaving : (p : Place) → p ≡ Leaving n → is_here p ≡ false
    not_leaving p is = ap is_here is

    by_test : (b : Bool) → is_sealing past n ≡ b → b ≡ false
    by_test false is = refl
    by_test true is =
        let w = s.places.writes n (sym (sealing n) ∙ is) in
        let same : w.0 ≡ g =
        same_pages w.0 g (sym (holds_one (content past n) w.0 g (holds_here past w.0 (Leaving n) n s w.1 (eq-eqb n n refl))) ∙ stood) in
        absurd (false≢true (sym (not_leaving (place past g) (ap (place past) (sym same) ∙ w.1)) ∙ here))

-- so no version array page that is here is on its way out of a frame
pub array_stays : (past : List Entry) (va : ℕ) → IsSound past → SealingAreOpen past → is_here (place past (va_page va)) ≡ true
    → StaysIn past va
array_stays past va s sealing here n = by_content (content past n) refl
  where
    by_number : (k : ℕ) (b : Bool) → (k == va) ≡ b → content past n ≡ IsVa k → (b && is_sealing past n) ≡ false
    by_number k false is at = refl
    by_number k true is at =
        here_stays past (va_page va) n s sealing here
        (ap (λ c. stands c (va_page va)) at ∙ ap (λ m. same_page (va_page m) (va_page va)) (eqb-true k va is) ∙ same_page-refl (va_page va))

    by_content : (c : Content) → content past n ≡ c → (is_va_of c va && is_sealing past n) ≡ false
    by_content (IsVa k) is = by_number k (k == va) refl is
    by_content Free is = refl
    by_content (SecsOf enclave) is = refl
    by_content (Holds page kind perm) is = refl
    by_content (IsLoading page) is = refl

-- a slot that no open start names, and whose page is here, is not busy
slot_idle : (frames : ℕ) (past : List Entry) (slot : VaSlot) (at : SlotAt) → IsSound past → SealingAreOpen past
    → slot_found (content past) at ≡ Some slot → is_here (place past (va_page slot.va)) ≡ true → IsIdle past slot
    → is_busy_at frames past at ≡ false
slot_idle frames past slot at s sealing found here idle =
    ap (is_busy_of frames past) found ∙ idle_free frames past slot idle (array_stays past slot.va s sealing here)

-- a slot that is found is one of the version array page in the frame, and below its end
record IsInPage (past : List Entry) (slot : VaSlot) (at : SlotAt) : Type 0 where
  pub array : content past at.frame.0 ≡ IsVa slot.va
  pub index : at.index ≡ slot.index

in_page : (past : List Entry) (slot : VaSlot) (at : SlotAt) → slot_found (content past) at ≡ Some slot → IsInPage past slot at
in_page past slot at found = by_content (content past at.frame.0) refl found
  where
    by_content : (c : Content) → content past at.frame.0 ≡ c → slot_in c at.index ≡ Some slot → IsInPage past slot at
    by_content (IsVa k) is h =
        let one : va_slot k at.index ≡ slot = same_Some (va_slot k at.index) slot h in
        record { array = is ∙ ap (λ (t : VaSlot). IsVa t.va) one; index = ap (λ (t : VaSlot). t.index) one }
    by_content Free is h = absurd (none-some slot h)
    by_content (SecsOf e) is h = absurd (none-some slot h)
    by_content (Holds page kind perm) is h = absurd (none-some slot h)
    by_content (IsLoading page) is h = absurd (none-some slot h)

-- ---- a SECS

-- a SECS that stands in a frame is the one of its enclave there
secs_there : (c : Content) (enclave : ℕ) → is_va_page (secs_page enclave) ≡ false
    → ((page : Page) (kind : Kind) (perm : Perm) → c ≡ Holds page kind perm → is_own_page page ≡ true)
    → stands c (secs_page enclave) ≡ true → c ≡ SecsOf enclave
secs_there (SecsOf e) enclave some own h = ap (λ (g : Page). SecsOf g.enclave) (same_pages (secs_page e) (secs_page enclave) h)
secs_there (IsVa k) enclave some own h =
    absurd (false≢true (sym some ∙ ap is_va_page (sym (same_pages (va_page k) (secs_page enclave) h))))
secs_there (Holds page kind perm) enclave some own h =
    absurd (false≢true (sym (other_secs enclave) ∙ ap is_own_page (sym (same_pages page (secs_page enclave) h))
    ∙ own page kind perm refl))
secs_there Free enclave some own h = absurd (false≢true h)
secs_there (IsLoading page) enclave some own h = absurd (false≢true h)

secs_of_is : (c : Content) (enclave : ℕ) → is_secs_of c enclave ≡ true → stands c (secs_page enclave) ≡ true
secs_of_is (SecsOf e) enclave h =
    ap (λ m. same_page (secs_page m) (secs_page enclave)) (eqb-true e enclave h) ∙ same_page-refl (secs_page enclave)
secs_of_is Free enclave h = absurd (false≢true h)
secs_of_is (IsVa number) enclave h = absurd (false≢true h)
secs_of_is (Holds page kind perm) enclave h = absurd (false≢true h)
secs_of_is (IsLoading page) enclave h = absurd (false≢true h)

-- the SECS of an enclave, where it is here, stands in a frame of the EPC, and is not on its way out
pub secs_settled : (frames : ℕ) (past : List Entry) (enclave : ℕ) → IsSound past → SealingAreOpen past → Along (FitsRule frames) past
    → is_va_page (secs_page enclave) ≡ false → is_here (place past (secs_page enclave)) ≡ true
    → secs_sight_at frames past enclave ≡ settled
secs_settled frames past enclave s sealing fits some here = by_found (secs_frame frames (content past) enclave) refl
  where
    test : ℕ → Bool
    test n = is_secs_of (content past n) enclave

    there : (n : ℕ) × (place past (secs_page enclave) ≡ Here n)
    there = frame_of_here (place past (secs_page enclave)) here

    held : content past there.0 ≡ SecsOf enclave
    held =
        secs_there (content past there.0) enclave some (s.held there.0)
        (holds_here past (secs_page enclave) (Here there.0) there.0 s there.1 (eq-eqb there.0 there.0 refl))

    low : there.0 < frames
    low = held_within frames past there.0 fits (ap is_free held)

    by_found : (o : Option ℕ) → secs_frame frames (content past) enclave ≡ o → secs_seen (is_sealing past) o ≡ settled
    by_found None is =
        absurd (false≢true (sym (subst (IsLeastOr test frames) is (least_found test frames) there.0 low)
        ∙ ap (λ c. is_secs_of c enclave) held ∙ eq-eqb enclave enclave refl))
    by_found (Some n) is =
        ap (λ (b : Bool). secs_seen (λ m. b) (Some n))
        (here_stays past (secs_page enclave) n s sealing here
        (secs_of_is (content past n) enclave (is_least test frames n is).passes))

-- ---- a load

-- a load of a page that is away, by its slot in a page that is here, into a free frame of the EPC, is refused only where the slot holds no
-- version
pub load_goes : (frames : ℕ) (past : List Entry) (g : Page) (slot : VaSlot) (at : SlotAt) (f : ℕ) (load : LoadSight) (version : ℕ)
    → IsSound past → SealingAreOpen past → place past g ≡ Away slot → slot_found (content past) at ≡ Some slot
    → is_here (place past (va_page slot.va)) ≡ true → content past f ≡ Free → nat_le frames f ≡ false
    → nat_le frames at.frame.0 ≡ false → nat_lt 511 at.index ≡ false → load.is_known ≡ true → load.secs ≡ settled
    → first_of_row (eldstart_row (sight_at frames past f) load (slot_with frames past at version)) ≡ first_of_row (load_left version)
load_goes frames past g slot at f load version s sealing away found here free low at_low within known secs =
    rw (near, known, away_not, settles, idle, empty, array) refl
  where
    near : is_out_of_range (sight_at frames past f) (slot_with frames past at version) ≡ false
    near = rw (low, at_low, within) refl

    away_not : load.secs.is_away ≡ false
    away_not = ap (λ (x : SecsSight). x.is_away) secs

    settles : load.secs.is_sealing ≡ false
    settles = ap (λ (x : SecsSight). x.is_sealing) secs

    stays : is_sealing past f ≡ false
    stays = sealing f ∙ ap is_write_start (free_none past f s free)

    idle : (is_busy (sight_at frames past f) || is_busy_at frames past at) ≡ false
    idle = rw (stays, free) (slot_idle frames past slot at s sealing found here (away_idle past g slot s away))

    empty : is_valid (content past f) ≡ false
    empty = ap is_valid free

    array : not (is_va (content past at.frame.0)) ≡ false
    array = ap (λ c. not (is_va c)) (in_page past slot at found).array

-- by the entries the slot of a page that is away holds one
pub load_filled : (past : List Entry) (g : Page) (slot : VaSlot) (at : SlotAt) → SlotsAreUsed past → place past g ≡ Away slot
    → slot_found (content past) at ≡ Some slot → (version_at past at == 0) ≡ false
load_filled past g slot at u away found =
    ap (λ o. version_of past o == 0) found ∙ by_test (version_in past slot == 0) refl (u.filled g slot (ap slot_outside away))
  where
    by_test : (b : Bool) → (version_in past slot == 0) ≡ b → 0 < version_in past slot → b ≡ false
    by_test false is low_version = refl
    by_test true is low_version = let none = eqb-true (version_in past slot) 0 is in absurd (omega (arith, none, low_version))

-- ---- a try to write out

-- a TCS or REG page that stands in a frame is held there by its kind
pub own_held : (c : Content) (g : Page) → is_own_page g ≡ true → stands c g ≡ true → IsHeld c g
own_held (Holds page kind perm) g own h = held_page (Holds page kind perm) g h
own_held (SecsOf e) g own h =
    absurd (false≢true (sym (other_secs e) ∙ ap is_own_page (same_pages (secs_page e) g h) ∙ own))
own_held (IsVa k) g own h = absurd (false≢true (ap is_own_page (same_pages (va_page k) g h) ∙ own))
own_held Free g own h = absurd (false≢true h)
own_held (IsLoading page) g own h = absurd (false≢true h)

-- what stands in a frame with an open start leaves it; a TCS or REG page is held there by its kind
pub leaves_there : (past : List Entry) (n : ℕ) (x : Start) (page : Page) → IsSound past → open_start past n ≡ Some x
    → page_there (content past n) ≡ Some page
    → (place past page ≡ Leaving n) × (is_own_page page ≡ true → IsHeld (content past n) page)
leaves_there past n x page s opened there = by_loads x.loads refl
  where
    stood : stands (content past n) page ≡ true
    stood = there_is (content past n) page there

    by_loads : (l : Option Page) → x.loads ≡ l → (place past page ≡ Leaving n) × (is_own_page page ≡ true → IsHeld (content past n) page)
    by_loads (Some g) is =
        let waits = sym (s.places.loading n) ∙ ap is_load_start opened ∙ ap is_some is in
        absurd (false≢true (sym (loads_no_page (content past n) page waits) ∙ stood))
    by_loads None is =
        let w = s.places.writes n (ap is_write_start opened ∙ ap (λ o. not (is_some o)) is) in
        let same : w.0 ≡ page =
        same_pages w.0 page
        (sym (holds_one (content past n) w.0 page (holds_here past w.0 (Leaving n) n s w.1 (eq-eqb n n refl))) ∙ stood) in
        (ap (place past) (sym same) ∙ w.1, λ own. own_held (content past n) page own stood)

-- a slot of the keeper that is not out is not busy, and empty
pub free_slot : (frames : ℕ) (k : Keeping) (j : JobView) (keeper : Keeper) (past : List Entry) (slot : VaSlot) (at : SlotAt) → IsSound past
    → SealingAreOpen past → ShowsSlots k j keeper past → is_ours keeper slot ≡ true → is_out keeper slot ≡ false
    → slot_found (content past) at ≡ Some slot → (is_busy_at frames past at ≡ false) × (version_at past at ≡ 0)
free_slot frames k j keeper past slot at s sealing shows ours free found =
    let none = shows.empty slot ours free in (
      slot_idle frames past slot at s sealing found (shows.here slot ours free) none.1,
      ap (version_of past) found ∙ none.0,
    )

-- a try to write out a page that was taken and blocked, into a slot that is not out, is refused only for want of a track, for a version
-- that the slot holds already, or for want of a version
pub try_goes : (frames : ℕ) (k : Keeping) (j : JobView) (keeper : Keeper) (past : List Entry) (g : Page) (slot : VaSlot) (at : SlotAt)
    (w : IsTaken past true g) (drain : DrainSight) (version : ℕ) (is_spent : Bool) → IsSound past → SealingAreOpen past
    → ShowsSlots k j keeper past
    → is_own_page g ≡ true → is_ours keeper slot ≡ true → is_out keeper slot ≡ false → slot_found (content past) at ≡ Some slot
    → nat_le frames w.frame ≡ false → nat_le frames at.frame.0 ≡ false
    → first_of_row (ewbstart_row (sight_at frames past w.frame) (use_sight_at frames past w.frame at) (slot_with frames past at version)
    drain is_spent)
    ≡ first_of_row (left_to_refuse drain version is_spent)
try_goes frames k j keeper past g slot at w drain version is_spent s sealing shows own_g ours free found low at_low =
    rw (near, idle, used, kind, children, own, blocked) refl
  where
    sight : FrameSight
    sight = sight_at frames past w.frame

    page : IsInPage past slot at
    page = in_page past slot at found

    held : IsHeld (content past w.frame) g
    held =
        own_held (content past w.frame) g own_g
        (holds_here past g (Leaving w.frame) w.frame s w.leaving (eq-eqb w.frame w.frame refl))

    in_range : nat_lt 511 at.index ≡ false
    in_range = by_test (nat_lt 511 at.index) refl
      where
        below : nat_lt slot.index 512 ≡ true
        below = (both_true (nat_le (k.firsts slot.va) slot.index) (nat_lt slot.index 512)
            (both_true (nat_lt slot.va (vas_made past)) _ (sym (shows.ours slot) ∙ ours)).1).1

        by_test : (b : Bool) → nat_lt 511 at.index ≡ b → b ≡ false
        by_test false is = refl
        by_test true is =
            let high = ltb-true 511 at.index is in
            let less = ltb-true slot.index 512 below in absurd (omega (arith, high, less, page.index))

    near : is_out_of_range sight (slot_with frames past at version) ≡ false
    near = rw (low, at_low, in_range) refl

    stays : is_sealing past w.frame ≡ false
    stays = sealing w.frame ∙ ap is_write_start w.start

    waits : is_loading (content past w.frame) ≡ false
    waits = ap is_loading held.holds

    used : is_free (content past w.frame) ≡ false
    used = ap is_free held.holds

    unused : is_in_use frames past (content past w.frame) ≡ false
    unused = ap (is_in_use frames past) held.holds

    none : (is_busy_at frames past at ≡ false) × (version_at past at ≡ 0)
    none = free_slot frames k j keeper past slot at s sealing shows ours free found

    idle : (is_busy sight || is_busy_at frames past at || is_in_use frames past (content past w.frame)) ≡ false
    idle = rw (stays, waits, none.0, unused) refl

    array : is_va (content past at.frame.0) ≡ true
    array = ap is_va page.array

    apart : (w.frame == at.frame.0) ≡ false
    apart = by_test (w.frame == at.frame.0) refl
      where
        by_test : (b : Bool) → (w.frame == at.frame.0) ≡ b → b ≡ false
        by_test false is = refl
        by_test true is =
            absurd (false≢true (sym (ap is_va held.holds) ∙ ap (λ n. is_va (content past n)) (eqb-true w.frame at.frame.0 is) ∙ array))

    kind : (not (is_va (content past at.frame.0)) || (w.frame == at.frame.0)) ≡ false
    kind = rw (array, apart) refl

    children : children_under frames (content past) (content past w.frame) ≡ 0
    children = ap (children_under frames (content past)) held.holds

    own : is_own (content past w.frame) ≡ true
    own = ap is_own held.holds

    blocked : not (is_blocked past w.frame) ≡ false
    blocked = ap not w.block

-- ---- a write-out of a SECS or a version array page

-- no frame holds or loads a page of enclave 0
no_child : (past : List Entry) (n : ℕ) → IsSound past → is_child (content past n) 0 ≡ false
no_child past n s = by_content (content past n) refl
  where
    by_own : (page : Page) → is_own_page page ≡ true → (page.enclave == 0) ≡ false
    by_own page own = (own_none page own).1

    by_wait : (a b : Bool) → ((a ≡ true) → b ≡ false) → (a && b) ≡ false
    by_wait false b h = refl
    by_wait true b h = h refl

    by_content : (c : Content) → content past n ≡ c → is_child c 0 ≡ false
    by_content Free is = refl
    by_content (IsVa k) is = refl
    by_content (SecsOf e) is = refl
    by_content (Holds page kind perm) is = by_own page (s.held n page kind perm is)
    by_content (IsLoading page) is = by_wait (is_own_page page) (page.enclave == 0) (by_own page)

-- an enclave whose SECS is not here has no page in a frame
childless : (frames : ℕ) (past : List Entry) (e : ℕ) → IsSound past → is_here (place past (secs_page e)) ≡ false
    → children frames (content past) e ≡ 0
childless frames past e s gone = count_below-zero (λ n. is_child (content past n) e) frames (λ n low. by_number (e == 0) refl n)
  where
    by_child : (n : ℕ) (b : Bool) → (e == 0) ≡ false → is_child (content past n) e ≡ b → b ≡ false
    by_child n false some is = refl
    by_child n true some is = absurd (false≢true (sym gone ∙ s.secs n e some is))

    by_number : (b : Bool) → (e == 0) ≡ b → (n : ℕ) → is_child (content past n) e ≡ false
    by_number true none n = ap (is_child (content past n)) (eqb-true e 0 none) ∙ no_child past n s
    by_number false some n = by_child n (is_child (content past n) e) some refl

-- a version array page that is not here has no slot that a start names
unnamed : (frames : ℕ) (past : List Entry) (va : ℕ) → IsSound past → is_here (place past (va_page va)) ≡ false
    → is_va_in_use frames past va ≡ false
unnamed frames past va s gone = any_below-none (λ n. is_of_va (open_slot past n) va) frames (λ n low. by_start n (open_start past n) refl)
  where
    by_test : (n : ℕ) (x : Start) (b : Bool) → open_start past n ≡ Some x → (x.slot.va == va) ≡ b → b ≡ false
    by_test n x false opened is = refl
    by_test n x true opened is =
        absurd (false≢true (sym gone ∙ ap (λ k. is_here (place past (va_page k))) (sym (eqb-true x.slot.va va is))
        ∙ s.arrays.named n x opened))

    by_start : (n : ℕ) (o : Option Start) → open_start past n ≡ o → is_of_va (starts_slot o) va ≡ false
    by_start n None opened = refl
    by_start n (Some x) opened = by_test n x (x.slot.va == va) opened refl

-- what is seen of a SECS or a version array page that leaves its frame
record IsBeside (frames : ℕ) (past : List Entry) (f va : ℕ) : Type 0 where
  pub used : is_free (content past f) ≡ false
  pub waits : is_loading (content past f) ≡ false
  pub own : is_own (content past f) ≡ false
  pub unused : is_in_use frames past (content past f) ≡ false
  pub children : children_under frames (content past) (content past f) ≡ 0
  pub other : is_va_of (content past f) va ≡ false

beside : (frames : ℕ) (past : List Entry) (g : Page) (f va : ℕ) → IsSound past → is_own_page g ≡ false → place past g ≡ Leaving f
    → is_here (place past (va_page va)) ≡ true → IsBeside frames past f va
beside frames past g f va s other leaving here =
    by_content (content past f) refl (holds_here past g (Leaving f) f s leaving (eq-eqb f f refl))
  where
    gone : (h : Page) → same_page h g ≡ true → is_here (place past h) ≡ false
    gone h same = ap (λ (p : Page). is_here (place past p)) (same_pages h g same) ∙ ap is_here leaving

    apart : (k : ℕ) (b : Bool) → is_here (place past (va_page k)) ≡ false → (k == va) ≡ b → b ≡ false
    apart k false away is = refl
    apart k true away is = absurd (false≢true (sym away ∙ ap (λ m. is_here (place past (va_page m))) (eqb-true k va is) ∙ here))

    by_content : (c : Content) → content past f ≡ c → stands c g ≡ true → IsBeside frames past f va
    by_content Free is h = absurd (false≢true h)
    by_content (IsLoading page) is h = absurd (false≢true h)
    by_content (Holds page kind perm) is h =
        absurd (false≢true (sym other ∙ ap is_own_page (sym (same_pages page g h)) ∙ s.held f page kind perm is))
    by_content (IsVa k) is h = record {
      used = ap is_free is;
      waits = ap is_loading is;
      own = ap is_own is;
      unused = ap (is_in_use frames past) is ∙ unnamed frames past k s (gone (va_page k) h);
      children = ap (children_under frames (content past)) is;
      other = ap (λ c. is_va_of c va) is ∙ apart k (k == va) (gone (va_page k) h) refl;
    }
    by_content (SecsOf e) is h = record {
      used = ap is_free is;
      waits = ap is_loading is;
      own = ap is_own is;
      unused = ap (is_in_use frames past) is;
      children = ap (children_under frames (content past)) is ∙ childless frames past e s (gone (secs_page e) h);
      other = ap (λ c. is_va_of c va) is;
    }

-- a SECS or a version array page that leaves, into an idle slot of a page that is here, is kept only by a version that the slot holds
-- already, or for want of a version
pub start_goes : (frames : ℕ) (past : List Entry) (g : Page) (f : ℕ) (slot : VaSlot) (at : SlotAt) (drain : DrainSight) (version : ℕ)
    (is_spent : Bool) → IsSound past → SealingAreOpen past → is_own_page g ≡ false → place past g ≡ Leaving f → open_start past f ≡ None
    → slot_found (content past) at ≡ Some slot → is_here (place past (va_page slot.va)) ≡ true → IsIdle past slot
    → nat_le frames f ≡ false → nat_le frames at.frame.0 ≡ false → nat_lt 511 at.index ≡ false
    → first_of_row (ewbstart_row (sight_at frames past f) (use_sight_at frames past f at) (slot_with frames past at version) drain is_spent)
    ≡ first_of_row (start_left version is_spent)
start_goes frames past g f slot at drain version is_spent s sealing other leaving none found here unnamed_slot low at_low within =
    rw (near, idle, its.used, kind, its.children, its.own) refl
  where
    its : IsBeside frames past f slot.va
    its = beside frames past g f slot.va s other leaving here

    page : IsInPage past slot at
    page = in_page past slot at found

    near : is_out_of_range (sight_at frames past f) (slot_with frames past at version) ≡ false
    near = rw (low, at_low, within) refl

    stays : is_sealing past f ≡ false
    stays = sealing f ∙ ap is_write_start none

    idle : (is_busy (sight_at frames past f) || is_busy_at frames past at || is_in_use frames past (content past f)) ≡ false
    idle = rw (stays, its.waits, slot_idle frames past slot at s sealing found here unnamed_slot, its.unused) refl

    array : is_va (content past at.frame.0) ≡ true
    array = ap is_va page.array

    apart : (f == at.frame.0) ≡ false
    apart = by_test (f == at.frame.0) refl
      where
        by_test : (b : Bool) → (f == at.frame.0) ≡ b → b ≡ false
        by_test false is = refl
        by_test true is =
            absurd (false≢true (sym its.other ∙ ap (λ n. is_va_of (content past n) slot.va) (eqb-true f at.frame.0 is)
            ∙ ap (λ c. is_va_of c slot.va) page.array ∙ eq-eqb slot.va slot.va refl))

    kind : (not (is_va (content past at.frame.0)) || (f == at.frame.0)) ≡ false
    kind = rw (array, apart) refl
