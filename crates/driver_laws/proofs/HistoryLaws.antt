-- In a history places, the list and the slots are sound throughout, and a pass keeps what it says of tracks and of its pages.
use Rattle.std.proofs.Common.{◌≡◌, ℕ, ◌≤◌, ◌^◌, ◌==◌, ◌||◌, ◌&&◌, ◌⊎◌, inl, inr, not, Bool, true, false, if◌then◌else◌}
use Rattle.std.proofs.Common.{refl, sym, ◌∙◌, ap, subst, List, [], ◌∷◌, Option, Some, None, is_some, nat_lt, arith}
use Rattle.std.proofs.lemmas.Bool.{eqb-true, eq-eqb, false≢true, not-false, or_right}
use Rattle.std.proofs.lemmas.Option.{same_Some}
use Rattle.machine_copies.proofs.CopyLaws.{out_is_gone}
use Rattle.machine_copies.proofs.DrawnLaws.{drawn_once}
use Rattle.machine_copies.proofs.StartLaws.{starts_apart}
use Rattle.machine_copies.proofs.ThereLaws.{add_makes, create_makes, created_there, epa_makes, Makes as MakesPage, sees_created}
use Rattle.machine_copies.specs.inner.Once.{KeepsMoves}
use Rattle.sgx_rules.proofs.Busy.{idle_apart, not_busy_idle}
use Rattle.sgx_rules.proofs.Contents.{one_there, there_is, va_there}
use Rattle.sgx_rules.proofs.Rows.{none_holds, NoneHolds}
use Rattle.sgx_types.proofs.LeastLaws.{is_least}
use Rattle.sgx_types.proofs.Pages.{same_page-refl, same_pages}
use Rattle.sgx_types.proofs.Truths.{both_true, neither}
use Rattle.sgx_rules.specs.Fresh.{last_out, Out}
use Rattle.sgx_types.specs.Making.{Making}
use Rattle.sgx_rules.specs.Ends.{EndsIn}
use Rattle.sgx_types.specs.declared.names.Actor.{Actor}
use Rattle.sgx_rules.specs.declared.entries.Answer.{Answer}
use Rattle.sgx_rules.specs.declared.entries.Answer.TheVariants.{Moved}
use Rattle.sgx_rules.specs.declared.entries.Entry.{Entry}
use Rattle.sgx_rules.specs.declared.entries.Event.{Event}
use Rattle.sgx_rules.specs.declared.entries.Event.TheVariants.{Age, Did, Refused}
use Rattle.sgx_rules.specs.declared.entries.Look.{Look}
use Rattle.sgx_types.specs.declared.lawful.PageInit.{PageInit}
use Rattle.sgx_types.specs.declared.names.Frame.{Frame}
use Rattle.sgx_types.specs.declared.names.Kind.{Kind}
use Rattle.sgx_types.specs.declared.names.Page.{Page}
use Rattle.sgx_types.specs.declared.names.Perm.{Perm}
use Rattle.sgx_types.specs.declared.names.SlotAt.{SlotAt}
use Rattle.sgx_types.specs.declared.names.TheConstants.{SECS_NUMBER}
use Rattle.sgx_types.specs.declared.names.VaSlot.{VaSlot}
use Rattle.sgx_types.specs.Lawful.{is_enclave, is_lawful}
use Rattle.sgx_types.specs.Pages.{is_own_page, is_va_page, page_at, same_page, secs_page, va_page}
use Rattle.sgx_rules.specs.Flat.{enclave_sight_of, flat, FlatEnclave, as_initialised}
use Rattle.sgx_rules.specs.Frames.{added, Content, content, is_sealing, is_secs_of, IsVa, page_there, secs_frame, SecsOf, stands, vas_made}
use Rattle.sgx_rules.specs.inner.Enclaves.{created, created_by}
use Rattle.sgx_rules.specs.Rules.{Along, FitsRule, RefusalRule}
use Rattle.sgx_rules.specs.Sights.{drain_sight_at, row_at, secs_seen, secs_sight_at, sight_at, slot_sight_at, use_sight_at}
use Rattle.sgx_rules.specs.Slots.{is_busy_at, is_busy_of, next_version, slot_of as slot_of_start, version_at, version_in, version_of}
use Rattle.sgx_rules.specs.inner.Slots.{IsIdle}
use Rattle.sgx_rules.specs.Starts.{open_start, slot_found, slot_in, Start}
use Rattle.sgx_rules.specs.inner.Starts.{is_load_of}
use Rattle.sgx_rules.specs.Table.{add_row, ewbstart_row, FrameSight, init_row, is_busy, is_va, SecsSight}
use Rattle.job_grammar.specs.Jobs.{JobView}
use Rattle.script_rules.specs.Script.{is_init_of, is_initialised}
use Rattle.sgx_types.specs.Pages.{frame_at}
use Rattle.driver_rules.specs.Ages.{AgeOf, AgeRule, ahead_by, InPass, IsAhead}
use Rattle.driver_rules.specs.Passes.{Aside, aside, Between, Blocking, IsGoing, IsToGo, NoneAside, Pass, pass, Scan, Tries}
use Rattle.driver_rules.specs.Places.{Absent, Away, frame_here, Here, is_here, Leaving, Loading, Place, place}
use Rattle.driver_rules.specs.Scripts.{ScriptRule}
use Rattle.driver_rules.specs.Spares.{due_with, outs}
use Rattle.driver_rules.specs.Targets.{at_frame, slot_here}
use Rattle.driver_rules.specs.Stops.{last_event}
use Rattle.driver_rules.proofs.ReclaimLaws.{due_is_other, other_secs}
use Rattle.driver_laws.specs.inner.Driven.{IsDriven}
use Rattle.driver_laws.specs.inner.Kinds.{CanLeave, CanLook, CanMove}
use Rattle.driver_laws.specs.inner.Sound.{is_absent, is_write_start, IsSound, load_slot, slot_at, slot_if, slot_of, stands_in, version_out}
use Rattle.driver_laws.specs.inner.Stages.{HasAside, KeepsPages}
use Rattle.driver_laws.specs.inner.Tracks.{is_reclaimers, KeepsTracks}
use Rattle.driver_laws.proofs.AloneLaws.{loading_is}
use Rattle.driver_laws.proofs.DueLaws.{due_inits, due_leaves}
use Rattle.driver_laws.proofs.EpochLaws.{try_tells}
use Rattle.driver_laws.proofs.MarkLaws.{head_own}
use Rattle.driver_laws.proofs.OwnLaws.{script_own}
use Rattle.driver_laws.proofs.PassLaws.{tracks_stay}
use Rattle.driver_laws.proofs.SoundLaws.{entry_of, first_sound, stays_sound}
use Rattle.driver_laws.proofs.AsideLaws.{left_before, takes}
use Rattle.driver_laws.proofs.StageLaws.{first_pages, pages_kept}
use Rattle.driver_laws.proofs.StillLaws.{holds_here}
use Rattle.driver_laws.proofs.WithinLaws.{HoldsNonePast, none_past, script_load, within_past}
use Rattle.sgx_rules.specs.declared.entries.Action.TheVariants as actions
use Rattle.sgx_types.specs.declared.names.Actor.TheVariants as actors
use Rattle.sgx_rules.specs.declared.entries.Look.TheVariants as looks

-- ---- what makes a page

absent_is : (p : Place) → not (is_absent p) ≡ false → p ≡ Absent
absent_is Absent h = refl
absent_is (Here n) h = cc
absent_is (Leaving n) h = cc
absent_is (Loading n slot) h = cc
absent_is (Away slot) h = cc

-- a page that is made was nowhere
made_absent : (past : List Entry) (e : Entry) (g : Page) → IsSound past → MakesPage past e g → place past g ≡ Absent
made_absent past e g s new = absent_is (place past g) (sym (s.made g) ∙ new.fresh)

-- a number of an enclave is not 0
enclave_some : (e : ℕ) → is_enclave e ≡ true → is_va_page (secs_page e) ≡ false
enclave_some e is = by_test (e == 0) refl
  where
    by_test : (b : Bool) → (e == 0) ≡ b → b ≡ false
    by_test true zero = absurd (false≢true (ap is_enclave (sym (eqb-true e 0 zero)) ∙ is))
    by_test false zero = refl

-- the row of `create` takes an enclave's number alone
created_some : (k : Making) (past : List Entry) (a : Actor) (e : ℕ) (f : Frame) (base size : ℕ)
    → NoneHolds (row_at k past a (actions.Create e f base size)) → is_va_page (secs_page e) ≡ false
created_some k past a e f base size row =
    let beyond = (sight_at k.frames past f.0).is_beyond in
    enclave_some e (not-false (is_enclave e) (neither beyond (not (is_enclave e))
    (neither (beyond || not (is_enclave e)) (not (is_lawful base size)) row.0).0).1)

-- what is added is a TCS or REG page
added_own : (past : List Entry) (a : Actor) (enclave number : ℕ) (f : Frame) (kind : Kind) (perm : Perm) (init : PageInit)
    (answer : Answer)
    → MakesPage past (entry_of a (Did (actions.Add enclave number f kind perm init) answer)) (page_at enclave number)
    → is_own_page (page_at enclave number) ≡ true
added_own past a enclave number f kind perm init answer new = by_name (enclave == 0) (number == SECS_NUMBER) new.fresh new.there
  where
    by_name : (va secs : Bool)
        → (if va then nat_lt number (vas_made past) else if not va && secs then is_some (created past enclave)
        else is_some (added past (page_at enclave number))) ≡ false
        → (if va then nat_lt number (vas_made past) else if not va && secs then is_some (created past enclave)
        else is_some (added (entry_of a (Did (actions.Add enclave number f kind perm init) answer) ∷ past) (page_at enclave number))) ≡ true
        → (not va && not secs) ≡ true
    by_name true secs fresh there = absurd (false≢true (sym fresh ∙ there))
    by_name false true fresh there = absurd (false≢true (sym fresh ∙ there))
    by_name false false fresh there = refl

-- ---- enclaves that are initialised

abbrev is_ready : Option FlatEnclave → Bool
is_ready None = false
is_ready (Some x) = x.is_init

ready_marked : (o : Option FlatEnclave) → is_some o ≡ true → is_ready (as_initialised o) ≡ true
ready_marked None h = cc
ready_marked (Some x) h = refl

ready_some : (o : Option FlatEnclave) → is_ready o ≡ true → is_some o ≡ true
ready_some None h = cc
ready_some (Some x) h = refl

-- an enclave is initialised only where it was created
init_there : (o : Option FlatEnclave) (secs : SecsSight) → NoneHolds (init_row (enclave_sight_of o) secs) → is_some o ≡ true
init_there None secs row = cc
init_there (Some x) secs row = refl

-- one that was initialised is so in flat memory
init_ready : (k : Making) (past : List Entry) (n : ℕ) → Along (RefusalRule k) past → is_initialised past n ≡ true
    → is_ready (created past n) ≡ true
init_ready k [] n refusals h = cc
init_ready k (e ∷ past) n refusals h = by_event e.event refusals.0 h (init_ready k past n refusals.1)
  where
    by_event : (ev : Event) → RefusalRule k past (entry_of e.actor ev) → (is_init_of n ev || is_initialised past n) ≡ true
        → (is_initialised past n ≡ true → is_ready (created past n) ≡ true) → is_ready (created_by ev n (created past n)) ≡ true
    by_event (Did (actions.Create enclave f base size) answer) refusal is before = by_test (n == enclave) refl (before is)
      where
        by_test : (b : Bool) → (n == enclave) ≡ b → is_ready (created past n) ≡ true
            → is_ready (if b then Some (record { base = base; size = size; is_init = false }) else created past n) ≡ true
        by_test true same ready =
            let row = none_holds (row_at k past e.actor (actions.Create enclave f base size)) refusal.0 in
            let none = sym (sees_created k past refusals.1 enclave) ∙ row.1.0 in
            absurd (false≢true (sym none ∙ ap (λ m. is_some (created past m)) (sym (eqb-true n enclave same))
            ∙ ready_some (created past n) ready))
        by_test false same ready = ready
    by_event (Did (actions.Init enclave expect) answer) refusal is before = by_test (n == enclave) refl
      where
        row : NoneHolds (row_at k past e.actor (actions.Init enclave expect))
        row = none_holds (row_at k past e.actor (actions.Init enclave expect)) refusal.0

        there : is_some (created past enclave) ≡ true
        there =
            sym (sees_created k past refusals.1 enclave)
            ∙ init_there ((flat past).enclaves enclave) (secs_sight_at k.frames past enclave) row

        other : (c : Bool) → (enclave == n) ≡ c → (n == enclave) ≡ false → (c || is_initialised past n) ≡ true
            → is_initialised past n ≡ true
        other true same apart_from k = absurd (false≢true (sym apart_from ∙ eq-eqb n enclave (sym (eqb-true enclave n same))))
        other false same apart_from k = k

        by_test : (b : Bool) → (n == enclave) ≡ b → is_ready (if b then as_initialised (created past n) else created past n) ≡ true
        by_test true same =
            ready_marked (created past n) (ap (λ m. is_some (created past m)) (eqb-true n enclave same) ∙ there)
        by_test false same = before (other (enclave == n) refl same is)
    by_event _ refusal is before = before is

-- the row of `add` takes no enclave that was initialised, nor one whose SECS is away
record IsOpen (o : Option FlatEnclave) (secs : SecsSight) : Type 0 where
  pub ready : is_ready o ≡ false
  pub there : secs.is_away ≡ false

add_open : (number : ℕ) (kind : Kind) (perm : Perm) (init : PageInit) (o : Option FlatEnclave) (secs : SecsSight) (is_added : Bool)
    (v : FrameSight) → NoneHolds (add_row number kind perm init (enclave_sight_of o) secs is_added v) → IsOpen o secs
add_open number kind perm init None secs is_added v row = cc
add_open number kind perm init (Some x) secs is_added v row = record { ready = row.1.1.1.0; there = row.1.0 }

-- ---- where a page stands

-- a page that stands in a frame is here, or leaves it
pub stands_where : (p : Place) (n : ℕ) → stands_in p n ≡ true → (is_here p ≡ true) ⊎ (p ≡ Leaving n)
stands_where (Here m) n h = inl refl
stands_where (Leaving m) n h = inr (ap Leaving (eqb-true m n h))
stands_where Absent n h = cc
stands_where (Loading m slot) n h = cc
stands_where (Away slot) n h = cc

is_where : (past : List Entry) (g : Page) (n : ℕ) → IsSound past → stands (content past n) g ≡ true
    → (is_here (place past g) ≡ true) ⊎ (place past g ≡ Leaving n)
is_where past g n s h = stands_where (place past g) n (sym (s.places.frames g n) ∙ h)

secs_of_is : (c : Content) (enclave : ℕ) → is_secs_of c enclave ≡ true → stands c (secs_page enclave) ≡ true
secs_of_is (SecsOf e) enclave h =
    ap (λ m. same_page (secs_page m) (secs_page enclave)) (eqb-true e enclave h) ∙ same_page-refl (secs_page enclave)
secs_of_is _ enclave h = cc

-- a SECS that is not away stands in a frame
secs_stands : (past : List Entry) (frames enclave : ℕ) → (secs_sight_at frames past enclave).is_away ≡ false
    → (n : ℕ) × (stands (content past n) (secs_page enclave) ≡ true)
secs_stands past frames enclave there = by_found (secs_frame frames (content past) enclave) refl there
  where
    by_found : (o : Option ℕ) → secs_frame frames (content past) enclave ≡ o → (secs_seen (is_sealing past) o).is_away ≡ false
        → (n : ℕ) × (stands (content past n) (secs_page enclave) ≡ true)
    by_found None is k = cc
    by_found (Some n) is k =
        (n, secs_of_is (content past n) enclave (is_least (λ m. is_secs_of (content past m) enclave) frames n is).passes)

-- ---- ends of loads and write-outs

ends_in : (past : List Entry) (f : ℕ) (page : Page) → IsSound past → EndsIn past f page
    → (slot : VaSlot) × (place past page ≡ Loading f slot)
ends_in past f page s e = (
  e.start.slot,
  loading_is (place past page) f e.start.slot (sym (s.places.loads page f) ∙ ap (λ o. load_slot o page) e.opened
      ∙ found e.start.loads e.loads),
)
  where
    found : (o : Option Page) → o ≡ Some page
        → slot_if (is_load_of (Some (record e.start { loads = o })) page) e.start.slot ≡ Some e.start.slot
    found None h = cc
    found (Some g) h = let same : g ≡ page = cc in rw (same, same_page-refl page) refl

-- the page that is written out leaves its frame
ends_out : (past : List Entry) (f : ℕ) (page : Page) (x : Start) → IsSound past → open_start past f ≡ Some x → x.loads ≡ None
    → page_there (content past f) ≡ Some page → place past page ≡ Leaving f
ends_out past f page x s opened writes held =
    let w = s.places.writes f (ap is_write_start opened ∙ ap (λ o. not (is_some o)) writes) in
    let same =
    one_there (content past f) w.0 page (holds_here past w.0 (Leaving f) f s w.1 (eq-eqb f f refl)) (there_is (content past f) page held)
    in ap (place past) (sym same) ∙ w.1

-- ---- slots that are free

abbrev IsEmpty : List Entry → VaSlot → Type 0
IsEmpty past slot = (version_in past slot ≡ 0) × IsIdle past slot

-- a page's slot is not empty
used_slot : (k : Making) (past : List Entry) (slot : VaSlot) → 1 ≤ k.first_version → IsSound past → KeepsMoves k past → IsEmpty past slot
    → (g : Page) → slot_of past g ≡ Some slot → ⊥
used_slot k past slot positive s keeps empty g at = by_place (place past g) refl at
  where
    drawn : (o : Option Out) → last_out past g ≡ o → version_out o ≡ Some (version_in past slot) → ⊥
    drawn None is told = cc
    drawn (Some o) is told =
        let low = ((drawn_once k past keeps).ended (record { page = g; version = o.version }) (out_is_gone past g o is)).0 in
        let same : o.version ≡ version_in past slot = cc in
        let zero_version : version_in past slot ≡ 0 = empty.0 in
        absurd (omega (arith, low, same, zero_version, positive))

    started : (n : ℕ) (o : Option Start) → open_start past n ≡ o → slot_of_start o ≡ Some slot → ⊥
    started n None is told = cc
    started n (Some x) is told =
        let same : x.slot ≡ slot = cc in idle_apart past slot n x empty.1 is same

    by_place : (p : Place) → place past g ≡ p → slot_at (open_start past) p ≡ Some slot → ⊥
    by_place Absent here told = cc
    by_place (Here n) here told = cc
    by_place (Leaving n) here told = started n (open_start past n) refl told
    by_place (Loading n t) here told =
        let same : t ≡ slot = cc in drawn (last_out past g) refl (s.versions g slot (rw here (ap Some same)))
    by_place (Away t) here told =
        let same : t ≡ slot = cc in drawn (last_out past g) refl (s.versions g slot (rw here (ap Some same)))

-- the slot of a write-out that its row does not refuse is found in a version array page that stands in another frame, and is empty
record IsEmptyAt (past : List Entry) (f : ℕ) (at : SlotAt) : Type 0 where
  pub slot : VaSlot
  pub array : content past at.frame.0 ≡ IsVa slot.va
  pub found : slot_found (content past) at ≡ Some slot
  pub apart : (f == at.frame.0) ≡ false
  pub empty : IsEmpty past slot

empty_row : (k : Making) (past : List Entry) (f : Frame) (at : SlotAt) (is_spent : Bool) → KeepsMoves k past
    → NoneHolds (ewbstart_row (sight_at k.frames past f.0) (use_sight_at k.frames past f.0 at) (slot_sight_at k.frames past at)
    (drain_sight_at k.first_epoch past f.0) is_spent) → IsEmptyAt past f.0 at
empty_row k past f at is_spent keeps none = record {
  slot = slot;
  array = there.1;
  found = found;
  apart = kind.1;
  empty = (
    ap (version_of past) (sym found) ∙ eqb-true (version_at past at) 0 (not-false (version_at past at == 0) none.1.1.1.1.1.1.1.0),
    not_busy_idle k.frames past slot (starts_apart k past keeps).below (ap (is_busy_of k.frames past) (sym found) ∙ idle),
  );
}
  where
    kind : (not (is_va (content past at.frame.0)) ≡ false) × ((f.0 == at.frame.0) ≡ false)
    kind = neither (not (is_va (content past at.frame.0))) (f.0 == at.frame.0) none.1.1.1.0

    there : (n : ℕ) × (content past at.frame.0 ≡ IsVa n)
    there = va_there (content past at.frame.0) (not-false (is_va (content past at.frame.0)) kind.0)

    slot : VaSlot
    slot = record { va = there.0; index = at.index }

    found : slot_found (content past) at ≡ Some slot
    found = ap (λ c. slot_in c at.index) there.1

    idle : is_busy_at k.frames past at ≡ false
    idle =
        (neither (is_busy (sight_at k.frames past f.0)) (is_busy_at k.frames past at)
        (neither (is_busy (sight_at k.frames past f.0) || is_busy_at k.frames past at) _ none.1.0).0).1

-- ---- all that is kept

-- a SECS leaves only once its enclave is initialised
abbrev LeavingAreInit : List Entry → Type 0
LeavingAreInit past = (e n : ℕ) → is_va_page (secs_page e) ≡ false → place past (secs_page e) ≡ Leaving n → is_initialised past e ≡ true

pub record IsKept (j : JobView) (past : List Entry) : Type 0 where
  pub sound : IsSound past
  pub tracks : KeepsTracks past (pass j past)
  pub pages : KeepsPages past (pass j past)
  pub past_epc : HoldsNonePast j.epc past
  pub inits : LeavingAreInit past

-- ---- what Age says of an entry

-- an entry of a kind that is the reclaimer's alone is one that is due to it
reclaimed : (j : JobView) (past : List Entry) (a : Actor) (ev : Event) → ScriptRule j past (entry_of a ev)
    → AgeRule j past (entry_of a ev) → is_reclaimers ev ≡ true
    → IsAhead j past (ahead_by (aside past) (due_with j past (outs j past))) ev
reclaimed j past a ev script age own =
    subst (λ (x : Actor). AgeOf j past (outs j past) x ev) (script_own j past (entry_of a ev) script own) age

-- a look is at the head of the list, or at a page that can leave
look_by : (j : JobView) (past : List Entry) (page : Page) (look : Look) (a : Aside) (due : Option Page) → IsSound past
    → ((g : Page) → due ≡ Some g → (is_own_page g ≡ false) × CanLeave past g) → IsAhead j past (ahead_by a due) (Age page look)
    → CanLook past page look
look_by j past page look NoneAside None s leaves h = by_look look
  where
    own : is_own_page page ≡ true
    own = head_own past page s h.look.head

    by_look : (l : Look) → CanLook past page l
    by_look looks.Taken = (λ mine. h.look.head, λ other. absurd (false≢true (sym other ∙ own)))
    by_look looks.Young = λ mine. h.look.head
    by_look looks.Held = λ mine. h.look.head
    by_look looks.NoRoom = λ mine. h.look.head
look_by j past page looks.Taken NoneAside (Some g) s leaves h =
    let it = leaves g refl in
    (λ own. absurd (false≢true (sym it.0 ∙ ap is_own_page (sym h) ∙ own)), λ other. subst (CanLeave past) (sym h) it.1)
look_by j past page looks.NoRoom NoneAside (Some g) s leaves h =
    λ own. absurd (false≢true (sym (leaves g refl).0 ∙ ap is_own_page (sym h) ∙ own))
look_by j past page _ NoneAside (Some g) s leaves h = absurd h
look_by j past page look (IsToGo g) due s leaves h = absurd h
look_by j past page look (IsGoing g) due s leaves h = absurd h

-- a start within a pass is of a page that is leaving
start_frame : (past : List Entry) (f : Frame) (at : SlotAt) (answer : Answer) (p : Pass)
    → InPass past p (Did (actions.EwbStart f at) answer) → (page : Page) × (place past page ≡ Leaving f.0)
start_frame past f at answer (Tries g rest form) h = (g, h)
start_frame past f at answer (Between works) h = absurd h
start_frame past f at answer (Scan left taken) h = absurd h
start_frame past f at answer (Blocking todo taken) h = absurd h

-- a start of a write-out is of a page that is leaving, and no version array page leaves another frame
record Starts (past : List Entry) (f : ℕ) : Type 0 where
  pub page : Page
  pub leaving : place past page ≡ Leaving f
  pub stay : (va n : ℕ) → place past (va_page va) ≡ Leaving n → (f == n) ≡ false → ⊥

start_by : (j : JobView) (past : List Entry) (f : Frame) (at : SlotAt) (answer : Answer) (a : Aside) (due : Option Page)
    → HasAside past a → IsAhead j past (ahead_by a due) (Did (actions.EwbStart f at) answer) → Starts past f.0
start_by j past f at answer NoneAside None k h =
    let w = start_frame past f at answer (pass j past) h.in_pass in
    record { page = w.0; leaving = w.1; stay = λ va n out other. false≢true (k (va_page va) n out) }
start_by j past f at answer NoneAside (Some g) k h = absurd h
start_by j past f at answer (IsToGo g) due k h = record { page = g; leaving = h; stay = other }
  where
    one : (n : ℕ) → Leaving f.0 ≡ Leaving n → f.0 ≡ n
    one n same = cc

    other : (va n : ℕ) → place past (va_page va) ≡ Leaving n → (f.0 == n) ≡ false → ⊥
    other va n out apart =
        let same = k.0.1 (va_page va) n out refl in
        false≢true (sym apart ∙ eq-eqb f.0 n (one n (sym h ∙ ap (place past) (sym same) ∙ out)))
start_by j past f at answer (IsGoing g) due k h = absurd h

-- ---- loads

-- the slot of a load that its row does not refuse is found where its page is here
record IsFoundHere (past : List Entry) (slot : VaSlot) (at : SlotAt) : Type 0 where
  pub found : slot_found (content past) at ≡ Some slot
  pub here : is_here (place past (va_page slot.va)) ≡ true

load_found : (past : List Entry) (slot : VaSlot) (at : SlotAt) → IsSound past → slot_here past slot ≡ Some at
    → is_va (content past at.frame.0) ≡ true → IsFoundHere past slot at
load_found past slot at s told array = by_place (place past (va_page slot.va)) refl told
  where
    there : (n : ℕ) × (content past at.frame.0 ≡ IsVa n)
    there = va_there (content past at.frame.0) array

    by_frame : (n : ℕ) → place past (va_page slot.va) ≡ Here n → at ≡ record { frame = frame_at n; index = slot.index }
        → IsFoundHere past slot at
    by_frame n is same = record {
      found =
          ap (λ c. slot_in c at.index) there.1
          ∙ ap (λ (g : Page). Some (record { va = g.number; index = at.index })) one
          ∙ ap (λ (x : SlotAt). Some (record { va = slot.va; index = x.index })) same;
      here = ap is_here is;
    }
      where
        stood : stands (content past at.frame.0) (va_page slot.va) ≡ true
        stood =
            holds_here past (va_page slot.va) (Here n) at.frame.0 s is
            (eq-eqb n at.frame.0 (ap (λ (x : SlotAt). x.frame.0) (sym same)))

        one : va_page there.0 ≡ va_page slot.va
        one = same_pages (va_page there.0) (va_page slot.va) (ap (λ c. stands c (va_page slot.va)) (sym there.1) ∙ stood)

    by_place : (p : Place) → place past (va_page slot.va) ≡ p → at_frame slot.index (frame_here p) ≡ Some at → IsFoundHere past slot at
    by_place (Here n) is h = by_frame n is (sym (same_Some (record { frame = frame_at n; index = slot.index }) at h))
    by_place Absent is h = cc
    by_place (Leaving n) is h = cc
    by_place (Loading n t) is h = cc
    by_place (Away t) is h = cc

-- ---- each entry can move its page

-- an entry that keeps the rules can move its page
can_move : (k : Making) (j : JobView) (past : List Entry) (e : Entry) → 1 ≤ k.first_version → IsKept j past → KeepsMoves k (e ∷ past)
    → FitsRule k.frames past e → ScriptRule j past e → AgeRule j past e → CanMove past e.event
can_move k j past e positive kept keeps fits script age = by_event e.event keeps.refusal.0 fits script age
  where
    s : IsSound past
    s = kept.sound

    before : KeepsMoves k past
    before = record { refusal = keeps.refusal.1; flat = keeps.flat.1; evict = keeps.evict.1; fresh = keeps.fresh.1 }

    same_told : (page other : Page) (v w : ℕ) (t u : List ℕ) → Moved page v t ≡ Moved other w u → page ≡ other
    same_told page other v w t u h = cc

    is_due : (g : Page) → due_with j past (outs j past) ≡ Some g → (is_own_page g ≡ false) × CanLeave past g
    is_due g is = (
      due_is_other j past (outs j past) (last_event past actors.Reclaimer) g is,
      due_leaves j past (outs j past) (last_event past actors.Reclaimer) g (within_past j.epc past s kept.past_epc) is,
    )

    -- the SECS of an enclave to which a page is added
    secs_here : (enclave : ℕ) → is_va_page (secs_page enclave) ≡ false
        → IsOpen ((flat past).enclaves enclave) (secs_sight_at k.frames past enclave) → is_here (place past (secs_page enclave)) ≡ true
    secs_here enclave some building = by_where (is_where past (secs_page enclave) stood.0 s stood.1)
      where
        stood : (n : ℕ) × (stands (content past n) (secs_page enclave) ≡ true)
        stood = secs_stands past k.frames enclave building.there

        by_where : (is_here (place past (secs_page enclave)) ≡ true) ⊎ (place past (secs_page enclave) ≡ Leaving stood.0)
            → is_here (place past (secs_page enclave)) ≡ true
        by_where (inl here) = here
        by_where (inr out) =
            absurd (false≢true (sym building.ready ∙ ap is_ready (sym (created_there k past before.refusal enclave))
            ∙ init_ready k past enclave before.refusal (kept.inits enclave stood.0 some out)))

    -- the page of the slot into which one is written out
    array_here : (f : ℕ) (at : SlotAt) (its : IsEmptyAt past f at) → Starts past f → is_here (place past (va_page its.slot.va)) ≡ true
    array_here f at its start =
        by_where (is_where past (va_page its.slot.va) at.frame.0 s
        (ap (λ c. stands c (va_page its.slot.va)) its.array ∙ same_page-refl (va_page its.slot.va)))
      where
        by_where : (is_here (place past (va_page its.slot.va)) ≡ true) ⊎ (place past (va_page its.slot.va) ≡ Leaving at.frame.0)
            → is_here (place past (va_page its.slot.va)) ≡ true
        by_where (inl here) = here
        by_where (inr out) = absurd (start.stay its.slot.va at.frame.0 out its.apart)

    by_event : (ev : Event) → RefusalRule k past (entry_of e.actor ev) → FitsRule k.frames past (entry_of e.actor ev)
        → ScriptRule j past (entry_of e.actor ev) → AgeRule j past (entry_of e.actor ev) → CanMove past ev
    by_event (Did (actions.Epa f) answer) refusal fit sc ag = (
      fit.1,
      made_absent past (entry_of e.actor (Did (actions.Epa f) answer)) (va_page (vas_made past)) s
          (epa_makes past e.actor f answer),
    )
    by_event (Did (actions.Create n f base size) answer) refusal fit sc ag =
        let row = none_holds (row_at k past e.actor (actions.Create n f base size)) refusal.0 in (
          fit.1,
          made_absent past (entry_of e.actor (Did (actions.Create n f base size) answer)) (secs_page n) s
              (create_makes k past e.actor n f base size answer before.refusal row),
          created_some k past e.actor n f base size row,
        )
    by_event (Did (actions.Add n number f kind perm init) answer) refusal fit sc ag =
        let row = none_holds (row_at k past e.actor (actions.Add n number f kind perm init)) refusal.0 in
        let new = add_makes k past e.actor n number f kind perm init answer before.refusal row in
        let own = added_own past e.actor n number f kind perm init answer new in
        let building =
        add_open number kind perm init ((flat past).enclaves n) (secs_sight_at k.frames past n)
        (is_some ((flat past).pages (page_at n number))) (sight_at k.frames past f.0) row in (
          fit.1,
          made_absent past (entry_of e.actor (Did (actions.Add n number f kind perm init) answer)) (page_at n number) s new,
          own,
          secs_here n (own_some n (number == SECS_NUMBER) own) building,
        )
      where
        own_some : (m : ℕ) (c : Bool) → (not (m == 0) && not c) ≡ true → (m == 0) ≡ false
        own_some m c h = by_test (m == 0) (both_true (not (m == 0)) (not c) h).0
          where
            by_test : (b : Bool) → not b ≡ true → b ≡ false
            by_test true x = absurd (false≢true x)
            by_test false x = refl
    by_event (Age page look) refusal fit sc ag =
        look_by j past page look (aside past) (due_with j past (outs j past)) s is_due (reclaimed j past e.actor (Age page look) sc ag refl)
    by_event (Did (actions.EwbStart f at) answer) refusal fit sc ag =
        let its =
        empty_row k past f at (next_version k.first_version past == 2 ^ 64) before
        (none_holds (row_at k past e.actor (actions.EwbStart f at)) refusal.0) in
        let start =
        start_by j past f at answer (aside past) (due_with j past (outs j past)) kept.pages.aside
        (reclaimed j past e.actor (Did (actions.EwbStart f at) answer) sc ag refl) in (
          (start.page, start.leaving),
          its.slot,
          its.found,
          array_here f.0 at its start,
          used_slot k past its.slot positive s before its.empty,
        )
    by_event (Did (actions.Ewb f) (Moved page version tag)) refusal fit sc ag =
        let out = refusal.1 in (
          ap (place past) (same_told page out.page version out.version tag out.tag out.told)
              ∙ ends_out past f.0 out.page out.start s out.opened out.writes out.held,
          (out.start, out.opened),
        )
    by_event (Did (actions.EldStart f page at) answer) refusal fit sc ag =
        let load = script_load j past e.actor f page at answer sc.next in
        let row = none_holds (row_at k past e.actor (actions.EldStart f page at)) refusal.0 in
        let its = load_found past load.slot at s load.found (not-false (is_va (content past at.frame.0)) row.1.1.1.1.1.1.0) in
        (fit.1, load.slot, load.away, its.found, its.here, load.secs)
    by_event (Did (actions.Eld f) (Moved page version tag)) refusal fit sc ag =
        let back = refusal.1 in
        let same = same_told page back.page version back.version tag back.tag back.told in
        let at = ends_in past f.0 back.page s back.ends in
        (at.0, ap (place past) same ∙ at.1)
    by_event (Refused (actions.Eld f) refusal) not_back fit sc ag =
        let at = ends_in past f.0 not_back.page s not_back.ends in (not_back.page, at.0, at.1)
    by_event (Did (actions.Ewb f) answer) refusal fit sc ag = absurd cc
    by_event (Did (actions.Eld f) answer) refusal fit sc ag = absurd cc
    by_event _ refusal fit sc ag = tt

-- ---- SECSs that leave

-- a SECS that is taken is due
taken_init : (j : JobView) (past : List Entry) (page : Page) (a : Aside) (due : Option Page) (e : ℕ) → IsSound past
    → is_va_page (secs_page e) ≡ false → (due ≡ Some (secs_page e) → is_initialised past e ≡ true) → page ≡ secs_page e
    → IsAhead j past (ahead_by a due) (Age page looks.Taken) → is_initialised past e ≡ true
taken_init j past page NoneAside None e s some init same h =
    absurd (false≢true (sym (ap is_own_page same ∙ other_secs e) ∙ head_own past page s h.look.head))
taken_init j past page NoneAside (Some g) e s some init same h = init (ap Some (sym h ∙ same))
taken_init j past page (IsToGo g) due e s some init same h = absurd h
taken_init j past page (IsGoing g) due e s some init same h = absurd h

inits_kept : (j : JobView) (past : List Entry) (e : Entry) → IsSound past → ScriptRule j past e → AgeRule j past e → LeavingAreInit past
    → LeavingAreInit (e ∷ past)
inits_kept j past e s script age before enclave n some out =
    by_case (left_before past e (secs_page enclave) n out)
  where
    by_event : (ev : Event) → ScriptRule j past (entry_of e.actor ev) → AgeRule j past (entry_of e.actor ev)
        → takes ev (secs_page enclave) ≡ true → is_initialised past enclave ≡ true
    by_event (Age page looks.Taken) sc ag is =
        taken_init j past page (aside past) (due_with j past (outs j past)) enclave s some
        (due_inits j past (outs j past) (last_event past actors.Reclaimer) enclave some) (same_pages page (secs_page enclave) is)
        (reclaimed j past e.actor (Age page looks.Taken) sc ag refl)
    by_event _ sc ag is = cc

    by_case : (place past (secs_page enclave) ≡ Leaving n) ⊎ (takes e.event (secs_page enclave) ≡ true)
        → (is_init_of enclave e.event || is_initialised past enclave) ≡ true
    by_case (inl was) = or_right (is_init_of enclave e.event) (is_initialised past enclave) (before enclave n some was)
    by_case (inr is) = or_right (is_init_of enclave e.event) (is_initialised past enclave) (by_event e.event script age is)

-- ---- all along

-- the entries without the last one
pub driven_before : (k : Making) (j : JobView) (e : Entry) (past : List Entry) → IsDriven k j (e ∷ past) → IsDriven k j past
driven_before k j e past d = record {
  moves = record {
    refusal = d.moves.refusal.1;
    flat = d.moves.flat.1;
    evict = d.moves.evict.1;
    fresh = d.moves.fresh.1;
  };
  fits = d.fits.1;
  script = d.script.1;
  age = d.age.1;
  kick = d.kick.1;
}

next_kept : (k : Making) (j : JobView) (e : Entry) (past : List Entry) → IsDriven k j (e ∷ past) → IsKept j past → CanMove past e.event
    → IsKept j (e ∷ past)
next_kept k j e past d kept can = record {
  sound = stays_sound past e can kept.sound;
  tracks =
      tracks_stay j past (outs j past) e kept.sound can (try_tells k past e d.moves.refusal.0) (script_own j past e d.script.0) d.age.0
      d.kick.0 kept.tracks;
  pages = pages_kept j past (outs j past) e kept.sound can (script_own j past e d.script.0) d.age.0 d.kick.0 kept.pages;
  past_epc = none_past j past e kept.sound can d.script.0 d.age.0 kept.past_epc;
  inits = inits_kept j past e kept.sound d.script.0 d.age.0 kept.inits;
}

driven_kept : (k : Making) (j : JobView) (past : List Entry) → 1 ≤ k.first_version → IsDriven k j past → IsKept j past
driven_kept k j [] positive d = record {
  sound = first_sound;
  tracks = λ n p low. refl;
  pages = first_pages j;
  past_epc = λ n beyond. refl;
  inits = λ e n some out. cc;
}
driven_kept k j (e ∷ past) positive d =
    let kept = driven_kept k j past positive (driven_before k j e past d) in
    next_kept k j e past d kept (can_move k j past e positive kept d.moves d.fits.0 d.script.0 d.age.0)

-- each entry of a history can move its page
pub driven_can : (k : Making) (j : JobView) (e : Entry) (past : List Entry) → 1 ≤ k.first_version → IsDriven k j (e ∷ past)
    → CanMove past e.event
driven_can k j e past positive d =
    can_move k j past e positive (driven_kept k j past positive (driven_before k j e past d)) d.moves d.fits.0 d.script.0 d.age.0

pub driven_sound : (k : Making) (j : JobView) (past : List Entry) → 1 ≤ k.first_version → IsDriven k j past
    → IsSound past × KeepsTracks past (pass j past)
driven_sound k j past positive d = let kept = driven_kept k j past positive d in (kept.sound, kept.tracks)

pub driven_pages : (k : Making) (j : JobView) (past : List Entry) → 1 ≤ k.first_version → IsDriven k j past → KeepsPages past (pass j past)
driven_pages k j past positive d = (driven_kept k j past positive d).pages
