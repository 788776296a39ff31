-- One entry more keeps places, the list and the slots sound.
use Rattle.std.proofs.Common.{◌≡◌, ℕ, ◌+◌, ◌<◌, ◌==◌, ◌&&◌, ◌++◌, not, nat_lt, Bool, true, false, if◌then◌else◌, refl, sym, ◌∙◌, ap, drop}
use Rattle.std.proofs.Common.{subst, List, [], ◌∷◌, Option, Some, None, is_some, arith, length}
use Rattle.std.proofs.lemmas.Bool.{eq-eqb, eqb-true, false≢true}
use Rattle.std.proofs.lemmas.Option.{none-some}
use Rattle.sgx_types.proofs.Truths.{both_true}
use Rattle.sgx_rules.specs.Slots.{is_of_va, open_slot, slot_of as slot_of_start, version_in}
use Rattle.sgx_rules.specs.Fresh.{last_out}
use Rattle.sgx_rules.specs.declared.entries.Action.TheVariants.{Add, Create, Eld, EldStart, Epa, Ewb, EwbStart, Init}
use Rattle.sgx_types.specs.declared.names.Actor.{Actor}
use Rattle.sgx_rules.specs.declared.entries.Answer.{Answer}
use Rattle.sgx_rules.specs.declared.entries.Answer.TheVariants.{Moved}
use Rattle.sgx_rules.specs.declared.entries.Entry.{Entry}
use Rattle.sgx_rules.specs.declared.entries.Event.{Event}
use Rattle.sgx_rules.specs.declared.entries.Event.TheVariants.{Age, Did, Refused}
use Rattle.sgx_rules.specs.declared.entries.Look.{Look}
use Rattle.sgx_types.specs.declared.lawful.PageInit.{PageInit}
use Rattle.sgx_types.specs.declared.names.Frame.{Frame}
use Rattle.sgx_types.specs.declared.names.Kind.{Kind}
use Rattle.sgx_types.specs.declared.names.Page.{Page}
use Rattle.sgx_types.specs.declared.names.Perm.{Perm}
use Rattle.sgx_types.specs.declared.names.SlotAt.{SlotAt}
use Rattle.sgx_types.specs.declared.names.VaSlot.{VaSlot}
use Rattle.sgx_rules.specs.declared.refusals.Refusal.{Refusal}
use Rattle.sgx_rules.specs.inner.Enclaves.{created}
use Rattle.sgx_rules.specs.Flat.{FlatEnclave, as_initialised}
use Rattle.sgx_rules.specs.Table.{is_lawful_access, is_own}
use Rattle.sgx_rules.specs.Frames.{added, Content, content, Free, Holds, is_child, is_this, IsLoading, IsVa, reloaded, SecsOf}
use Rattle.sgx_rules.specs.Frames.{vas_made}
use Rattle.sgx_types.specs.Pages.{is_own_page, is_secs_page, is_va_page, page_at, same_page, secs_page, va_page}
use Rattle.sgx_rules.specs.Starts.{open_start, Start, started, version_told}
use Rattle.sgx_rules.specs.inner.Starts.{is_load_of}
use Rattle.sgx_types.proofs.Pages.{same_page-refl, same_pages}
use Rattle.sgx_rules.specs.declared.entries.AccessOp.{AccessOp}
use Rattle.driver_rules.specs.Ages.{head_of}
use Rattle.driver_laws.specs.inner.Kinds.{CanMove}
use Rattle.driver_rules.specs.Places.{Absent, active, after_look, Away, back_from, comes_into, gone_to, Here, is_here, leaves, Leaving}
use Rattle.driver_rules.specs.Places.{Loading, looked_at, Place, place, to_tail}
use Rattle.driver_rules.specs.Turns.{load_of}
use Rattle.driver_rules.proofs.ReclaimLaws.{other_secs}
use Rattle.driver_laws.specs.inner.Sound.{ArraysAreHere, is_absent, IsSound, ListIsHere, load_slot, once_listed, PlacesAreFrames}
use Rattle.driver_laws.specs.inner.Sound.{slot_at, slot_if, slot_loading, slot_outside, SlotsAreApart, times, waiting}
use Rattle.driver_laws.proofs.HereLaws.{arrays_closed, arrays_made, arrays_more, arrays_opened, arrays_taken, child_back, held_back}
use Rattle.driver_laws.proofs.HereLaws.{held_put, here_more, secs_more, secs_put, secs_taken}
use Rattle.driver_laws.proofs.ListLaws.{list_beside, list_longer, list_same, list_shorter, list_turned}
use Rattle.driver_laws.proofs.MadeLaws.{back_as, made_add, made_create, made_epa, own_added}
use Rattle.driver_laws.proofs.PlaceLaws.{of_same, put_back, put_here, put_loading, put_looked, put_out, put_refused, put_starting}
use Rattle.driver_laws.proofs.SlotLaws.{apart_back, apart_here, apart_loading, apart_out, apart_refused, apart_starting, apart_taken}
use Rattle.driver_laws.proofs.SlotLaws.{none_open, outside_here, outside_loading, outside_refused, outside_taken, versions_back}
use Rattle.driver_laws.proofs.SlotLaws.{versions_less, versions_out}
use Rattle.sgx_rules.specs.declared.entries.Look.TheVariants as looks

-- an entry of some actor
abbrev pub entry_of : Actor → Event → Entry
entry_of actor event = record { actor = actor; event = event }

held_page : {a b : Page} {k l : Kind} {m p : Perm} → Holds a k m ≡ Holds b l p → a ≡ b
held_page h = cc

-- ---- a page comes into a frame for the first time

pub sound_epa : (past : List Entry) (a : Actor) (f : Frame) (answer : Answer) → CanMove past (Did (Epa f) answer) → IsSound past
    → IsSound (entry_of a (Did (Epa f) answer) ∷ past)
sound_epa past a f answer can s = record {
  places = put_here (place past) (content past) (open_start past) f.0 (va_page (vas_made past)) (IsVa (vas_made past)) s.places can.0 can.1
      (λ g. refl) refl;
  list = list_beside (active past) (place past) (λ g. if same_page (va_page (vas_made past)) g then Here f.0 else place past g)
      (va_page (vas_made past)) s.list refl (λ g other. ap (λ b. if b then Here f.0 else place past g) other);
  apart = apart_here (place past) (open_start past) (va_page (vas_made past)) f.0 s.apart;
  versions =
      versions_less (place past) (λ g. if same_page (va_page (vas_made past)) g then Here f.0 else place past g) (last_out past)
      (version_in past) s.versions (outside_here (place past) (va_page (vas_made past)) f.0);
  made = made_epa (place past) f.0 (vas_made past) (λ n. is_some (created past n)) (λ g. is_some (added past g)) s.made;
  held = held_put (content past) f.0 (IsVa (vas_made past)) s.held (λ p k m h. absurd (false≢true (ap is_own h)));
  added = s.added;
  secs = secs_more (place past) (content past) f.0 (va_page (vas_made past)) (IsVa (vas_made past)) s.secs
      (λ e some child. absurd (false≢true child));
  arrays = arrays_made (place past) (open_start past) (vas_made past) f.0 s.arrays;
}

pub sound_create : (past : List Entry) (a : Actor) (e : ℕ) (f : Frame) (base size : ℕ) (answer : Answer)
    → CanMove past (Did (Create e f base size) answer) → IsSound past → IsSound (entry_of a (Did (Create e f base size) answer) ∷ past)
sound_create past a e f base size answer can s = record {
  places = put_here (place past) (content past) (open_start past) f.0 (secs_page e) (SecsOf e) s.places can.0 can.1 (λ g. refl) refl;
  list = list_beside (active past) (place past) (λ g. if same_page (secs_page e) g then Here f.0 else place past g)
      (secs_page e) s.list (other_secs e) (λ g other. ap (λ b. if b then Here f.0 else place past g) other);
  apart = apart_here (place past) (open_start past) (secs_page e) f.0 s.apart;
  versions =
      versions_less (place past) (λ g. if same_page (secs_page e) g then Here f.0 else place past g) (last_out past)
      (version_in past) s.versions (outside_here (place past) (secs_page e) f.0);
  made = made_create (place past) f.0 (vas_made past) e (λ n. is_some (created past n))
      (λ n. is_some (if n == e then Some (record { base = base; size = size; is_init = false }) else created past n))
      (λ g. is_some (added past g)) can.2
      (rw (eq-eqb e e refl) refl)
      (λ n other. ap (λ b. is_some (if b then Some (record { base = base; size = size; is_init = false }) else created past n)) other)
      s.made;
  held = held_put (content past) f.0 (SecsOf e) s.held (λ p k m h. absurd (false≢true (ap is_own h)));
  added = s.added;
  secs = secs_more (place past) (content past) f.0 (secs_page e) (SecsOf e) s.secs (λ n some child. absurd (false≢true child));
  arrays = arrays_more (place past) (open_start past) (vas_made past) (secs_page e) f.0 s.arrays;
}

pub sound_add : (past : List Entry) (a : Actor) (e n : ℕ) (f : Frame) (kind : Kind) (perm : Perm) (init : PageInit) (answer : Answer)
    → CanMove past (Did (Add e n f kind perm init) answer) → IsSound past
    → IsSound (entry_of a (Did (Add e n f kind perm init) answer) ∷ past)
sound_add past a e n f kind perm init answer can s = record {
  places = put_here (place past) (content past) (open_start past) f.0 (page_at e n) (Holds (page_at e n) kind perm) s.places can.0 can.1
      (λ g. refl) refl;
  list = list_longer (active past) (place past) (page_at e n) f.0 s.list can.2 (ap is_here can.1);
  apart = apart_here (place past) (open_start past) (page_at e n) f.0 s.apart;
  versions =
      versions_less (place past) (λ g. if same_page (page_at e n) g then Here f.0 else place past g) (last_out past)
      (version_in past) s.versions (outside_here (place past) (page_at e n) f.0);
  made = made_add (place past) f.0 (vas_made past) (page_at e n) (λ m. is_some (created past m)) (λ g. is_some (added past g))
      (λ g. is_some (if same_page (page_at e n) g then Some (kind, perm) else added past g)) can.2
      (rw (same_page-refl (page_at e n)) refl)
      (λ g other. ap (λ b. is_some (if b then Some (kind, perm) else added past g)) other) s.made;
  held = held_put (content past) f.0 (Holds (page_at e n) kind perm) s.held
      (λ p k m h. subst (λ (q : Page). is_own_page q ≡ true) (held_page h) can.2);
  added = λ g some. by_page g (same_page (page_at e n) g) refl some;
  secs = secs_more (place past) (content past) f.0 (page_at e n) (Holds (page_at e n) kind perm) s.secs
      (λ m some child. subst (λ x. is_here (place past (secs_page x)) ≡ true) (eqb-true e m child) can.3);
  arrays = arrays_more (place past) (open_start past) (vas_made past) (page_at e n) f.0 s.arrays;
}
  where
    by_page : (g : Page) (b : Bool) → same_page (page_at e n) g ≡ b → is_some (if b then Some (kind, perm) else added past g) ≡ true
        → is_own_page g ≡ true
    by_page g true is some = subst (λ (x : Page). is_own_page x ≡ true) (same_pages (page_at e n) g is) can.2
    by_page g false is some = s.added g some

-- ---- looks

-- where a page is that is here
pub frame_of_here : (p : Place) → is_here p ≡ true → (f : ℕ) × (p ≡ Here f)
frame_of_here (Here f) h = (f, refl)
frame_of_here Absent h = cc
frame_of_here (Leaving f) h = cc
frame_of_here (Loading f slot) h = cc
frame_of_here (Away slot) h = cc

-- the head of the list is here, and a TCS or REG page
pub head_here : (pages : List Page) (at : Page → Place) (a : Page) → ListIsHere pages at → head_of pages ≡ Some a
    → (f : ℕ) × (at a ≡ Here f)
head_here [] at a h head = cc
head_here (x ∷ xs) at a h head =
    frame_of_here (at a)
    (here (is_own_page a) (is_here (at a)) (subst (λ y. (if same_page y a then 1 else 0) + times xs a ≡ once_listed a (at a)) same (h a)))
  where
    same : x ≡ a
    same = cc

    here : (own b : Bool) → (if same_page a a then 1 else 0) + times xs a ≡ (if own then (if b then 1 else 0) else 0) → b ≡ true
    here true true k = refl
    here true false k = absurd (omega (arith, rw (same_page-refl a) at k))
    here false b k = absurd (omega (arith, rw (same_page-refl a) at k))

absent-leaves : (p : Place) → is_absent (leaves p) ≡ is_absent p
absent-leaves Absent = refl
absent-leaves (Here n) = refl
absent-leaves (Leaving n) = refl
absent-leaves (Loading n slot) = refl
absent-leaves (Away slot) = refl

either_there : (b : Bool) (p : Place) → is_absent (if b then leaves p else p) ≡ is_absent p
either_there true p = absent-leaves p
either_there false p = refl

-- what a page that leaves is
record IsLeft (past : List Entry) (page : Page) : Type 0 where
  frame : ℕ
  here : place past page ≡ Here frame
  children : is_secs_page page ≡ true → (n : ℕ) → is_child (content past n) page.enclave ≡ false
  later : is_va_page page ≡ true → (page.number == 0) ≡ false
  unnamed : is_va_page page ≡ true → (n : ℕ) (x : Start) → open_start past n ≡ Some x → (x.slot.va == page.number) ≡ false

-- an own page is neither
pub own_none : (page : Page) → is_own_page page ≡ true → (is_secs_page page ≡ false) × (is_va_page page ≡ false)
own_none page own = by_tests (page.enclave == 0) (page.number == 4294967295) own
  where
    by_tests : (b c : Bool) → (not b && not c) ≡ true → ((not b && c) ≡ false) × (b ≡ false)
    by_tests false false h = (refl, refl)
    by_tests false true h = absurd (false≢true h)
    by_tests true c h = absurd (false≢true h)

left_is : (past : List Entry) (page : Page) → CanMove past (Age page looks.Taken) → IsSound past → IsLeft past page
left_is past page can s = by_own (is_own_page page) refl
  where
    by_own : (b : Bool) → is_own_page page ≡ b → IsLeft past page
    by_own true own =
        let here = head_here (active past) (place past) page s.list (can.0 own) in
        let none = own_none page own in
        record {
          frame = here.0;
          here = here.1;
          children = λ secs. absurd (false≢true (sym none.0 ∙ secs));
          later = λ va. absurd (false≢true (sym none.1 ∙ va));
          unnamed = λ va. absurd (false≢true (sym none.1 ∙ va));
        }
    by_own false other =
        let can_leave = can.1 other in
        let here = frame_of_here (place past page) can_leave.here in
        record {
          frame = here.0;
          here = here.1;
          children = can_leave.children;
          later = can_leave.first;
          unnamed = λ va n x now. sym (ap (λ o. is_of_va (slot_of_start o) page.number) now) ∙ can_leave.named va n;
        }

pub sound_taken : (past : List Entry) (a : Actor) (page : Page) → CanMove past (Age page looks.Taken) → IsSound past
    → IsSound (entry_of a (Age page looks.Taken) ∷ past)
sound_taken past a page can s =
    let left = left_is past page can s in
    record {
      places = put_looked (place past) (content past) (open_start past) page looks.Taken s.places;
      list = by_own (is_own_page page) refl;
      apart =
          apart_taken (place past) (open_start past) page left.frame s.apart left.here
          (none_open (place past) (content past) (open_start past) page left.frame s.places left.here);
      versions =
          versions_less (place past) (λ g. if same_page page g then leaves (place past g) else place past g) (last_out past)
          (version_in past) s.versions (outside_taken (place past) page);
      made = λ g. s.made g ∙ ap not (sym (either_there (same_page page g) (place past g)));
      held = s.held;
      added = s.added;
      secs = secs_taken (place past) (content past) page s.secs left.children;
      arrays = arrays_taken (place past) (open_start past) (vas_made past) page s.arrays left.later left.unnamed;
    }
  where
    by_own : (b : Bool) → is_own_page page ≡ b
        → ListIsHere (if b then drop 1 (active past) else active past)
        (λ g. if same_page page g then leaves (place past g) else place past g)
    by_own true own = list_shorter (active past) (place past) page s.list (can.0 own)
    by_own false other =
        list_beside (active past) (place past) (λ g. if same_page page g then leaves (place past g) else place past g) page s.list other
        (λ g is. ap (λ b. if b then leaves (place past g) else place past g) is)

-- another look leaves places as they are
sound_turned : (past : List Entry) (a : Actor) (page : Page) (look : Look) → ((p : Place) → after_look look p ≡ p)
    → looked_at look (active past) ≡ to_tail (active past) → IsSound past
    → IsSound (entry_of a (Age page look) ∷ past)
sound_turned past a page look keeps turned s = record {
  places = put_looked (place past) (content past) (open_start past) page look s.places;
  list = λ g. by_own g (is_own_page page) ∙ ap (once_listed g) (sym (same g));
  apart =
      λ g h slot at_g at_h. s.apart g h slot (sym (ap (slot_at (open_start past)) (same g)) ∙ at_g)
      (sym (ap (slot_at (open_start past)) (same h)) ∙ at_h);
  versions = λ g slot k. s.versions g slot (sym (ap slot_outside (same g)) ∙ k);
  made = λ g. s.made g ∙ ap (λ p. not (is_absent p)) (sym (same g));
  held = s.held;
  added = s.added;
  secs = λ n e some child. ap is_here (same (secs_page e)) ∙ s.secs n e some child;
  arrays = record {
    first = λ some. ap is_here (same (va_page 0)) ∙ s.arrays.first some;
    named = λ n x now. ap is_here (same (va_page x.slot.va)) ∙ s.arrays.named n x now;
  };
}
  where
    same : (g : Page) → (if same_page page g then after_look look (place past g) else place past g) ≡ place past g
    same g = by_page (same_page page g)
      where
        by_page : (b : Bool) → (if b then after_look look (place past g) else place past g) ≡ place past g
        by_page true = keeps (place past g)
        by_page false = refl

    by_own : (g : Page) (b : Bool) → times (if b then looked_at look (active past) else active past) g ≡ once_listed g (place past g)
    by_own g true = ap (λ pages. times pages g) turned ∙ list_turned (active past) (place past) s.list g
    by_own g false = s.list g

pub sound_age : (past : List Entry) (a : Actor) (page : Page) (look : Look) → CanMove past (Age page look) → IsSound past
    → IsSound (entry_of a (Age page look) ∷ past)
sound_age past a page looks.Taken can s = sound_taken past a page can s
sound_age past a page looks.Young can s = sound_turned past a page looks.Young (λ p. refl) refl s
sound_age past a page looks.Held can s = sound_turned past a page looks.Held (λ p. refl) refl s
sound_age past a page looks.NoRoom can s = sound_turned past a page looks.NoRoom (λ p. refl) refl s

-- ---- a page goes out

pub sound_ewbstart : (past : List Entry) (a : Actor) (f : Frame) (to : SlotAt) (answer : Answer)
    → CanMove past (Did (EwbStart f to) answer) → IsSound past → IsSound (entry_of a (Did (EwbStart f to) answer) ∷ past)
sound_ewbstart past a f to answer can s = record {
  places =
      subst (λ o. PlacesAreFrames (place past) (content past) (λ n. if f.0 == n then started a (length past) to answer None o
      else open_start past n)) (sym can.2)
      (put_starting (place past) (content past) (open_start past) f.0 can.0.0 can.1 to (version_told answer)
      (length past) a s.places can.0.1);
  list = s.list;
  apart =
      subst (λ o. SlotsAreApart (place past) (λ n. if f.0 == n then started a (length past) to answer None o else open_start past n))
      (sym can.2)
      (apart_starting (place past) (content past) (open_start past) f.0 can.0.0 can.1 to (version_told answer) (length past) a
      s.places can.0.1 can.4 s.apart);
  versions = s.versions;
  made = s.made;
  held = s.held;
  added = s.added;
  secs = s.secs;
  arrays =
      subst (λ o. ArraysAreHere (place past) (λ n. if f.0 == n then started a (length past) to answer None o else open_start past n)
      (vas_made past)) (sym can.2)
      (arrays_opened (place past) (place past) (open_start past) (vas_made past) f.0
      (record { at = to; slot = can.1; version = version_told answer; loads = None; place = length past; actor = a }) s.arrays
      (λ g here. here) can.3);
}

-- what is so of a page and of where it goes is so of each page
pub by_same : (at : Page → Place) (to : Place → Place) (a : Page) (p : Place) {X : Type 0} (of : Place → X) → at a ≡ p → of (to p) ≡ of p
    → (g : Page) → of (if same_page a g then to (at g) else at g) ≡ of (at g)
by_same at to a p of here kept g = by_page (same_page a g) refl
  where
    by_page : (b : Bool) → same_page a g ≡ b → of (if b then to (at g) else at g) ≡ of (at g)
    by_page true is = let now = of_same at p a g here is in ap (λ y. of (to y)) now ∙ kept ∙ sym (ap of now)
    by_page false is = refl

-- the slot that a frame's open start named
pub named : (past : List Entry) (n : ℕ) (x : Start) → open_start past n ≡ Some x → open_slot past n ≡ Some x.slot
named past n x now = ap slot_of_start now

pub sound_ewb : (past : List Entry) (a : Actor) (f : Frame) (page : Page) (version : ℕ) (tag : List ℕ)
    → CanMove past (Did (Ewb f) (Moved page version tag)) → IsSound past
    → IsSound (entry_of a (Did (Ewb f) (Moved page version tag)) ∷ past)
sound_ewb past a f page version tag can s =
    let x = can.1.0 in
    let now = can.1.1 in
    let here_kept = by_same (place past) (gone_to (open_slot past f.0)) page (Leaving f.0) is_here can.0
    (ap (λ o. is_here (gone_to (slot_of_start o) (Leaving f.0))) now) in
    record {
      places = put_out (place past) (content past) (open_start past) f.0 page x s.places can.0 now;
      list =
          list_same (active past) (place past) (λ g. if same_page page g then gone_to (open_slot past f.0)
          (place past g) else place past g) s.list here_kept;
      apart = apart_out (place past) (open_start past) f.0 page x can.0 now s.apart;
      versions =
          versions_out (place past) (open_start past) (last_out past) (version_in past) f.0 page x
          (open_slot past f.0) version tag can.0 now (named past f.0 x now) s.apart s.versions;
      made =
          λ g. s.made g ∙ ap not (sym
          (by_same (place past) (gone_to (open_slot past f.0)) page (Leaving f.0) is_absent can.0
          (ap (λ o. is_absent (gone_to (slot_of_start o) (Leaving f.0))) now) g));
      held = held_put (content past) f.0 Free s.held (λ p k m h. absurd (false≢true (ap is_own h)));
      added = s.added;
      secs = secs_put (place past) (λ g. if same_page page g then gone_to (open_slot past f.0) (place past g) else place past g)
          (content past) f.0 Free s.secs here_kept (λ e some child. absurd (false≢true child));
      arrays = arrays_closed (place past) (λ g. if same_page page g then gone_to (open_slot past f.0) (place past g) else place past g)
          (open_start past) (vas_made past) f.0 s.arrays (λ g here. here_kept g ∙ here);
    }

-- ---- a page comes back

pub sound_eldstart : (past : List Entry) (a : Actor) (f : Frame) (page : Page) (to : SlotAt) (answer : Answer)
    → CanMove past (Did (EldStart f page to) answer) → IsSound past
    → IsSound (entry_of a (Did (EldStart f page to) answer) ∷ past)
sound_eldstart past a f page to answer can s =
    let here_kept = by_same (place past) (comes_into f.0) page (Away can.1) is_here can.2 refl in
    record {
      places =
          subst (λ o. PlacesAreFrames (λ g. if same_page page g then comes_into f.0 (place past g) else place past g)
          (λ n. if f.0 == n then IsLoading page else content past n)
          (λ n. if f.0 == n then started a (length past) to answer (Some page) o else open_start past n)) (sym can.3)
          (put_loading (place past) (content past) (open_start past) f.0 page can.1 to (version_told answer)
          (length past) a s.places can.0 can.2);
      list =
          list_same (active past) (place past) (λ g. if same_page page g then comes_into f.0 (place past g) else place past g) s.list
          here_kept;
      apart =
          subst (λ o. SlotsAreApart (λ g. if same_page page g then comes_into f.0 (place past g) else place past g)
          (λ n. if f.0 == n then started a (length past) to answer (Some page) o else open_start past n)) (sym can.3)
          (apart_loading (place past) (content past) (open_start past) f.0 page can.1 to (version_told answer)
          (length past) a s.places can.0 can.2 s.apart);
      versions =
          versions_less (place past) (λ g. if same_page page g then comes_into f.0 (place past g) else place past g) (last_out past)
          (version_in past) s.versions (outside_loading (place past) page f.0 can.1 can.2);
      made = λ g. s.made g ∙ ap not (sym (by_same (place past) (comes_into f.0) page (Away can.1) is_absent can.2 refl g));
      held = held_put (content past) f.0 (IsLoading page) s.held (λ p k m h. absurd (false≢true (ap is_own h)));
      added = s.added;
      secs = secs_put (place past) (λ g. if same_page page g then comes_into f.0 (place past g) else place past g)
          (content past) f.0 (IsLoading page) s.secs here_kept
          (λ e some child. let k = both_true (is_own_page page) (page.enclave == e) child in
          subst (λ x. is_here (place past (secs_page x)) ≡ true) (eqb-true page.enclave e k.1) (can.5 k.0));
      arrays =
          subst (λ o. ArraysAreHere (λ g. if same_page page g then comes_into f.0 (place past g) else place past g)
          (λ n. if f.0 == n then started a (length past) to answer (Some page) o else open_start past n) (vas_made past)) (sym can.3)
          (arrays_opened (place past) (λ g. if same_page page g then comes_into f.0 (place past g) else place past g)
          (open_start past) (vas_made past) f.0
          (record { at = to; slot = can.1; version = version_told answer; loads = Some page; place = length past; actor = a }) s.arrays
          (λ g here. here_kept g ∙ here) can.4);
    }

-- the start of a page that is loading
pub load_start : (past : List Entry) (f : ℕ) (page : Page) (slot : VaSlot) → IsSound past → place past page ≡ Loading f slot
    → (x : Start) × (open_start past f ≡ Some x) × (x.slot ≡ slot)
load_start past f page slot s loading = by_start (open_start past f) refl load
  where
    load : load_slot (open_start past f) page ≡ Some slot
    load = s.places.loads page f ∙ ap (λ y. slot_loading y f) loading ∙ rw (eq-eqb f f refl) refl

    told : (b : Bool) (x : Start) → slot_if b x.slot ≡ Some slot → x.slot ≡ slot
    told true x k = cc
    told false x k = cc

    by_start : (o : Option Start) → open_start past f ≡ o → load_slot o page ≡ Some slot
        → (x : Start) × (open_start past f ≡ Some x) × (x.slot ≡ slot)
    by_start None now k = cc
    by_start (Some x) now k = (x, now, told (is_load_of (Some x) page) x k)

-- its frame waits for it
waits_for : (past : List Entry) (f : ℕ) (page : Page) (slot : VaSlot) → IsSound past → place past page ≡ Loading f slot
    → content past f ≡ IsLoading page
waits_for past f page slot s loading =
    by_content (content past f) (sym (s.places.waits f) ∙ by_start (open_start past f) load)
  where
    load : load_slot (open_start past f) page ≡ Some slot
    load = s.places.loads page f ∙ ap (λ y. slot_loading y f) loading ∙ rw (eq-eqb f f refl) refl

    by_page : (g : Page) (b : Bool) (x : VaSlot) → same_page g page ≡ b → slot_if b x ≡ Some slot → g ≡ page
    by_page g true x is k = same_pages g page is
    by_page g false x is k = cc

    by_loads : (o : Option Page) (x : VaSlot) → slot_if (is_this o page) x ≡ Some slot → o ≡ Some page
    by_loads None x k = cc
    by_loads (Some g) x k = ap Some (by_page g (same_page g page) x refl k)

    by_start : (o : Option Start) → load_slot o page ≡ Some slot → load_of o ≡ Some page
    by_start None k = cc
    by_start (Some x) k = by_loads x.loads x.slot k

    by_content : (c : Content) → waiting c ≡ Some page → c ≡ IsLoading page
    by_content (IsLoading g) k = let same : g ≡ page = cc in ap IsLoading same
    by_content Free k = cc
    by_content (IsVa number) k = cc
    by_content (SecsOf enclave) k = cc
    by_content (Holds g kind perm) k = cc

pub sound_eld : (past : List Entry) (a : Actor) (f : Frame) (page : Page) (version : ℕ) (tag : List ℕ)
    → CanMove past (Did (Eld f) (Moved page version tag)) → IsSound past
    → IsSound (entry_of a (Did (Eld f) (Moved page version tag)) ∷ past)
sound_eld past a f page version tag can s =
    let slot = can.0 in
    let loading = can.1 in
    let start = load_start past f.0 page slot s loading in
    let back = back_as page (added past page)
    (λ own. own_added (vas_made past) (λ n. is_some (created past n)) (λ g. is_some (added past g)) page own
    (s.made page ∙ ap (λ p. not (is_absent p)) loading)) in
    record {
      places = put_back (place past) (content past) (open_start past) f.0 page slot (reloaded page (added past page)) s.places loading
          back.holds back.no_load;
      list = by_own (is_own_page page) refl;
      apart = apart_back (place past) (open_start past) f.0 page s.apart;
      versions =
          versions_back (place past) (open_start past) (last_out past) (version_in past) f.0 page slot (open_slot past f.0)
          (ap (slot_at (open_start past)) loading)
          (named past f.0 start.0 start.1 ∙ ap Some start.2) s.apart s.versions;
      made = λ g. s.made g ∙ ap not (sym (by_same (place past) (λ p. Here f.0) page (Loading f.0 slot) is_absent loading refl g));
      held = held_put (content past) f.0 (reloaded page (added past page)) s.held (held_back page (added past page));
      added = s.added;
      secs = secs_more (place past) (content past) f.0 page (reloaded page (added past page)) s.secs
          (λ e some child. s.secs f.0 e some (ap (λ c. is_child c e) (waits_for past f.0 page slot s loading)
          ∙ child_back page (added past page) e child));
      arrays = arrays_closed (place past) (λ g. if same_page page g then Here f.0 else place past g) (open_start past) (vas_made past) f.0
          s.arrays (here_more (place past) page f.0);
    }
  where
    by_own : (b : Bool) → is_own_page page ≡ b
        → ListIsHere (if b then active past ++ page ∷ [] else active past) (λ g. if same_page page g then Here f.0 else place past g)
    by_own true own = list_longer (active past) (place past) page f.0 s.list own (ap is_here can.1)
    by_own false other =
        list_beside (active past) (place past) (λ g. if same_page page g then Here f.0 else place past g) page s.list other
        (λ g is. ap (λ b. if b then Here f.0 else place past g) is)

absent-back : (f : ℕ) (p : Place) → is_absent (back_from f p) ≡ is_absent p
absent-back f Absent = refl
absent-back f (Here n) = refl
absent-back f (Leaving n) = refl
absent-back f (Away slot) = refl
absent-back f (Loading n slot) = by_test (n == f)
  where
    by_test : (b : Bool) → is_absent (if b then Away slot else Loading n slot) ≡ false
    by_test true = refl
    by_test false = refl

pub here-back : (f : ℕ) (p : Place) → is_here (back_from f p) ≡ is_here p
here-back f Absent = refl
here-back f (Here n) = refl
here-back f (Leaving n) = refl
here-back f (Away slot) = refl
here-back f (Loading n slot) = by_test (n == f)
  where
    by_test : (b : Bool) → is_here (if b then Away slot else Loading n slot) ≡ false
    by_test true = refl
    by_test false = refl

pub sound_refused : (past : List Entry) (a : Actor) (f : Frame) (refusal : Refusal) → CanMove past (Refused (Eld f) refusal) → IsSound past
    → IsSound (entry_of a (Refused (Eld f) refusal) ∷ past)
sound_refused past a f refusal can s = record {
  places = put_refused (place past) (content past) (open_start past) f.0 can.0 can.1 s.places can.2;
  list = list_same (active past) (place past) (λ g. back_from f.0 (place past g)) s.list (λ g. here-back f.0 (place past g));
  apart = apart_refused (place past) (open_start past) f.0 s.apart;
  versions =
      versions_less (place past) (λ g. back_from f.0 (place past g)) (last_out past)
      (version_in past) s.versions (outside_refused (place past) f.0);
  made = λ g. s.made g ∙ ap not (sym (absent-back f.0 (place past g)));
  held = held_put (content past) f.0 Free s.held (λ p k m h. absurd (false≢true (ap is_own h)));
  added = s.added;
  secs = secs_put (place past) (λ g. back_from f.0 (place past g)) (content past) f.0 Free s.secs (λ g. here-back f.0 (place past g))
      (λ e some child. absurd (false≢true child));
  arrays = arrays_closed (place past) (λ g. back_from f.0 (place past g)) (open_start past) (vas_made past) f.0 s.arrays
      (λ g here. here-back f.0 (place past g) ∙ here);
}

-- ---- an enclave is initialised

still_there : (b : Bool) (o : Option FlatEnclave) → is_some (if b then as_initialised o else o) ≡ is_some o
still_there true None = refl
still_there true (Some x) = refl
still_there false o = refl

sound_init : (past : List Entry) (a : Actor) (e : ℕ) (expect : Option (List ℕ)) (answer : Answer) → IsSound past
    → IsSound (entry_of a (Did (Init e expect) answer) ∷ past)
sound_init past a e expect answer s = record {
  places = s.places;
  list = s.list;
  apart = s.apart;
  versions = s.versions;
  made = λ g. ap (λ b. if is_va_page g then nat_lt g.number (vas_made past) else if is_secs_page g then b else is_some (added past g))
      (still_there (g.enclave == e) (created past g.enclave)) ∙ s.made g;
  held = s.held;
  added = s.added;
  secs = s.secs;
  arrays = s.arrays;
}

-- ---- all of them

pub stays_sound : (past : List Entry) (e : Entry) → CanMove past e.event → IsSound past → IsSound (e ∷ past)
stays_sound past e can s = by_event e.event can
  where
    by_event : (ev : Event) → CanMove past ev → IsSound (entry_of e.actor ev ∷ past)
    by_event (Did (Epa f) answer) k = sound_epa past e.actor f answer k s
    by_event (Did (Create n f base size) answer) k = sound_create past e.actor n f base size answer k s
    by_event (Did (Add n number f kind perm init) answer) k = sound_add past e.actor n number f kind perm init answer k s
    by_event (Did (Init n expect) answer) k = sound_init past e.actor n expect answer s
    by_event (Age page look) k = sound_age past e.actor page look k s
    by_event (Did (EwbStart f slot) answer) k = sound_ewbstart past e.actor f slot answer k s
    by_event (Did (Ewb f) (Moved page version tag)) k = sound_ewb past e.actor f page version tag k s
    by_event (Did (EldStart f page slot) answer) k = sound_eldstart past e.actor f page slot answer k s
    by_event (Did (Eld f) (Moved page version tag)) k = sound_eld past e.actor f page version tag k s
    by_event (Refused (Eld f) refusal) k = sound_refused past e.actor f refusal k s
    by_event (Did (Ewb f) answer) k = absurd k
    by_event (Did (Eld f) answer) k = absurd k
    by_event _ k =
        record {
          places = s.places;
          list = s.list;
          apart = s.apart;
          versions = s.versions;
          made = s.made;
          added = s.added;
          held = s.held;
          secs = s.secs;
          arrays = s.arrays;
        }

-- ---- pages that were added

-- a page with lawful accesses is not absent
pub lawful_there : (past : List Entry) (g : Page) (op : AccessOp) → IsSound past → is_lawful_access (added past g) op ≡ true
    → is_absent (place past g) ≡ false
lawful_there past g op sound k = by_added (added past g) refl k
  where
    by_test : (b : Bool) → true ≡ not b → b ≡ false
    by_test true n = cc
    by_test false n = refl

    by_kind : (b c x : Bool) → (not b && not c) ≡ true → x ≡ true
        → (if b then nat_lt g.number (vas_made past) else if (not b && c) then is_some (created past g.enclave) else x) ≡ true
    by_kind false false x own some = some
    by_kind true c x own some = absurd (false≢true own)
    by_kind false true x own some = absurd (false≢true own)

    by_added : (o : Option (Kind × Perm)) → added past g ≡ o → is_lawful_access o op ≡ true → is_absent (place past g) ≡ false
    by_added None is m = cc
    by_added (Some x) is m =
        let some : is_some (added past g) ≡ true = ap is_some is in
        by_test (is_absent (place past g))
        (sym (by_kind (g.enclave == 0) (g.number == 4294967295) (is_some (added past g)) (sound.added g some) some) ∙ sound.made g)

-- ---- before the first entry

pub first_sound : IsSound []
first_sound = record {
  places = record {
    frames = λ g n. refl;
    loads = λ g n. refl;
    loading = λ n. refl;
    waits = λ n. refl;
    writes = λ n h. absurd (false≢true h);
  };
  list = λ g. by_own (is_own_page g);
  apart = λ g h slot at_g at_h. absurd (none-some slot at_g);
  versions = λ g slot h. absurd (none-some slot h);
  made = λ g. by_kind (is_va_page g) (is_secs_page g) g;
  added = λ g some. absurd (false≢true some);
  held = λ n p k m h. absurd (false≢true (ap is_own h));
  secs = λ n e some child. absurd (false≢true child);
  arrays = record {
    first = λ some. absurd (none_below some);
    named = λ n x now. absurd (none-some x now);
  };
}
  where
    none_below : 0 < 0 → ⊥
    none_below h = omega (arith, h)

    none_lt : (n : ℕ) → nat_lt n 0 ≡ false
    none_lt n = grind arith

    nought : ℕ
    nought = 0

    by_own : (b : Bool) → nought ≡ (if b then nought else nought)
    by_own true = refl
    by_own false = refl

    by_kind : (b c : Bool) (g : Page) → (if b then nat_lt g.number 0 else if c then false else false) ≡ false
    by_kind true c g = none_lt g.number
    by_kind false true g = refl
    by_kind false false g = refl
