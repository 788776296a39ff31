-- What a run has of an honest store.
use Rattle.std.proofs.Common.{◌≡◌, ℕ, ◌==◌, Bool, true, false, if◌then◌else◌, refl, sym, ◌∙◌, ap, subst, List, []}
use Rattle.std.proofs.Common.{◌∷◌, Option, Some, None, is_some}
use Rattle.std.proofs.lemmas.Bool.{eqb-true, eq-eqb, false≢true}
use Rattle.sgx_types.proofs.Pages.{same_page-refl, same_pages}
use Rattle.sgx_rules.specs.declared.entries.Action.{Action}
use Rattle.sgx_rules.specs.declared.entries.Action.TheVariants.{Create, Add, Epa, Init, Ewb, EldStart, Eld}
use Rattle.sgx_types.specs.declared.names.Actor.{Actor}
use Rattle.sgx_types.specs.declared.names.Actor.TheVariants as actors
use Rattle.sgx_rules.specs.declared.entries.Answer.{Answer}
use Rattle.sgx_rules.specs.declared.entries.Answer.TheVariants.{Moved}
use Rattle.sgx_rules.specs.declared.entries.BusWhy.TheVariants as reasons
use Rattle.sgx_rules.specs.declared.entries.Entry.{Entry}
use Rattle.sgx_rules.specs.declared.entries.Event.{Event}
use Rattle.sgx_rules.specs.declared.entries.Event.TheVariants.{Did, Refused, Age, Bus}
use Rattle.sgx_rules.specs.declared.entries.Look.{Look}
use Rattle.sgx_rules.specs.declared.entries.Look.TheVariants as looks
use Rattle.sgx_types.specs.declared.names.Frame.{Frame}
use Rattle.sgx_types.specs.declared.names.Page.{Page}
use Rattle.sgx_types.specs.declared.names.VaSlot.{VaSlot}
use Rattle.sgx_rules.specs.inner.Enclaves.{EnclavesAreFlat, created, created_by}
use Rattle.sgx_rules.specs.Flat.{FlatEnclave, FlatMemory, accepts, event_after, flat, memory_after}
use Rattle.sgx_rules.specs.PageBytes.{header_at}
use Rattle.sgx_types.specs.Pages.{page_at, same_page, secs_page, va_page}
use Rattle.sgx_rules.specs.Frames.{Free, content, is_this, vas_made}
use Rattle.sgx_rules.specs.Rules.{Along, FlatRule}
use Rattle.sgx_rules.specs.Fresh.{Out, last_out, out_after}
use Rattle.sgx_types.specs.Sealed.{Sealed}
use Rattle.sgx_rules.specs.Starts.{Start, open_start}
use Rattle.sgx_rules.specs.Slots.{open_slot}
use Rattle.sgx_rules.specs.Table.{is_loading}
use Rattle.machine_copies.proofs.FlatLaws.{added_flat, header_kept, cpu_enclaves}
use Rattle.backing_store.specs.Calls.{Call, Failed, Given, Got, Nothing, Put, Room}
use Rattle.driver_rules.specs.Places.{Absent, Away, Here, Leaving, Loading, Place, after_look, back_from, comes_into, gone_to, place}
use Rattle.driver_rules.specs.Places.{place_after}
use Rattle.driver_laws.specs.inner.Kinds.{CanMove}
use Rattle.driver_laws.specs.inner.Sound.{IsSound, is_load_start, load_slot, slot_if, slot_loading}
use Rattle.driver_laws.proofs.PlaceLaws.{loads_one}
use Rattle.driver_laws.proofs.SoundLaws.{entry_of}
use Rattle.history_rules.specs.Calls.{CallsAre, ComesWith, IsFailed, IsGiven, IsNothing, IsPut, IsRoom, before, without_last}
use Rattle.history_rules.specs.Given.{gift, gift_after, got_last}
use Rattle.history_rules.specs.Honest.{IsHonest, gift_of, last_put}
use Rattle.history_rules.specs.inner.Honest.{GiftsAreLast, IsLastPut}
use Rattle.history_rules.specs.Stored.{PutsSealed, StoreCalls, TellsOfStore}

-- ---- the last record put of a page

-- the last call is no put of this page
abbrev NoPut : List Call → Page → Type 0
NoPut (Put page rec failed ∷ calls) g = same_page page g ≡ false
NoPut _ g = Unit {0}

dropped : (calls : List Call) (g : Page) → NoPut calls g → last_put calls g ≡ last_put (without_last calls) g
dropped [] g no_put = refl
dropped (Room page failed ∷ calls) g no_put = refl
dropped (Put page rec failed ∷ calls) g no_put = rw no_put refl
dropped (Got page gave ∷ calls) g no_put = refl

by_room : (page g : Page) (failed : Bool) (calls : List Call) → IsRoom page failed calls → NoPut calls g
by_room page g failed [] c = absurd c
by_room page g failed (Room h b ∷ calls) c = tt
by_room page g failed (Put h rec b ∷ calls) c = absurd c
by_room page g failed (Got h gave ∷ calls) c = absurd c

by_given : (page g : Page) (calls : List Call) → IsGiven page calls → NoPut calls g
by_given page g [] c = absurd c
by_given page g (Room h b ∷ calls) c = absurd c
by_given page g (Put h rec b ∷ calls) c = absurd c
by_given page g (Got h gave ∷ calls) c = tt

by_failed : (page g : Page) (calls : List Call) → IsFailed page calls → NoPut calls g
by_failed page g [] c = absurd c
by_failed page g (Room h b ∷ calls) c = absurd c
by_failed page g (Put h rec b ∷ calls) c = absurd c
by_failed page g (Got h gave ∷ calls) c = tt

by_nothing : (page g : Page) (calls : List Call) → IsNothing page calls → NoPut calls g
by_nothing page g [] c = absurd c
by_nothing page g (Room h b ∷ calls) c = absurd c
by_nothing page g (Put h rec b ∷ calls) c = absurd c
by_nothing page g (Got h gave ∷ calls) c = tt

by_put : (page g : Page) (version : ℕ) (tag : List ℕ) (calls : List Call) → IsPut (Moved page version tag) calls
    → same_page page g ≡ false → NoPut calls g
by_put page g version tag [] c other = absurd c
by_put page g version tag (Room h b ∷ calls) c other = absurd c
by_put page g version tag (Put h rec b ∷ calls) c other = ap (λ x. same_page x g) c.0 ∙ other
by_put page g version tag (Got h gave ∷ calls) c other = absurd c

-- but for a put of the page, the last record put of it is that before the entry
abbrev pub IsOutOf : Event → Page → Bool
IsOutOf (Did (Ewb f) (Moved page version tag)) g = same_page page g
IsOutOf (Did (Ewb f) answer) g = true
IsOutOf _ g = false

pub same_last : (event : Event) (calls : List Call) (g : Page) → ComesWith event calls → IsOutOf event g ≡ false
    → last_put calls g ≡ last_put (before event calls) g
same_last (Age page looks.NoRoom) calls g c out = dropped calls g (by_room page g true calls c)
same_last (Age page looks.Taken) calls g c out = dropped calls g (by_room page g false calls c)
same_last (Did (Ewb f) (Moved page version tag)) calls g c out = dropped calls g (by_put page g version tag calls c out)
same_last (Did (Ewb f) answer) calls g c out = cc
same_last (Did (EldStart f page slot) answer) calls g c out = dropped calls g (by_given page g calls c)
same_last (Refused (EldStart f page slot) why) calls g c out = dropped calls g (by_given page g calls c)
same_last (Bus page reasons.GetFailed) calls g c out = dropped calls g (by_failed page g calls c)
same_last (Bus page reasons.NoRecord) calls g c out = dropped calls g (by_nothing page g calls c)
same_last event calls g c out = refl

-- ---- it is sealed under the version with which the page went out

put_now : (key : List ℕ) (past : List Entry) (actor : Actor) (f : Frame) (page g : Page) (version : ℕ) (tag : List ℕ) (calls : List Call)
    → IsPut (Moved page version tag) calls → PutsSealed key past page version calls → same_page page g ≡ true
    → IsLastPut key (entry_of actor (Did (Ewb f) (Moved page version tag)) ∷ past) calls g version
put_now key past actor f page g version tag [] c is mine = absurd c
put_now key past actor f page g version tag (Room h b ∷ calls) c is mine = absurd c
put_now key past actor f page g version tag (Got h gave ∷ calls) c is mine = absurd c
put_now key past actor f page g version tag (Put h rec b ∷ calls) c is mine = record {
  rec = rec;
  put = ap (λ (x : Page). if same_page x g then Some rec else last_put calls g) c.0 ∙ rw mine refl;
  sealed = record {
    header =
        ap (λ x. header_at (entry_of actor (Did (Ewb f) (Moved page version tag)) ∷ past) x) (sym (same_pages page g mine))
        ∙ header_kept past actor (Did (Ewb f) (Moved page version tag)) page rec.header is.header;
    tagged = is.tagged;
  };
}

put_before : (key : List ℕ) (e : Entry) (past : List Entry) (calls : List Call) (g : Page) (version : ℕ) → ComesWith e.event calls
    → IsOutOf e.event g ≡ false → IsLastPut key past (before e.event calls) g version → IsLastPut key (e ∷ past) calls g version
put_before key e past calls g version c out was = record {
  rec = was.rec;
  put = same_last e.event calls g c out ∙ was.put;
  sealed = record { header = header_kept past e.actor e.event g was.rec.header was.sealed.header; tagged = was.sealed.tagged };
}

-- how one entry more leaves it
sealed_by : (key : List ℕ) (past : List Entry) (actor : Actor) (ev : Event) (calls : List Call) (g : Page) (o : Out) → ComesWith ev calls
    → TellsOfStore key past (gift past (before ev calls)) ev calls
    → (last_out past g ≡ Some o → IsLastPut key past (before ev calls) g o.version) → out_after ev g (last_out past g) ≡ Some o
    → IsLastPut key (entry_of actor ev ∷ past) calls g o.version
sealed_by key past actor (Did (Ewb f) (Moved page version tag)) calls g o c t was k = by_page (same_page page g) refl k
  where
    by_page : (b : Bool) → same_page page g ≡ b → (if b then Some (record { version = version; tag = tag }) else last_out past g) ≡ Some o
        → IsLastPut key (entry_of actor (Did (Ewb f) (Moved page version tag)) ∷ past) calls g o.version
    by_page true mine told =
        let same : version ≡ o.version = cc in
        subst (IsLastPut key (entry_of actor (Did (Ewb f) (Moved page version tag)) ∷ past) calls g) same
        (put_now key past actor f page g version tag calls c t mine)
    by_page false other told =
        put_before key (entry_of actor (Did (Ewb f) (Moved page version tag))) past calls g o.version c other (was told)
sealed_by key past actor (Did (Ewb f) answer) calls g o c t was k = absurd c
sealed_by key past actor (Did (Eld f) (Moved page version tag)) calls g o c t was k = by_page (same_page page g) k
  where
    by_page : (b : Bool) → (if b then None else last_out past g) ≡ Some o
        → IsLastPut key (entry_of actor (Did (Eld f) (Moved page version tag)) ∷ past) calls g o.version
    by_page true told = cc
    by_page false told =
        put_before key (entry_of actor (Did (Eld f) (Moved page version tag))) past calls g o.version c refl (was told)
sealed_by key past actor ev calls g o c t was k = put_before key (entry_of actor ev) past calls g o.version c refl (was k)

pub last_sealed : (key : List ℕ) (past : List Entry) (calls : List Call) → StoreCalls key past calls → (g : Page) (o : Out)
    → last_out past g ≡ Some o → IsLastPut key past calls g o.version
last_sealed key [] calls h g o is = cc
last_sealed key (e ∷ past) calls h g o is =
    sealed_by key past e.actor e.event calls g o h.calls_are.0 h.records.0
    (λ was. last_sealed key past (before e.event calls) (record { calls_are = h.calls_are.1; records = h.records.1 }) g o was) is

-- ---- loads were given it

-- a page is loading into one frame, and no other page into that
pub load_at : (past : List Entry) (f : ℕ) (page : Page) (slot : VaSlot) → IsSound past → place past page ≡ Loading f slot
    → load_slot (open_start past f) page ≡ Some slot
load_at past f page slot s loading = s.places.loads page f ∙ ap (λ y. slot_loading y f) loading ∙ rw (eq-eqb f f refl) refl

load_one : (past : List Entry) (f : ℕ) (a g : Page) (slot other : VaSlot) → IsSound past → place past a ≡ Loading f slot
    → place past g ≡ Loading f other → same_page a g ≡ true
load_one past f a g slot other s at_a at_g =
    sym (loads_one (open_start past f) a g slot (load_at past f a slot s at_a))
    ∙ loads_one (open_start past f) g g other (load_at past f g other s at_g) ∙ same_page-refl g

-- no page is loading into a free frame
pub free_no_load : (past : List Entry) (f : ℕ) (g : Page) (slot : VaSlot) → IsSound past → content past f ≡ Free
    → place past g ≡ Loading f slot → ⊥
free_no_load past f g slot s free at =
    by_start (open_start past f) none load
  where
    none : is_load_start (open_start past f) ≡ false
    none = s.places.loading f ∙ ap is_loading free

    load : load_slot (open_start past f) g ≡ Some slot
    load = load_at past f g slot s at

    by_start : (o : Option Start) → is_load_start o ≡ false → load_slot o g ≡ Some slot → ⊥
    by_start None h k = cc
    by_start (Some x) h k = loads x.loads h k
      where
        loads : (l : Option Page) → is_some l ≡ false → slot_if (is_this l g) x.slot ≡ Some slot → ⊥
        loads None h k = cc
        loads (Some page) h k = cc

-- another frame's gift stays
other_gift : (b : Bool) (X : Type 0) (x y : X) → b ≡ false → (if b then x else y) ≡ y
other_gift b X x y h = rw h refl

given_now : (page : Page) (calls : List Call) → IsGiven page calls → IsHonest calls → got_last calls ≡ last_put calls page
given_now page [] c h = absurd c
given_now page (Room k b ∷ calls) c h = absurd c
given_now page (Put k rec b ∷ calls) c h = absurd c
given_now page (Got k Failed ∷ calls) c h = absurd c
given_now page (Got k Nothing ∷ calls) c h = absurd c
given_now page (Got k (Given rec) ∷ calls) c h = by_last (last_put calls k) refl h.0
  where
    by_last : (o : Option Sealed) → last_put calls k ≡ o → Given rec ≡ gift_of o → Some rec ≡ last_put calls page
    by_last None is given = cc
    by_last (Some x) is given =
        let same : rec ≡ x = cc in
        ap Some same ∙ sym is ∙ ap (last_put calls) c.0

abbrev Was : List Entry → Event → List Call → Page → Type 0
Was past ev calls g = (f : ℕ) (slot : VaSlot) → place past g ≡ Loading f slot → gift past (before ev calls) f ≡ last_put (before ev calls) g

-- how one entry more leaves that
gifts_by : (past : List Entry) (actor : Actor) (ev : Event) (calls : List Call) (g : Page) (f : ℕ) (slot : VaSlot) → IsSound past
    → CanMove past ev → ComesWith ev calls → IsHonest calls → Was past ev calls g
    → place_after ev (vas_made past) (open_slot past) g (place past g) ≡ Loading f slot
    → gift_after ev calls f (gift past (before ev calls) f) ≡ last_put calls g
gifts_by past actor (Did (EldStart n page t) answer) calls g f slot s can c honest was at = by_page (same_page page g) refl at
  where
    frame_of : Loading n.0 can.1 ≡ Loading f slot → n.0 ≡ f
    frame_of is = cc

    by_page : (b : Bool) → same_page page g ≡ b → (if b then comes_into n.0 (place past g) else place past g) ≡ Loading f slot
        → (if n.0 == f then got_last calls else gift past (without_last calls) f) ≡ last_put calls g
    by_page true mine told =
        let there : place past g ≡ Away can.1 = ap (place past) (sym (same_pages page g mine)) ∙ can.2 in
        let same : n.0 ≡ f = frame_of (ap (comes_into n.0) (sym there) ∙ told) in
        rw (eq-eqb n.0 f same) (given_now page calls c honest ∙ ap (last_put calls) (same_pages page g mine))
    by_page false other told = by_frame (n.0 == f) refl
      where
        by_frame : (b : Bool) → (n.0 == f) ≡ b → (if b then got_last calls else gift past (without_last calls) f) ≡ last_put calls g
        by_frame true is = absurd (free_no_load past f g slot s (subst (λ m. content past m ≡ Free) (eqb-true n.0 f is) can.0) told)
        by_frame false is = was f slot told ∙ sym (dropped calls g (by_given page g calls c))
gifts_by past actor (Did (Eld n) (Moved page version tag)) calls g f slot s can c honest was at = by_page (same_page page g) refl at
  where
    by_page : (b : Bool) → same_page page g ≡ b → (if b then Here n.0 else place past g) ≡ Loading f slot
        → (if n.0 == f then None else gift past calls f) ≡ last_put calls g
    by_page true mine told = cc
    by_page false other told = by_frame (n.0 == f) refl
      where
        by_frame : (b : Bool) → (n.0 == f) ≡ b → (if b then None else gift past calls f) ≡ last_put calls g
        by_frame true is =
            absurd (false≢true (sym other ∙ load_one past f page g can.0 slot s
            (can.1 ∙ ap (λ m. Loading m can.0) (eqb-true n.0 f is)) told))
        by_frame false is = was f slot told
gifts_by past actor (Did (Eld n) answer) calls g f slot s can c honest was at = absurd can
gifts_by past actor (Refused (Eld n) refusal) calls g f slot s can c honest was at = by_place (place past g) refl at
  where
    by_place : (p : Place) → place past g ≡ p → back_from n.0 p ≡ Loading f slot
        → (if n.0 == f then None else gift past calls f) ≡ last_put calls g
    by_place Absent is told = cc
    by_place (Here m) is told = cc
    by_place (Leaving m) is told = cc
    by_place (Away t) is told = cc
    by_place (Loading m t) is told = by_frame (m == n.0) refl told
      where
        by_frame : (b : Bool) → (m == n.0) ≡ b → (if b then Away t else Loading m t) ≡ Loading f slot
            → (if n.0 == f then None else gift past calls f) ≡ last_put calls g
        by_frame true same k = cc
        by_frame false other k = by_test (n.0 == f) refl
          where
            frame : m ≡ f
            frame = cc

            by_test : (b : Bool) → (n.0 == f) ≡ b → (if b then None else gift past calls f) ≡ last_put calls g
            by_test true same = absurd (false≢true (sym other ∙ eq-eqb m n.0 (frame ∙ sym (eqb-true n.0 f same))))
            by_test false apart = was f slot (is ∙ k)
gifts_by past actor (Did (Ewb n) (Moved page version tag)) calls g f slot s can c honest was at = by_page (same_page page g) refl at
  where
    gone_no_load : (o : Option VaSlot) (p : Place) → p ≡ Leaving n.0 → gone_to o p ≡ Loading f slot → ⊥
    gone_no_load None p is k = cc
    gone_no_load (Some x) p is k = cc

    by_page : (b : Bool) → same_page page g ≡ b
        → (if b then gone_to (open_slot past n.0) (place past g) else place past g) ≡ Loading f slot
        → gift past (without_last calls) f ≡ last_put calls g
    by_page true mine told =
        absurd (gone_no_load (open_slot past n.0) (place past g) (ap (place past) (sym (same_pages page g mine)) ∙ can.0) told)
    by_page false other told = was f slot told ∙ sym (dropped calls g (by_put page g version tag calls c other))
gifts_by past actor (Did (Ewb n) answer) calls g f slot s can c honest was at = absurd can
gifts_by past actor (Did (Add enclave number n kind perm init) answer) calls g f slot s can c honest was at =
    by_page (same_page (page_at enclave number) g) at
  where
    by_page : (b : Bool) → (if b then Here n.0 else place past g) ≡ Loading f slot → gift past calls f ≡ last_put calls g
    by_page true told = cc
    by_page false told = was f slot told
gifts_by past actor (Did (Create enclave n base size) answer) calls g f slot s can c honest was at =
    was f slot (made (same_page (secs_page enclave) g) at) ∙ sym (same_last (Did (Create enclave n base size) answer) calls g c refl)
  where
    made : (b : Bool) → (if b then Here n.0 else place past g) ≡ Loading f slot → place past g ≡ Loading f slot
    made true told = cc
    made false told = told
gifts_by past actor (Did (Epa n) answer) calls g f slot s can c honest was at =
    was f slot (made (same_page (va_page (vas_made past)) g) at) ∙ sym (same_last (Did (Epa n) answer) calls g c refl)
  where
    made : (b : Bool) → (if b then Here n.0 else place past g) ≡ Loading f slot → place past g ≡ Loading f slot
    made true told = cc
    made false told = told
gifts_by past actor (Age page look) calls g f slot s can c honest was at =
    was f slot (by_page (same_page page g) at) ∙ sym (same_last (Age page look) calls g c refl)
  where
    by_look : (l : Look) (p : Place) → after_look l p ≡ Loading f slot → p ≡ Loading f slot
    by_look looks.Taken (Loading m t) k = k
    by_look looks.Taken (Here m) k = cc
    by_look looks.Taken (Leaving m) k = cc
    by_look looks.Taken (Away t) k = cc
    by_look looks.Taken Absent k = cc
    by_look looks.Held p k = k
    by_look looks.Young p k = k
    by_look looks.NoRoom p k = k

    by_page : (b : Bool) → (if b then after_look look (place past g) else place past g) ≡ Loading f slot → place past g ≡ Loading f slot
    by_page true k = by_look look (place past g) k
    by_page false k = k
gifts_by past actor ev calls g f slot s can c honest was at = was f slot at ∙ sym (same_last ev calls g c refl)

pub gifts_more : (past : List Entry) (e : Entry) (calls : List Call) → IsSound past → CanMove past e.event → CallsAre (e ∷ past) calls
    → IsHonest calls → GiftsAreLast past (before e.event calls) → GiftsAreLast (e ∷ past) calls
gifts_more past e calls s can c honest was g f slot at =
    gifts_by past e.actor e.event calls g f slot s can c.0 honest (was g) at

shorter : (calls : List Call) → IsHonest calls → IsHonest (without_last calls)
shorter [] h = h
shorter (call ∷ calls) h = h.1

-- a store that was honest up to an entry was so before
pub honest_before : (event : Event) (calls : List Call) → IsHonest calls → IsHonest (before event calls)
honest_before (Age page looks.NoRoom) calls h = shorter calls h
honest_before (Age page looks.Taken) calls h = shorter calls h
honest_before (Did (Ewb f) answer) calls h = shorter calls h
honest_before (Did (EldStart f page slot) answer) calls h = shorter calls h
honest_before (Refused (EldStart f page slot) why) calls h = shorter calls h
honest_before (Bus page reasons.GetFailed) calls h = shorter calls h
honest_before (Bus page reasons.NoRecord) calls h = shorter calls h
honest_before event calls h = h

-- ---- enclaves and pages

-- an instruction that makes or initialises an enclave
abbrev makes_enclave : Action → Bool
makes_enclave (Create enclave f base size) = true
makes_enclave (Init enclave expect) = true
makes_enclave action = false

memory_enclaves : (actor : Actor) (action : Action) (m : FlatMemory) → makes_enclave action ≡ false
    → (memory_after actor action m).enclaves ≡ m.enclaves
memory_enclaves actor (Create enclave f base size) m h = cc
memory_enclaves actor (Init enclave expect) m h = cc
memory_enclaves (actors.Cpu p) action m h = cpu_enclaves p.0 action m
memory_enclaves actors.Builder action m h = refl
memory_enclaves actors.Reclaimer action m h = refl

-- .. whether flat memory takes it or not
event_enclaves : (actor : Actor) (action : Action) (answer : Answer) (m : FlatMemory) → makes_enclave action ≡ false
    → (event_after actor (Did action answer) m).enclaves ≡ m.enclaves
event_enclaves actor action answer m h = by_taken (accepts m actor action)
  where
    by_taken : (b : Bool) → (if b then memory_after actor action m else m).enclaves ≡ m.enclaves
    by_taken true = memory_enclaves actor action m h
    by_taken false = refl

-- one entry more
enclaves_by : (past : List Entry) (actor : Actor) (ev : Event) (n : ℕ) → FlatRule past (entry_of actor ev)
    → created past n ≡ (flat past).enclaves n → created_by ev n (created past n) ≡ (event_after actor ev (flat past)).enclaves n
enclaves_by past actor (Did (Create enclave f base size) answer) n rule before = rw ((rule refl).taken, before) refl
enclaves_by past actor (Did (Init enclave expect) answer) n rule before = rw ((rule refl).taken, before) refl
enclaves_by past actor (Did action answer) n rule before =
    before ∙ sym (ap (λ (o : ℕ → Option FlatEnclave). o n) (event_enclaves actor action answer (flat past) refl))
enclaves_by past actor ev n rule before = before

enclaves_flat : (past : List Entry) → Along FlatRule past → (n : ℕ) → created past n ≡ (flat past).enclaves n
enclaves_flat [] h n = refl
enclaves_flat (e ∷ past) h n = enclaves_by past e.actor e.event n h.0 (enclaves_flat past h.1 n)

pub has_pages : (past : List Entry) → Along FlatRule past → EnclavesAreFlat past
has_pages past h = record { enclaves = enclaves_flat past h; pages = added_flat past h }
