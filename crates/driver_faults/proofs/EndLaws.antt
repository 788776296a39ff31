-- The end of a load is what is due, and what its entry keeps.
use Rattle.std.proofs.Common.{◌≡◌, ℕ, not, Bool, true, false, if◌then◌else◌, List, ◌∷◌, Option, None}
use Rattle.std.proofs.Common.{Some, MatchOption, ⊎_elim, ◌⊎◌, inl, inr, length, is_some, refl, sym, ap, subst, ◌∙◌}
use Rattle.std.proofs.Common.{◌<◌, nat_lt, nat_le, slice_set, arith, ◌&&◌, ◌||◌, ◌==◌}
use Rattle.std.proofs.lemmas.Bool.{eq-eqb, false≢true}
use Rattle.std.specs.Str.{bytes_eq}
use Rattle.std.proofs.lemmas.Option.{same_Some}
use Rattle.sgx_rules.specs.declared.entries.Action.TheVariants.{Eld}
use Rattle.sgx_types.specs.declared.names.Actor.TheVariants as actors
use Rattle.sgx_rules.specs.declared.entries.Answer.TheVariants.{Moved}
use Rattle.sgx_rules.specs.declared.entries.Entry.{Entry}
use Rattle.sgx_rules.specs.declared.entries.Event.TheVariants.{Did, Refused}
use Rattle.sgx_types.specs.declared.names.Cpu.{Cpu}
use Rattle.sgx_types.specs.declared.names.Frame.{Frame}
use Rattle.sgx_types.specs.declared.names.Page.{Page}
use Rattle.sgx_types.specs.declared.names.VaSlot.{VaSlot}
use Rattle.sgx_types.specs.Pages.{is_own_page}
use Rattle.driver_slots.specs.inner.Keeper.{is_ours}
use Rattle.driver_rules.specs.inner.Slotted.{fixed_count}
use Rattle.sgx_rules.specs.declared.refusals.Refusal.{Refusal}
use Rattle.sgx_rules.specs.declared.refusals.Refusal.TheVariants as why
use Rattle.sgx_rules.specs.Frames.{IsLoading, content, reloaded, vas_made}
use Rattle.sgx_types.specs.Making.{Making}
use Rattle.sgx_types.specs.Sealed.{Sealed}
use Rattle.sgx_rules.specs.Starts.{Start, open_start}
use Rattle.sgx_rules.specs.inner.Starts.{BareStart}
use Rattle.sgx_types.specs.Cases.{first_of_row}
use Rattle.sgx_rules.specs.Table.{is_loading}
use Rattle.sgx_rules.proofs.Busy.{IsBareOf}
use Rattle.job_grammar.specs.Jobs.{JobView}
use Rattle.driver_list.specs.inner.Keeping.{Kept, keeping, kept_at, page_kept}
use Rattle.driver_list.specs.inner.Places.{IsPlaced}
use Rattle.driver_list.specs.inner.States.{state_of as page_state}
use Rattle.driver_list.specs.declared.page_states.PageState.{PageState}
use Rattle.driver_list.specs.declared.page_states.PageState.TheVariants as states
use Rattle.seal_record.specs.Cipher.{cipher, tag}
use Rattle.seal_record.specs.inner.Row.{eld_row, is_header}
use Rattle.machine_laws.specs.inner.State.{State, after_eld, after_failed_eld}
use Rattle.machine_laws.specs.inner.Steps.{CanBring, commit_row, did_by, refused_by}
use Rattle.machine_copies.proofs.ArrayLaws.{va_stands}
use Rattle.machine_laws.proofs.ColumnLaws.{content_is}
use Rattle.machine_laws.proofs.SlotLaws.{started_as}
use Rattle.sgx_machine.specs.inner.Parts.{Parts, state_of}
use Rattle.driver_rules.specs.Places.{Loading, active, place}
use Rattle.driver_rules.specs.Dues.{Ends, IsNext}
use Rattle.driver_rules.specs.inner.Reclaims.{is_refused}
use Rattle.driver_rules.specs.Turns.{Fails, Loads, fails_with, last_of, load_of}
use Rattle.driver_laws.specs.inner.Agrees.{drivers, first_kept, loaded_by}
use Rattle.driver_laws.specs.inner.Kinds.{CanMove}
use Rattle.driver_laws.specs.inner.Sound.{slot_of, is_absent, is_load_start, once_listed, slot_at, stands_in, waiting}
use Rattle.driver_laws.proofs.LoadLaws.{loading_place}
use Rattle.driver_tables.specs.declared.driver.Driver.{Driver}
use Rattle.driver_tables.specs.inner.Tables.{ShowsTables, place_in}
use Rattle.driver_tables.proofs.LoadShowLaws.{came_aside, shows_bus, shows_load_end, shows_load_end_aside, shows_load_refused}
use Rattle.driver_tables.proofs.ListLaws.{not_listed}
use Rattle.driver_tables.proofs.TargetLaws.{fixed_aside}
use Rattle.driver_faults.specs.declared.answers.Loaded.{Loaded}
use Rattle.driver_faults.specs.inner.Due.{IsRightEnd}
use Rattle.driver_faults.specs.inner.Finishing.{CanFinish, ComesBack, IsFinished, bus_why}
use Rattle.driver_tables.specs.inner.Agrees.{Agrees}

-- ---- what is known of a page that loads

-- a state by its place
record IsLoadingState (s : PageState) (n : ℕ) (slot : VaSlot) : Type 0 where
  frame : Frame
  state : s ≡ states.Loading frame slot
  number : frame.0 ≡ n

loading_state : (s : PageState) (n : ℕ) (slot : VaSlot) → place_in s ≡ Loading n slot → IsLoadingState s n slot
loading_state (states.Loading f t) n slot h = record {
  frame = f;
  state = ap (states.Loading f)
      (slots f.0 n t slot h);
  number = frames f.0 n t slot h;
}
  where
    slots : (a b : ℕ) (x y : VaSlot) → Loading a x ≡ Loading b y → x ≡ y
    slots a b x y k = cc

    frames : (a b : ℕ) (x y : VaSlot) → Loading a x ≡ Loading b y → a ≡ b
    frames a b x y k = cc
loading_state states.Absent n slot h = cc
loading_state (states.Here f) n slot h = cc
loading_state (states.Leaving f) n slot h = cc
loading_state (states.Away t) n slot h = cc
loading_state (states.Lost t) n slot h = cc

-- what is kept, by its page
record IsKeptFor (k : Option Kept) (page : Page) : Type 0 where
  rec : Sealed
  kept : k ≡ Some (keeping page rec)

kept_for : (k : Option Kept) (page : Page) → page_kept k ≡ Some page → IsKeptFor k page
kept_for None page h = cc
kept_for (Some k) page h = record { rec = k.sealed; kept = ap (λ p. Some (keeping p k.sealed)) (same_Some k.page page h) }

-- ---- slots

from_zero : (n : ℕ) → nat_le 0 n ≡ true
from_zero n = grind (arith)

module _ (made : Making) (j : JobView) (past : List Entry) (d : Driver) (m : Parts) (r : Agrees made j past d m) (page : Page)
    (slot : VaSlot) where
  -- the slot of a SECS or a version array page is none of the keeper's
  aside_not_ours : IsPlaced d.states.counts page → is_own_page page ≡ false → slot_of past page ≡ Some slot
      → is_ours d.slots slot ≡ false
  aside_not_ours placed aside at =
      ap (is_ours d.slots) ((r.fixed page slot at).fixed aside) ∙ fixed_aside j d past page r.shows placed aside

  -- that of a TCS or REG page is one of the keeper's, where it is one of 512
  ours_within : is_own_page page ≡ true → slot_of past page ≡ Some slot → nat_lt slot.index 512 ≡ true → is_ours d.slots slot ≡ true
  ours_within own at within =
      r.shows.slots.ours slot
      ∙ all (nat_lt slot.va (vas_made past)) (nat_le (first_kept j slot.va) slot.index) (nat_lt slot.index 512)
      (r.shows.slots.placed page slot at) (by_array (slot.va == 0) refl ((r.fixed page slot at).own own)) within
    where
      all : (a b c : Bool) → a ≡ true → b ≡ true → c ≡ true → (a && (b && c)) ≡ true
      all true true true h k l = refl
      all true true false h k l = cc
      all true false c h k l = cc
      all false b c h k l = cc

      by_array : (b : Bool) → (slot.va == 0) ≡ b → (not b || nat_le (fixed_count j) slot.index) ≡ true
          → nat_le (if b then fixed_count j else 0) slot.index ≡ true
      by_array true is h = h
      by_array false is h = from_zero slot.index

  own_ours : is_own_page page ≡ true → slot_of past page ≡ Some slot → is_ours d.slots slot ≡ true
  own_ours own at = ours_within own at (r.shows.slots.within page slot at)

module _ (made : Making) (j : JobView) (past : List Entry) (d : Driver) (m : Parts) (r : Agrees made j past d m) (cpu : Cpu) (page : Page)
    (n : ℕ) (last : last_of past cpu.0 ≡ Loads n page) where
  opens : load_of (open_start past n) ≡ Some page
  opens = r.theirs.started cpu.0 n page last

  at : (slot : VaSlot) × (place past page ≡ Loading n slot)
  at = loading_place past n page r.sound opens

  placed : IsPlaced d.states.counts page
  placed = r.shows.placed page (ap is_absent at.1)

  state_is : IsLoadingState (page_state d.states page) n at.0
  state_is = loading_state (page_state d.states page) n at.0 (r.shows.states page placed ∙ at.1)

  -- the load that it ends is into the frame that its last entry names
  pub end_frame : (can : CanFinish cpu page d m) → n ≡ can.frame.0
  end_frame can = sym state_is.number ∙ frames state_is.frame can.frame at.0 can.slot (sym state_is.state ∙ can.tables.loading)
    where
      frames : (a b : Frame) (x y : VaSlot) → states.Loading a x ≡ states.Loading b y → a.0 ≡ b.0
      frames a b x y k = cc

  copy : IsKeptFor (kept_at d.kept cpu.0) page
  copy = kept_for (kept_at d.kept cpu.0) page (r.shows.copies cpu.0 ∙ ap loaded_by last)

  waits : is_loading ((state_of m).content n) ≡ true
  waits =
      ap is_loading (content_is r.follows.shape.columns n) ∙ sym (r.sound.places.loading n)
      ∙ by_start (open_start past n) opens
    where
      by_start : (o : Option Start) → load_of o ≡ Some page → is_load_start o ≡ true
      by_start None h = cc
      by_start (Some x) h = ap is_some h

  -- no frame holds a page for which one waits
  elsewhere : CanBring (state_of m) n
  elsewhere = record {
    away = λ g comes va k held.
        let waited = waiting_place g (sym (content_is r.follows.shape.columns n) ∙ comes) in
        let stood = va_stands (content past k) g va (sym (content_is r.follows.shape.columns k) ∙ held) in
        false≢true (sym (r.sound.places.frames g k ∙ ap (λ p. stands_in p k) waited.1) ∙ stood);
  }
    where
      waiting_place : (g : Page) → content past n ≡ IsLoading g → (t : VaSlot) × (place past g ≡ Loading n t)
      waiting_place g comes = loading_place past n g r.sound (r.sound.places.waits n ∙ ap waiting comes)

  -- a processor that has a load to end can end it
  pub can_finish : cpu.0 < length d.kept → CanFinish cpu page d m
  can_finish room = record {
    frame = state_is.frame;
    slot = at.0;
    tables = record {
      loading = state_is.state;
      placed = placed;
      counts = r.shows.counts;
      absent = λ own. not_listed past d.active.pages (active past) page r.shows.list
          (r.sound.list page ∙ ap (once_listed page) at.1 ∙ rw own refl);
      out = λ own. r.shows.slots.used page at.0 (ap (slot_at (open_start past)) at.1)
          (own_ours made j past d m r page at.0 own (ap (slot_at (open_start past)) at.1));
    };
    room = room;
    kept = copy.rec;
    copy = copy.kept;
    waits = subst (λ k. is_loading ((state_of m).content k) ≡ true) (sym state_is.number) waits;
    apart = subst (CanBring (state_of m)) (sym state_is.number) elsewhere;
  }

-- ---- the entry

-- a load that was not refused
pub record IsDoneEnd (cpu : Cpu) (f : Frame) (page : Page) (e : Entry) : Type 0 where
  pub version : ℕ
  pub tag : List ℕ
  pub is : e ≡ did_by (actors.Cpu cpu) (Eld f) (Moved page version tag)

-- .. and one that was, for one of two reasons
pub record IsRefusedEnd (cpu : Cpu) (f : Frame) (page : Page) (e : Entry) : Type 0 where
  pub refusal : Refusal
  pub is : e ≡ refused_by (actors.Cpu cpu) (Eld f) refusal
  pub fails : fails_with (Some page) refusal ≡ Fails page (bus_why e.event)

-- the row's refusals
row_fails : (rec : Sealed) (computed : List ℕ) (header : _) (page : Page) (cpu : Cpu) (f : Frame) (refusal : Refusal)
    → first_of_row (eld_row rec computed header) ≡ Some refusal
    → fails_with (Some page) refusal ≡ Fails page (bus_why (Refused (Eld f) refusal))
row_fails rec computed header page cpu f refusal h = by_tag (not (bytes_eq rec.tag computed)) (not (is_header header rec.header)) h
  where
    by_header : (c : Bool)
        → (if c then Some (why.BadHeader rec.header.enclave rec.header.address rec.header.flags) else None) ≡ Some refusal
        → fails_with (Some page) refusal ≡ Fails page (bus_why (Refused (Eld f) refusal))
    by_header true k = subst (λ x. fails_with (Some page) x ≡ Fails page (bus_why (Refused (Eld f) x))) (same_Some _ refusal k) refl
    by_header false k = cc

    by_tag : (b c : Bool)
        → (if b then Some (why.MacFail rec.tag computed) else if c then Some
        (why.BadHeader rec.header.enclave rec.header.address rec.header.flags)
        else None) ≡ Some refusal → fails_with (Some page) refusal ≡ Fails page (bus_why (Refused (Eld f) refusal))
    by_tag true c k = subst (λ x. fails_with (Some page) x ≡ Fails page (bus_why (Refused (Eld f) x))) (same_Some _ refusal k) refl
    by_tag false c k = by_header c k

module _ (made : Making) (j : JobView) (past : List Entry) (d d' : Driver) (m : Parts) (t : State) (r : Agrees made j past d m) (cpu : Cpu)
    (page : Page) (f : Frame) (slot : VaSlot) (loading : place past page ≡ Loading f.0 slot) (last : last_of past cpu.0 ≡ Loads f.0 page)
    (room : cpu.0 < length d.kept) (loaded : Loaded) (rec : Sealed)
    (is : IsFinished cpu page slot f rec d (state_of m) loaded d' t) where
  here : IsPlaced d.states.counts page
  here = r.shows.placed page (ap is_absent loading)

  opened_here : load_of (open_start past f.0) ≡ Some page
  opened_here = r.theirs.started cpu.0 f.0 page last

  its : IsBareOf (open_start past f.0) is.reloaded.coming.start
  its = started_as (state_of m) past r.follows.shape.columns f.0 is.reloaded.coming.start is.reloaded.coming.opened

  -- the page for which the frame waits is this one
  same_coming : is.reloaded.coming.page ≡ page
  same_coming = same_Some is.reloaded.coming.page page
      (sym is.reloaded.coming.loads ∙ sym (ap (λ (y : BareStart). y.loads) its.same) ∙ sym (ap load_of its.opened) ∙ opened_here)

  -- it is known of the entry which of the two it is
  by_entry : IsDoneEnd cpu f page is.entry ⊎ IsRefusedEnd cpu f page is.entry
  by_entry =
      by_row (t ≡ after_eld (state_of m) f.0 is.reloaded.coming.start
      (reloaded is.reloaded.coming.page ((state_of m).added is.reloaded.coming.page))
      (cipher (state_of m).key is.reloaded.coming.start.version rec.cipher))
      (λ refusal. t ≡ after_failed_eld (state_of m) f.0 is.reloaded.coming.start)
      (first_of_row (commit_row (state_of m) f.0 is.reloaded.coming rec)) refl is.reloaded.row
    where
      by_row : (X : Type 0) (Y : Refusal → Type 0) (o : Option Refusal)
          → first_of_row (commit_row (state_of m) f.0 is.reloaded.coming rec) ≡ o
          → MatchOption o ((is.entry ≡ did_by (actors.Cpu cpu) (Eld f)
          (Moved is.reloaded.coming.page is.reloaded.coming.start.version rec.tag)) × X)
          (λ refusal. (is.entry ≡ refused_by (actors.Cpu cpu) (Eld f) refusal) × Y refusal)
          → IsDoneEnd cpu f page is.entry ⊎ IsRefusedEnd cpu f page is.entry
      by_row X Y None row k =
          inl (record {
            version = is.reloaded.coming.start.version;
            tag = rec.tag;
            is = k.0 ∙ ap (λ p. did_by (actors.Cpu cpu) (Eld f) (Moved p is.reloaded.coming.start.version rec.tag)) same_coming;
          })
      by_row X Y (Some refusal) row k =
          inr (record {
            refusal = refusal;
            is = k.0;
            fails =
                row_fails rec (tag (state_of m).key is.reloaded.coming.start.version rec.header rec.cipher) (Some is.reloaded.coming.header)
                page cpu f refusal row ∙ ap (λ (e : Entry). Fails page (bus_why e.event)) (sym k.0);
          })

  -- an own page is listed again, another one is only here
  by_kind : (version : ℕ) (tag : List ℕ) → CanMove past (Did (Eld f) (Moved page version tag)) → (b : Bool) → is_own_page page ≡ b
      → ComesBack (record d { kept = slice_set d.kept cpu.0 None }) page f slot d'
      → ShowsTables (drivers j) j d' (did_by (actors.Cpu cpu) (Eld f) (Moved page version tag) ∷ past)
  by_kind version tag can true own back =
      shows_load_end (drivers j) j d d' past cpu f page version tag slot own can loading r.sound here room r.shows (back.0 own)
  by_kind version tag can false aside back =
      shows_load_end_aside (drivers j) j d d' past cpu f page version tag slot aside can loading r.sound here room r.shows
      (came_aside (record d { kept = slice_set d.kept cpu.0 None }) page f slot d'
      (aside_not_ours made j past d m r page slot here aside (ap (slot_at (open_start past)) loading)) (back.1 aside))

  done : IsDoneEnd cpu f page is.entry → IsRightEnd j past cpu page f loaded d'
  done k =
      let went = is.ends.1 (ap (λ (e : Entry). is_refused e.event) k.is) in
      let can : CanMove past (Did (Eld f) (Moved page k.version k.tag)) = (slot, loading) in
      subst (λ l. IsRightEnd j past cpu page f l d') (sym went.0) (record {
        entry = is.entry;
        actor = ap (λ (e : Entry). e.actor) k.is;
        due = subst (λ (e : Entry). IsNext (Ends (Eld f)) e.event) (sym k.is) refl;
        end = (refl, ap (λ (e : Entry). is_refused e.event) k.is);
        kept = subst (λ (e : Entry). CanMove past e.event) (sym k.is) can;
        shows = subst (λ (e : Entry). ShowsTables (drivers j) j d' (e ∷ past)) (sym k.is)
            (by_kind k.version k.tag can (is_own_page page) refl went.1);
      })

  refused : IsRefusedEnd cpu f page is.entry → IsRightEnd j past cpu page f loaded d'
  refused k =
      let went = is.ends.0 (ap (λ (e : Entry). is_refused e.event) k.is) in
      let can : CanMove past (Refused (Eld f) k.refusal) = (page, slot, loading) in
      let shown : ShowsTables (drivers j) j d' (is.entry ∷ past) = subst (λ (e : Entry). ShowsTables (drivers j) j d' (e ∷ past)) (sym k.is)
      (shows_load_refused (drivers j) j d d' past cpu f page slot k.refusal can loading r.sound here room r.shows went.1) in
      let fails : last_of (is.entry ∷ past) cpu.0 ≡ Fails page (bus_why is.entry.event) =
      ap (λ (e : Entry). last_of (e ∷ past) cpu.0) k.is ∙ rw (eq-eqb cpu.0 cpu.0 refl, opened_here) refl ∙ k.fails in
      subst (λ l. IsRightEnd j past cpu page f l d') (sym went.0) (record {
        entry = is.entry;
        actor = ap (λ (e : Entry). e.actor) k.is;
        due = subst (λ (e : Entry). IsNext (Ends (Eld f)) e.event) (sym k.is) refl;
        end = (refl, fails);
        kept = subst (λ (e : Entry). CanMove past e.event) (sym k.is) can;
        shows = (shown, shows_bus (drivers j) j d' (is.entry ∷ past) cpu page (bus_why is.entry.event) (ap loaded_by fails) shown);
      })

  pub end_right : IsRightEnd j past cpu page f loaded d'
  end_right = ⊎_elim done refused by_entry

-- what ends the load that a processor has still to end is right, for whatever entries tables and machine stand for
pub finished_is_right : (made : Making) (j : JobView) (past : List Entry) (d d' : Driver) (m : Parts) (t : State)
    (r : Agrees made j past d m) (cpu : Cpu) (page : Page) (can : CanFinish cpu page d m) (n : ℕ)
    → last_of past cpu.0 ≡ Loads n page → (loaded : Loaded)
    → IsFinished cpu page can.slot can.frame can.kept d (state_of m) loaded d' t → IsRightEnd j past cpu page can.frame loaded d'
finished_is_right made j past d d' m t r cpu page can n last loaded is =
    end_right made j past d d' m t r cpu page can.frame can.slot loading (last ∙ ap (λ k. Loads k page) same) can.room loaded can.kept is
  where
    loading : place past page ≡ Loading can.frame.0 can.slot
    loading = sym (r.shows.states page (placed made j past d m r cpu page n last)) ∙ ap place_in can.tables.loading

    same : n ≡ can.frame.0
    same = frames n can.frame.0 (at made j past d m r cpu page n last).0 can.slot (sym (at made j past d m r cpu page n last).1 ∙ loading)
      where
        frames : (a b : ℕ) (x y : VaSlot) → Loading a x ≡ Loading b y → a ≡ b
        frames a b x y k = cc
