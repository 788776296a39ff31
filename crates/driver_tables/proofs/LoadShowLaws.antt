-- The driver's tables behind the entries of a processor's load.
use Rattle.std.proofs.Common.{◌≡◌, ℕ, ◌<◌, ◌++◌, Bool, true, false, List, [], ◌∷◌, Option, None, Some, length, map}
use Rattle.std.proofs.Common.{slice_set, refl, sym, ap, subst, ◌∙◌}
use Rattle.std.proofs.lemmas.Bool.{eqb-true, eqb-false}
use Rattle.std.proofs.lemmas.List.{get_or-set_other, get_or-set_same, length-set}
use Rattle.sgx_types.specs.declared.names.Actor.TheVariants as actors
use Rattle.sgx_rules.specs.declared.entries.Action.TheVariants.{Eld, EldStart}
use Rattle.sgx_rules.specs.declared.entries.Answer.{Answer}
use Rattle.sgx_rules.specs.declared.entries.Answer.TheVariants.{Moved}
use Rattle.sgx_rules.specs.declared.entries.BusWhy.{BusWhy}
use Rattle.sgx_rules.specs.declared.entries.Entry.{Entry}
use Rattle.sgx_rules.specs.declared.entries.Event.{Event}
use Rattle.sgx_rules.specs.declared.entries.Event.TheVariants.{Bus, Did, Refused}
use Rattle.sgx_types.specs.declared.names.Cpu.{Cpu}
use Rattle.sgx_types.specs.declared.names.Frame.{Frame}
use Rattle.sgx_types.specs.declared.names.Page.{Page}
use Rattle.sgx_types.specs.declared.names.SlotAt.{SlotAt}
use Rattle.sgx_types.specs.declared.names.VaSlot.{VaSlot}
use Rattle.sgx_types.specs.Pages.{is_own_page, va_page}
use Rattle.sgx_rules.specs.declared.refusals.Refusal.{Refusal}
use Rattle.sgx_rules.specs.declared.refusals.Refusal.TheVariants as why
use Rattle.sgx_rules.specs.Processors.{is_by}
use Rattle.sgx_types.specs.Sealed.{Sealed}
use Rattle.sgx_rules.specs.Starts.{open_start}
use Rattle.job_grammar.specs.Jobs.{JobView}
use Rattle.driver_list.specs.declared.ring.Listed as ring
use Rattle.driver_list.specs.declared.page_states.PageState.TheVariants as states
use Rattle.driver_list.specs.inner.Keeping.{Kept, keeping, kept_at, page_kept}
use Rattle.driver_list.specs.inner.Places.{IsPlaced}
use Rattle.driver_list.specs.inner.States.{with_state, StateTable}
use Rattle.driver_list.specs.inner.Active.{ActiveList, pushed}
use Rattle.driver_rules.specs.Places.{Away, is_here, Loading, place}
use Rattle.driver_rules.specs.Turns.{fails_with, last_by, last_of, load_of}
use Rattle.driver_laws.specs.inner.Agrees.{Keeping, ShowsSlots, loaded_by}
use Rattle.driver_laws.specs.inner.Keeps.{GivesIf}
use Rattle.driver_slots.specs.inner.Keeper.{is_ours, Keeper}
use Rattle.driver_laws.specs.inner.Kinds.{CanMove}
use Rattle.driver_laws.specs.inner.Sound.{IsSound}
use Rattle.driver_laws.proofs.KeeperGives.{shows_eld}
use Rattle.driver_laws.proofs.KeeperRests.{shows_eldstart, shows_refused}
use Rattle.driver_laws.proofs.KeeperTakes.{is_less, IsLess}
use Rattle.driver_laws.proofs.MarkLaws.{listed-eld, listed-eld-other, listed-quiet}
use Rattle.driver_laws.proofs.MoveLaws.{loads-other, place-eld, place-eld-other, place-eld-refused, place-eld-refused-other}
use Rattle.driver_laws.proofs.MoveLaws.{place-eldstart}
use Rattle.driver_laws.proofs.MoveLaws.{place-eldstart-other, place-quiet}
use Rattle.driver_laws.proofs.SoundLaws.{entry_of, load_start}
use Rattle.driver_tables.specs.declared.driver.Driver.{Driver}
use Rattle.driver_tables.specs.inner.Moves.{IsLoaded, IsLoadedAside, with_here, with_load}
use Rattle.driver_tables.specs.inner.Tables.{ShowsTables, listed}
use Rattle.driver_tables.proofs.ShowLaws.{gives_none, shows_moved, shows_quiet, shows_still, IsSameJob}

-- ---- copies

-- what is kept for a processor is set by its own entry
copies_set : (kept : List (Option Kept)) (past : List Entry) (c : Cpu) (ev : Event) (new : Option Kept)
    → ((p : ℕ) → page_kept (kept_at kept p) ≡ loaded_by (last_of past p)) → c.0 < length kept
    → page_kept new ≡ loaded_by (last_by ev (open_start past)) → (p : ℕ)
    → page_kept (kept_at (slice_set kept c.0 new) p) ≡ loaded_by (last_of (entry_of (actors.Cpu c) ev ∷ past) p)
copies_set kept past c ev new copies room own p = by_test (is_by p (actors.Cpu c)) refl
  where
    by_test : (b : Bool) → is_by p (actors.Cpu c) ≡ b
        → page_kept (kept_at (slice_set kept c.0 new) p) ≡ loaded_by (last_of (entry_of (actors.Cpu c) ev ∷ past) p)
    by_test true is =
        ap (λ q. page_kept (kept_at (slice_set kept c.0 new) q)) (sym (eqb-true c.0 p is))
        ∙ ap page_kept (get_or-set_same kept c.0 new None room) ∙ own ∙ rw is refl
    by_test false is =
        ap page_kept (get_or-set_other kept c.0 p new None (λ k. eqb-false c.0 p is (sym k))) ∙ copies p
        ∙ sym (ap loaded_by (loads-other past (entry_of (actors.Cpu c) ev) p is))

-- nothing is kept before and behind
pub copies_none : (kept : List (Option Kept)) (past : List Entry) (c : Cpu) (ev : Event)
    → ((p : ℕ) → page_kept (kept_at kept p) ≡ loaded_by (last_of past p)) → loaded_by (last_of past c.0) ≡ None
    → loaded_by (last_by ev (open_start past)) ≡ None → (p : ℕ)
    → page_kept (kept_at kept p) ≡ loaded_by (last_of (entry_of (actors.Cpu c) ev ∷ past) p)
copies_none kept past c ev copies idle own p = by_test (is_by p (actors.Cpu c)) refl
  where
    by_test : (b : Bool) → is_by p (actors.Cpu c) ≡ b → page_kept (kept_at kept p) ≡ loaded_by
        (last_of (entry_of (actors.Cpu c) ev ∷ past) p)
    by_test true is =
        copies p ∙ ap (λ q. loaded_by (last_of past q)) (sym (eqb-true c.0 p is)) ∙ idle ∙ sym own ∙ rw is refl
    by_test false is = copies p ∙ sym (ap loaded_by (loads-other past (entry_of (actors.Cpu c) ev) p is))

-- ---- a load

-- the load of a page, of any kind, has started from the slot in which it is
pub shows_load_start : (k : Keeping) (j : JobView) (d : Driver) (past : List Entry) (c : Cpu) (f : Frame) (page : Page) (to : SlotAt)
    (answer : Answer) (rec : Sealed) (slot : VaSlot) → CanMove past (Did (EldStart f page to) answer) → place past page ≡ Away slot
    → IsSound past → IsPlaced d.states.counts page → c.0 < length d.kept → ShowsTables k j d past
    → ShowsTables k j (with_load d c page slot f rec) (entry_of (actors.Cpu c) (Did (EldStart f page to) answer) ∷ past)
shows_load_start k j d past c f page to answer rec slot can away sound here room t =
    shows_moved k j d (with_load d c page slot f rec) past (entry_of (actors.Cpu c) (Did (EldStart f page to) answer)) page
    (states.Loading f slot) t here
    (record {
      here = place-eldstart past (actors.Cpu c) f page to answer slot away;
      others = λ q other. place-eldstart-other past (actors.Cpu c) f page q to answer other;
    }) refl (record {
      active = refl;
      rooms = length-set d.kept c.0 (Some (keeping page rec));
      marks = refl;
      cpus = refl;
      enclaves = refl;
      arrays = refl;
    }) (record {
      list = t.list ∙ sym (listed-quiet past (entry_of (actors.Cpu c) (Did (EldStart f page to) answer)) refl);
      slots = shows_eldstart k j d.slots past (actors.Cpu c) f page to answer can sound t.slots;
      copies = copies_set d.kept past c (Did (EldStart f page to) answer) (Some (keeping page rec)) t.copies room refl;
    })

-- the page of the slot of a load is here
slot_page : (past : List Entry) (f : Frame) (page : Page) (slot : VaSlot) → place past page ≡ Loading f.0 slot → IsSound past
    → is_here (place past (va_page slot.va)) ≡ true
slot_page past f page slot at sound =
    let start = load_start past f.0 page slot sound at in
    subst (λ (s : VaSlot). is_here (place past (va_page s.va)) ≡ true) start.2 (sound.arrays.named f.0 start.0 start.1)

-- the tables are of the same job where a copy is dropped and a page came back
same_job : (old new : Driver) (c : Cpu) (active : ActiveList) (table : StateTable) (slots : Keeper)
    → new ≡ record old { kept = slice_set old.kept c.0 None; active = active; states = table; slots = slots }
    → active.counts ≡ old.active.counts → IsSameJob old new
same_job old new c active table slots is counts = record {
  active = ap (λ (d : Driver). d.active.counts) is ∙ counts;
  rooms = ap (λ (d : Driver). length d.kept) is ∙ length-set old.kept c.0 None;
  marks = ap (λ (d : Driver). d.marks) is;
  cpus = ap (λ (d : Driver). d.cpus) is;
  enclaves = ap (λ (d : Driver). d.enclaves) is;
  arrays = ap (λ (d : Driver). d.va_pages) is;
}

-- the end of a load that was not refused, of a TCS or REG page
pub shows_load_end : (k : Keeping) (j : JobView) (old new : Driver) (past : List Entry) (c : Cpu) (f : Frame) (page : Page) (version : ℕ)
    (tag : List ℕ) (slot : VaSlot) → is_own_page page ≡ true → CanMove past (Did (Eld f) (Moved page version tag))
    → place past page ≡ Loading f.0 slot → IsSound past → IsPlaced old.states.counts page → c.0 < length old.kept
    → ShowsTables k j old past → IsLoaded (record old { kept = slice_set old.kept c.0 None }) page f slot new
    → ShowsTables k j new (entry_of (actors.Cpu c) (Did (Eld f) (Moved page version tag)) ∷ past)
shows_load_end k j old new past c f page version tag slot own can at sound here room t is =
    shows_moved k j old new past (entry_of (actors.Cpu c) (Did (Eld f) (Moved page version tag))) page (states.Here f) t here
    (record {
      here = place-eld past (actors.Cpu c) f page version tag;
      others = λ q other. place-eld-other past (actors.Cpu c) f page q version tag other;
    }) (ap (λ (d : Driver). d.states) is.others)
    (same_job old new c (pushed old.active page) (with_state old.states page (states.Here f)) new.slots is.others refl) (record {
      list =
          ap (λ (d : Driver). map listed d.active.pages) is.others ∙ map_push old.active.pages
          ∙ ap (λ xs. xs ++ record { page = page; young = false } ∷ []) t.list
          ∙ sym (listed-eld past (actors.Cpu c) f page version tag own can sound);
      slots =
          shows_eld k j old.slots new.slots past (actors.Cpu c) f page version tag slot at sound (slot_page past f page slot at sound) less
          t.slots;
      copies = λ p. ap (λ (d : Driver). page_kept (kept_at d.kept p)) is.others
          ∙ copies_set old.kept past c (Did (Eld f) (Moved page version tag)) None t.copies room refl p;
    })
  where
    map_push : (xs : List ring.Listed)
        → map listed (xs ++ record { page = page; young = false } ∷ []) ≡ map listed xs ++ record { page = page; young = false } ∷ []
    map_push [] = refl
    map_push (x ∷ xs) = ap (λ zs. listed x ∷ zs) (map_push xs)

    less : IsLess old.slots new.slots slot
    less = record { pages = is.slots.pages; out = λ s ours. is.slots.out s }

-- .. of a SECS or a version array page
pub shows_load_end_aside : (k : Keeping) (j : JobView) (old new : Driver) (past : List Entry) (c : Cpu) (f : Frame) (page : Page)
    (version : ℕ) (tag : List ℕ) (slot : VaSlot) → is_own_page page ≡ false → CanMove past (Did (Eld f) (Moved page version tag))
    → place past page ≡ Loading f.0 slot → IsSound past → IsPlaced old.states.counts page → c.0 < length old.kept
    → ShowsTables k j old past → IsLoadedAside (record old { kept = slice_set old.kept c.0 None }) page f slot new
    → ShowsTables k j new (entry_of (actors.Cpu c) (Did (Eld f) (Moved page version tag)) ∷ past)
shows_load_end_aside k j old new past c f page version tag slot aside can at sound here room t is =
    shows_moved k j old new past (entry_of (actors.Cpu c) (Did (Eld f) (Moved page version tag))) page (states.Here f) t here
    (record {
      here = place-eld past (actors.Cpu c) f page version tag;
      others = λ q other. place-eld-other past (actors.Cpu c) f page q version tag other;
    }) (ap (λ (d : Driver). d.states) is.others)
    (same_job old new c old.active (with_state old.states page (states.Here f)) new.slots is.others refl) (record {
      list =
          ap (λ (d : Driver). map listed d.active.pages) is.others ∙ t.list
          ∙ sym (listed-eld-other past (actors.Cpu c) f page version tag aside sound);
      slots =
          shows_eld k j old.slots new.slots past (actors.Cpu c) f page version tag slot at sound (slot_page past f page slot at sound)
          (is_less old.slots new.slots slot is.slots) t.slots;
      copies = λ p. ap (λ (d : Driver). page_kept (kept_at d.kept p)) is.others
          ∙ copies_set old.kept past c (Did (Eld f) (Moved page version tag)) None t.copies room refl p;
    })

-- a slot that is none of the keeper's is not given back
pub came_aside : (old : Driver) (page : Page) (f : Frame) (slot : VaSlot) (new : Driver) → is_ours old.slots slot ≡ false
    → new ≡ with_here old page f → IsLoadedAside old page f slot new
came_aside old page f slot new other is = record {
  slots = subst (GivesIf old.slots slot) (sym same) (gives_none old.slots slot other);
  others = is ∙ ap (λ keeper. record old { states = with_state old.states page (states.Here f); slots = keeper }) (sym same);
}
  where
    same : new.slots ≡ old.slots
    same = ap (λ (d : Driver). d.slots) is

-- what a refusal leaves is no load
no_load : (page : Option Page) (refusal : Refusal) → loaded_by (fails_with page refusal) ≡ None
no_load None refusal = refl
no_load (Some page) (why.MacFail given computed) = refl
no_load (Some page) (why.BadHeader enclave address flags) = refl
no_load (Some page) _ = refl

-- the end of a load that was refused, of a page of any kind
pub shows_load_refused : (k : Keeping) (j : JobView) (old new : Driver) (past : List Entry) (c : Cpu) (f : Frame) (page : Page)
    (slot : VaSlot) (refusal : Refusal) → CanMove past (Refused (Eld f) refusal) → place past page ≡ Loading f.0 slot → IsSound past
    → IsPlaced old.states.counts page → c.0 < length old.kept → ShowsTables k j old past
    → new ≡ record old { states = with_state old.states page (states.Away slot); kept = slice_set old.kept c.0 None }
    → ShowsTables k j new (entry_of (actors.Cpu c) (Refused (Eld f) refusal) ∷ past)
shows_load_refused k j old new past c f page slot refusal can at sound here room t only =
    shows_moved k j old new past (entry_of (actors.Cpu c) (Refused (Eld f) refusal)) page (states.Away slot) t here
    (record {
      here = place-eld-refused past (actors.Cpu c) f refusal page slot at;
      others = λ q other. place-eld-refused-other past (actors.Cpu c) f refusal page q slot sound at other;
    }) (ap (λ (d : Driver). d.states) only) (record {
      active = ap (λ (d : Driver). d.active.counts) only;
      rooms = ap (λ (d : Driver). length d.kept) only ∙ length-set old.kept c.0 None;
      marks = ap (λ (d : Driver). d.marks) only;
      cpus = ap (λ (d : Driver). d.cpus) only;
      enclaves = ap (λ (d : Driver). d.enclaves) only;
      arrays = ap (λ (d : Driver). d.va_pages) only;
    }) (record {
      list =
          ap (λ (d : Driver). map listed d.active.pages) only ∙ t.list
          ∙ sym (listed-quiet past (entry_of (actors.Cpu c) (Refused (Eld f) refusal)) refl);
      slots =
          subst (λ keeper. ShowsSlots k j keeper (entry_of (actors.Cpu c) (Refused (Eld f) refusal) ∷ past))
          (sym (ap (λ (d : Driver). d.slots) only)) (shows_refused k j old.slots past (actors.Cpu c) f refusal can sound t.slots);
      copies = λ p. ap (λ (d : Driver). page_kept (kept_at d.kept p)) only
          ∙ copies_set old.kept past c (Refused (Eld f) refusal) None t.copies room
          (sym (no_load (load_of (open_start past f.0)) refusal)) p;
    })

-- a processor that loads nothing tells why a page did not come back
pub shows_bus : (k : Keeping) (j : JobView) (d : Driver) (past : List Entry) (c : Cpu) (page : Page) (why : BusWhy)
    → loaded_by (last_of past c.0) ≡ None → ShowsTables k j d past → ShowsTables k j d (entry_of (actors.Cpu c) (Bus page why) ∷ past)
shows_bus k j d past c page why idle t =
    shows_still k j d d past (entry_of (actors.Cpu c) (Bus page why)) t
    (λ q. place-quiet past (entry_of (actors.Cpu c) (Bus page why)) q refl) refl
    (record { active = refl; rooms = refl; marks = refl; cpus = refl; enclaves = refl; arrays = refl }) (record {
      list = t.list ∙ sym (listed-quiet past (entry_of (actors.Cpu c) (Bus page why)) refl);
      slots = shows_quiet k j d.slots past (entry_of (actors.Cpu c) (Bus page why)) refl t.slots;
      copies = copies_none d.kept past c (Bus page why) t.copies idle refl;
    })
