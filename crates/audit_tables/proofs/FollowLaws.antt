-- The tables that an entry leaves show it.
use Rattle.std.proofs.Common.{◌≡◌, ℕ, ◌<◌, Bool, true, false, List, ◌∷◌, Option, Some, None, length, refl, sym, ap, subst}
use Rattle.std.proofs.Common.{◌∙◌}
use Rattle.std.proofs.lemmas.Bool.{false≢true}
use Rattle.sgx_rules.specs.declared.entries.Action.TheVariants as actions
use Rattle.sgx_types.specs.declared.names.Actor.{Actor}
use Rattle.sgx_types.specs.declared.names.Actor.TheVariants as actors
use Rattle.sgx_rules.specs.declared.entries.Answer.{Answer}
use Rattle.sgx_rules.specs.declared.entries.Answer.TheVariants.{Moved}
use Rattle.sgx_rules.specs.declared.entries.Entry.{Entry}
use Rattle.sgx_rules.specs.declared.entries.Event.{Event}
use Rattle.sgx_rules.specs.declared.entries.Event.TheVariants.{Did, Refused, Age, Kick, Bus}
use Rattle.sgx_rules.specs.declared.entries.Look.{Look}
use Rattle.sgx_rules.specs.declared.entries.Look.TheVariants as looks
use Rattle.sgx_types.specs.declared.names.Cpu.{Cpu}
use Rattle.sgx_types.specs.declared.names.Frame.{Frame}
use Rattle.sgx_types.specs.declared.names.Page.{Page}
use Rattle.sgx_types.specs.declared.names.SlotAt.{SlotAt}
use Rattle.sgx_types.specs.declared.names.VaSlot.{VaSlot}
use Rattle.sgx_types.specs.Pages.{is_own_page}
use Rattle.sgx_rules.specs.declared.refusals.Refusal.{Refusal}
use Rattle.sgx_rules.specs.declared.refusals.Refusal.TheVariants as why
use Rattle.sgx_types.specs.Sealed.{Sealed}
use Rattle.sgx_rules.specs.Starts.{open_start}
use Rattle.cached_translations.specs.declared.processor.Mode.{Mode}
use Rattle.job_grammar.specs.Jobs.{JobView}
use Rattle.script_rules.specs.Machines.{machine_of}
use Rattle.driver_list.specs.declared.page_states.PageState.{PageState}
use Rattle.driver_list.specs.declared.page_states.PageState.TheVariants as states
use Rattle.driver_list.specs.inner.Places.{IsPlaced}
use Rattle.driver_list.specs.inner.States.{state_of as page_state, with_state}
use Rattle.driver_slots.specs.inner.Keeper.{Keeper}
use Rattle.machine_laws.specs.inner.Steps.{did_by, refused_by}
use Rattle.sgx_machine.specs.declared.starts.Start as starts
use Rattle.sgx_machine.specs.inner.Parts.{Parts}
use Rattle.driver_rules.specs.Places.{Loading, place, Away}
use Rattle.driver_rules.specs.Turns.{last_of, start_fails}
use Rattle.driver_rules.specs.Spares.{outs}
use Rattle.driver_laws.specs.inner.Agrees.{auditors, loaded_by}
use Rattle.driver_laws.specs.inner.Keeps.{is_epa}
use Rattle.driver_laws.specs.inner.Kinds.{is_quiet}
use Rattle.driver_laws.specs.inner.Loads.{load_ended}
use Rattle.driver_laws.specs.inner.Sound.{is_absent, slot_at}
use Rattle.driver_laws.specs.inner.Tracks.{is_reclaimers}
use Rattle.driver_laws.proofs.EndLaws.{their_rule}
use Rattle.driver_laws.proofs.MarkLaws.{is_markless}
use Rattle.driver_laws.proofs.SoundLaws.{entry_of}
use Rattle.driver_tables.specs.declared.driver.Driver.{Driver}
use Rattle.driver_tables.specs.inner.Moves.{IsLooked, IsLookedAside, slot_away, with_load}
use Rattle.driver_tables.specs.inner.Tables.{ShowsTables, place_in}
use Rattle.driver_tables.proofs.LoadShowLaws.{shows_bus, shows_load_end, shows_load_end_aside, shows_load_refused, shows_load_start}
use Rattle.driver_tables.proofs.OtherShowLaws.{shows_others}
use Rattle.driver_tables.proofs.ShowLaws.{is_slotless, same_out, shows_gone, shows_looked, shows_looked_aside}
use Rattle.driver_tables.proofs.ShowLaws.{shows_occupied, shows_quiet_entry, shows_started}
use Rattle.driver_tables.specs.inner.Tells.{Tells}
use Rattle.due_tables.specs.declared.turns.Turns.{Turns}
use Rattle.due_notes.specs.inner.Arrays.{HasAsMany, KeepsKeeper}
use Rattle.due_notes.proofs.ArrayLaws.{arrays_in_pass, arrays_stay}
use Rattle.due_notes.proofs.NotedLaws.{idle_by}
use Rattle.audit_tables.proofs.AgreeLaws.{tells_by_rules}
use Rattle.audit_tables.specs.inner.Followed.{TablesCanFollow, IsFollowed}
use Rattle.audit_tables.specs.inner.Following.{ComesBack, DoesEvent, HasEnded, HasLooked, HasStarted, IsStarted, away_again, forgetting}
use Rattle.audit_tables.specs.inner.Following.{is_plain_event, with_begun, with_gone, with_refused}
use Rattle.audit_tables.proofs.FitLaws.{has_place, has_room, head_is, looked_there}
use Rattle.audit_tables.proofs.LawfulLaws.{IsLawful, lawful, no_builders_load, not_builders, not_cpus}
use Rattle.audit_tables.proofs.SpareLaws.{leaves_full}
use Rattle.audit_tables.proofs.StartLaws.{begun_load, begun_out, gives_if, open_load, opened_as, ours_of, takes_if}

-- ---- looks

looked_slots : (old new : Driver) (page : Page) (look : Look) → IsLooked old page look new → new.slots ≡ old.slots
looked_slots old new page looks.Taken is = ap (λ (x : Driver). x.slots) is.others
looked_slots old new page looks.Held is = ap (λ (x : Driver). x.slots) is
looked_slots old new page looks.Young is = ap (λ (x : Driver). x.slots) is
looked_slots old new page looks.NoRoom is = ap (λ (x : Driver). x.slots) is

looked_own : (old new : Driver) (page : Page) (look : Look) → IsLooked old page look new → new.active.own ≡ old.active.own
looked_own old new page looks.Taken is = is.list.own
looked_own old new page looks.Held is = ap (λ (x : Driver). x.active.own) is
looked_own old new page looks.Young is = ap (λ (x : Driver). x.active.own) is
looked_own old new page looks.NoRoom is = ap (λ (x : Driver). x.active.own) is

aside_slots : (old new : Driver) (page : Page) (look : Look) → IsLookedAside old page look new → new.slots ≡ old.slots
aside_slots old new page looks.Taken is = ap (λ (x : Driver). x.slots) is
aside_slots old new page looks.Held is = ap (λ (x : Driver). x.slots) is
aside_slots old new page looks.Young is = ap (λ (x : Driver). x.slots) is
aside_slots old new page looks.NoRoom is = ap (λ (x : Driver). x.slots) is

aside_own : (old new : Driver) (page : Page) (look : Look) → IsLookedAside old page look new → new.active.own ≡ old.active.own
aside_own old new page looks.Taken is = ap (λ (x : Driver). x.active.own) is
aside_own old new page looks.Held is = ap (λ (x : Driver). x.active.own) is
aside_own old new page looks.Young is = ap (λ (x : Driver). x.active.own) is
aside_own old new page looks.NoRoom is = ap (λ (x : Driver). x.active.own) is

-- the same keeper
as_many : (old new : Keeper) → new ≡ old → HasAsMany old new
as_many old new same = record { pages = ap (λ (k : Keeper). length k.arrays) same; room = ap (λ (k : Keeper). k.room) same }

-- ---- loads

-- a refused start loads nothing
none_loads : (page : Page) (refusal : Refusal) → loaded_by (start_fails page refusal) ≡ None
none_loads page why.SlotEmpty = refl
none_loads page refusal = refl

-- a page that was loading from a slot is away in it
away_in : (x : PageState) (f : ℕ) (slot : VaSlot) → place_in x ≡ Loading f slot → slot_away x ≡ states.Away slot
away_in (states.Loading g t) f slot h = let same : t ≡ slot = cc in ap states.Away same
away_in states.Absent f slot h = absurd cc
away_in (states.Here g) f slot h = absurd cc
away_in (states.Leaving g) f slot h = absurd cc
away_in (states.Away t) f slot h = absurd cc
away_in (states.Lost t) f slot h = absurd cc

module _ (j : JobView) (past : List Entry) (d : Driver) (m : Parts) (tells : Tells auditors (machine_of j) j past d m)
    (arrays : KeepsKeeper j d.slots past)
    (start : Option starts.Start)
    (rec : Sealed)
    (new : Driver) where
  tables : ShowsTables auditors j d past
  tables = tells.shows

  -- ---- the reclaimer

  in_pass : (ev : Event) → IsLawful j past start (entry_of actors.Reclaimer ev) → HasAsMany d.slots new.slots
      → KeepsKeeper j new.slots (entry_of actors.Reclaimer ev ∷ past)
  in_pass ev law many = arrays_in_pass j (outs j past) d.slots new.slots past ev tells.sound tells.pages law.age (λ aside. many) arrays

  quiet : (ev : Event) → is_quiet ev ≡ true → is_slotless ev ≡ true → is_markless ev ≡ true
      → IsLawful j past start (entry_of actors.Reclaimer ev) → new ≡ d → IsFollowed j past d (entry_of actors.Reclaimer ev) new
  quiet ev still slotless markless law same = record {
    shows = subst (λ x. ShowsTables auditors j x (entry_of actors.Reclaimer ev ∷ past)) (sym same)
        (shows_quiet_entry auditors j d past ev still slotless markless tables);
    own = ap (λ (x : Driver). x.active.own) same;
    arrays = in_pass ev law (as_many d.slots new.slots (ap (λ (x : Driver). x.slots) same));
  }

  -- a slot that a try found in use is left as it was
  occupied : (f : Frame) (to : SlotAt) (version : ℕ)
      → IsLawful j past start (refused_by actors.Reclaimer (actions.EwbStart f to) (why.SlotOccupied version)) → new ≡ d
      → IsFollowed j past d (refused_by actors.Reclaimer (actions.EwbStart f to) (why.SlotOccupied version)) new
  occupied f to version law same = record {
    shows =
        subst (λ x. ShowsTables auditors j x (refused_by actors.Reclaimer (actions.EwbStart f to) (why.SlotOccupied version) ∷ past))
        (sym same)
        (shows_occupied auditors j d d past f to version tells.sound tells.stand (same_out d.slots) refl tables);
    own = ap (λ (x : Driver). x.active.own) same;
    arrays =
        in_pass (Refused (actions.EwbStart f to) (why.SlotOccupied version)) law
        (as_many d.slots new.slots (ap (λ (x : Driver). x.slots) same));
  }

  looked : (page : Page) (look : Look) → IsLawful j past start (entry_of actors.Reclaimer (Age page look)) → HasLooked d page look new
      → IsFollowed j past d (entry_of actors.Reclaimer (Age page look)) new
  looked page look law does = by_own (is_own_page page) refl
    where
      by_own : (b : Bool) → is_own_page page ≡ b → IsFollowed j past d (entry_of actors.Reclaimer (Age page look)) new
      by_own true own = record {
        shows = shows_looked auditors j d new past page (head_is j past d m tells page look law.can own) tells.sound tables
            look (does.0 own)
            (has_place j past d m tells page (looked_there j past d m tells page look law.can law.age));
        own = looked_own d new page look (does.0 own);
        arrays = in_pass (Age page look) law (as_many d.slots new.slots (looked_slots d new page look (does.0 own)));
      }
      by_own false other = record {
        shows = shows_looked_aside auditors j d new past page other tells.sound tables look law.can
            (leaves_full j d.slots past page look tells.sound tells.pages.sealing tables.slots law.age) (does.1 other);
        own = aside_own d new page look (does.1 other);
        arrays = in_pass (Age page look) law (as_many d.slots new.slots (aside_slots d new page look (does.1 other)));
      }

  started : (f : Frame) (to : SlotAt) (answer : Answer)
      → IsLawful j past start (did_by actors.Reclaimer (actions.EwbStart f to) answer) → HasStarted start d new
      → IsFollowed j past d (did_by actors.Reclaimer (actions.EwbStart f to) answer) new
  started f to answer law does = record {
    shows = shows_started auditors j d new past f to answer law.can law.starts.0 law.starts.2 tells.sound
        (law.can.1, law.can.2, takes_if d.slots new.slots law.can.1 is.slots) is.others tables;
    own = ap (λ (x : Driver). x.active.own) is.others;
    arrays = in_pass (Did (actions.EwbStart f to) answer) law (record { pages = is.slots.pages.pages; room = is.slots.pages.room });
  }
    where
      y : (y : starts.Start) × (start ≡ Some y) × (y.slot ≡ law.can.1)
      y = begun_out past actors.Reclaimer f to answer law.can.1 start law.can.2 (law.begun f refl)

      is : IsStarted d law.can.1 new
      is = subst (λ slot. IsStarted d slot new) y.2 (subst (λ s. HasStarted s d new) y.1 does)

  gone : (f : Frame) (page : Page) (version : ℕ) (tag : List ℕ)
      → IsLawful j past start (did_by actors.Reclaimer (actions.Ewb f) (Moved page version tag))
      → new ≡ with_gone start (Moved page version tag) d
      → IsFollowed j past d (did_by actors.Reclaimer (actions.Ewb f) (Moved page version tag)) new
  gone f page version tag law does = record {
    shows = shows_gone auditors j d new past f page version tag law.can.1.0 (states.Away x.slot)
        law.can law.can.1.1 (ap Away at.2) tells.sound (has_place j past d m tells page (ap is_absent law.can.0))
        only tables;
    own = ap (λ (y : Driver). y.active.own) only;
    arrays =
        in_pass (Did (actions.Ewb f) (Moved page version tag)) law (as_many d.slots new.slots (ap (λ (y : Driver). y.slots) only));
  }
    where
      at : (y : starts.Start) × (start ≡ Some y) × (y.slot ≡ law.can.1.0.slot)
      at = opened_as start (open_start past f.0) law.can.1.0 (law.ended f refl) law.can.1.1

      x : starts.Start
      x = at.0

      only : new ≡ with_gone (Some x) (Moved page version tag) d
      only = does ∙ ap (λ s. with_gone s (Moved page version tag) d) at.1

  by_reclaimer : (ev : Event) → is_plain_event ev ≡ false → IsLawful j past start (entry_of actors.Reclaimer ev)
      → DoesEvent start rec actors.Reclaimer ev d new → IsFollowed j past d (entry_of actors.Reclaimer ev) new
  by_reclaimer (Age page look) plain law does = looked page look law does
  by_reclaimer (Kick cpu) plain law does = quiet (Kick cpu) refl refl refl law does
  by_reclaimer (Bus page reason) plain law does = absurd (false≢true (sym law.script.next))
  by_reclaimer (Did (actions.Block f) answer) plain law does =
      quiet (Did (actions.Block f) answer) refl refl refl law does
  by_reclaimer (Did (actions.Track enclave) answer) plain law does =
      quiet (Did (actions.Track enclave) answer) refl refl refl law does
  by_reclaimer (Did (actions.EwbStart f slot) answer) plain law does = started f slot answer law does
  by_reclaimer (Did (actions.Ewb f) (Moved page version tag)) plain law does = gone f page version tag law does
  by_reclaimer (Did (actions.Ewb f) answer) plain law does = absurd law.can
  by_reclaimer (Did (actions.EldStart f page slot) answer) plain law does = absurd (false≢true (sym law.script.next))
  by_reclaimer (Did (actions.Eld f) answer) plain law does = absurd (false≢true (sym law.script.next))
  by_reclaimer (Did action answer) plain law does = absurd (false≢true (sym plain))
  by_reclaimer (Refused (actions.Block f) refusal) plain law does =
      quiet (Refused (actions.Block f) refusal) refl refl refl law does
  by_reclaimer (Refused (actions.Track enclave) refusal) plain law does =
      quiet (Refused (actions.Track enclave) refusal) refl refl refl law does
  by_reclaimer (Refused (actions.EwbStart f slot) (why.SlotOccupied version)) plain law does = occupied f slot version law does
  by_reclaimer (Refused (actions.EwbStart f slot) refusal) plain law does =
      quiet (Refused (actions.EwbStart f slot) refusal) refl refl refl law does
  by_reclaimer (Refused (actions.Ewb f) refusal) plain law does =
      quiet (Refused (actions.Ewb f) refusal) refl refl refl law does
  by_reclaimer (Refused (actions.EldStart f page slot) refusal) plain law does = absurd (false≢true (sym law.script.next))
  by_reclaimer (Refused (actions.Eld f) refusal) plain law does = absurd (false≢true (sym law.script.next))
  by_reclaimer (Refused action refusal) plain law does = absurd (false≢true (sym plain))

  -- ---- processors

  module _ (c : Cpu) where
    not_own : (ev : Event) → IsLawful j past start (entry_of (actors.Cpu c) ev) → is_reclaimers ev ≡ true → ⊥
    not_own ev law own = not_cpus j past c ev law.script own

    room : (ev : Event) → IsLawful j past start (entry_of (actors.Cpu c) ev) → c.0 < length d.kept
    room ev law = has_room j past d m tells c law.script.next.0

    idle : (ev : Event) → IsLawful j past start (entry_of (actors.Cpu c) ev) → load_ended ev ≡ None → loaded_by (last_of past c.0) ≡ None
    idle ev law none = idle_by (last_of past c.0) ev (their_rule j past (entry_of (actors.Cpu c) ev) law.script) none

    -- where the slots stay
    slots_stay : (ev : Event) → is_epa ev ≡ false → HasAsMany d.slots new.slots
        → KeepsKeeper j new.slots (entry_of (actors.Cpu c) ev ∷ past)
    slots_stay ev other many = arrays_stay j d.slots new.slots past (entry_of (actors.Cpu c) ev) refl other many.pages many.room arrays

    begun : (f : Frame) (page : Page) (to : SlotAt) (answer : Answer)
        → IsLawful j past start (did_by (actors.Cpu c) (actions.EldStart f page to) answer)
        → new ≡ with_begun (actors.Cpu c) f page start rec d
        → IsFollowed j past d (did_by (actors.Cpu c) (actions.EldStart f page to) answer) new
    begun f page to answer law does = record {
      shows = subst (λ x. ShowsTables auditors j x (did_by (actors.Cpu c) (actions.EldStart f page to) answer ∷ past)) (sym only)
          (shows_load_start auditors j d past c f page to answer rec law.can.1 law.can law.can.2 tells.sound
          (has_place j past d m tells page (ap is_absent law.can.2)) (room (Did (actions.EldStart f page to) answer) law) tables);
      own = ap (λ (x : Driver). x.active.own) only;
      arrays =
          slots_stay (Did (actions.EldStart f page to) answer) refl (as_many d.slots new.slots (ap (λ (x : Driver). x.slots) only));
    }
      where
        y : (y : starts.Start) × (start ≡ Some y) × (y.slot ≡ law.can.1)
        y = begun_load past (actors.Cpu c) f page to answer law.can.1 start law.can.3 (law.begun f refl)

        only : new ≡ with_load d c page law.can.1 f rec
        only = does ∙ ap (λ s. with_begun (actors.Cpu c) f page s rec d) y.1 ∙ ap (λ slot. with_load d c page slot f rec) y.2

    ended : (f : Frame) (page : Page) (version : ℕ) (tag : List ℕ)
        → IsLawful j past start (did_by (actors.Cpu c) (actions.Eld f) (Moved page version tag))
        → HasEnded (actors.Cpu c) f start (Moved page version tag) d new
        → IsFollowed j past d (did_by (actors.Cpu c) (actions.Eld f) (Moved page version tag)) new
    ended f page version tag law does =
        let k = open_load past f.0 page law.can.0 start tells.sound law.can.1 (law.ended f refl) in
        by_kind k.start.slot k.at (subst (λ s. HasEnded (actors.Cpu c) f s (Moved page version tag) d new) k.is does)
        (is_own_page page) refl
      where
        e : Entry
        e = did_by (actors.Cpu c) (actions.Eld f) (Moved page version tag)

        by_kind : (slot : VaSlot) → place past page ≡ Loading f.0 slot → ComesBack (forgetting d c) page f slot new
            → (b : Bool) → is_own_page page ≡ b
            → IsFollowed j past d (did_by (actors.Cpu c) (actions.Eld f) (Moved page version tag)) new
        by_kind slot at back true own = record {
          shows = shows_load_end auditors j d new past c f page version tag slot own law.can at tells.sound
              (has_place j past d m tells page (ap is_absent at)) (room (Did (actions.Eld f) (Moved page version tag)) law) tables
              (back.0 own);
          own = ap (λ (x : Driver). x.active.own) (back.0 own).others;
          arrays = slots_stay (Did (actions.Eld f) (Moved page version tag)) refl
              (record { pages = (back.0 own).slots.pages.pages; room = (back.0 own).slots.pages.room });
        }
        by_kind slot at back false other = record {
          shows = shows_load_end_aside auditors j d new past c f page version tag slot other law.can at tells.sound
              (has_place j past d m tells page (ap is_absent at)) (room (Did (actions.Eld f) (Moved page version tag)) law) tables
              (record {
                slots = gives_if d.slots new.slots slot
                    (ours_of j d.slots past tables.slots page slot (ap (slot_at (open_start past)) at)) (back.1 other).slots;
                others = (back.1 other).others;
              });
          own = ap (λ (x : Driver). x.active.own) (back.1 other).others;
          arrays = slots_stay (Did (actions.Eld f) (Moved page version tag)) refl
              (record { pages = (back.1 other).slots.pages.pages; room = (back.1 other).slots.pages.room });
        }

    refused : (f : Frame) (refusal : Refusal) → IsLawful j past start (refused_by (actors.Cpu c) (actions.Eld f) refusal)
        → new ≡ with_refused (actors.Cpu c) start d → IsFollowed j past d (refused_by (actors.Cpu c) (actions.Eld f) refusal) new
    refused f refusal law does =
        let k = open_load past f.0 law.can.0 law.can.1 start tells.sound law.can.2 (law.ended f refl) in
        by_page law.can.0 k.start.slot k.at
        (does ∙ ap (λ s. with_refused (actors.Cpu c) s d) k.is ∙ ap (λ o. away_again c o d) k.loads)
      where
        by_page : (page : Page) (slot : VaSlot) → place past page ≡ Loading f.0 slot → new ≡ away_again c (Some page) d
            → IsFollowed j past d (refused_by (actors.Cpu c) (actions.Eld f) refusal) new
        by_page page slot at same = record {
          shows = shows_load_refused auditors j d new past c f page slot refusal law.can at tells.sound there
              (room (Refused (actions.Eld f) refusal) law) tables
              (same
              ∙ ap (λ x. record (forgetting d c) { states = with_state d.states page x })
              (away_in (page_state d.states page) f.0 slot (tables.states page there ∙ at)));
          own = ap (λ (x : Driver). x.active.own) same;
          arrays =
              slots_stay (Refused (actions.Eld f) refusal) refl (as_many d.slots new.slots (ap (λ (x : Driver). x.slots) same));
        }
          where
            there : IsPlaced d.states.counts page
            there = has_place j past d m tells page (ap is_absent at)

    -- nothing changes
    still : (ev : Event) → is_epa ev ≡ false → ShowsTables auditors j d (entry_of (actors.Cpu c) ev ∷ past) → new ≡ d
        → IsFollowed j past d (entry_of (actors.Cpu c) ev) new
    still ev other shown same = record {
      shows = subst (λ x. ShowsTables auditors j x (entry_of (actors.Cpu c) ev ∷ past)) (sym same) shown;
      own = ap (λ (x : Driver). x.active.own) same;
      arrays = slots_stay ev other (as_many d.slots new.slots (ap (λ (x : Driver). x.slots) same));
    }

    by_cpu : (ev : Event) → is_plain_event ev ≡ false → IsLawful j past start (entry_of (actors.Cpu c) ev)
        → DoesEvent start rec (actors.Cpu c) ev d new → IsFollowed j past d (entry_of (actors.Cpu c) ev) new
    by_cpu (Age page look) plain law does = absurd (not_own (Age page look) law refl)
    by_cpu (Kick cpu) plain law does = absurd (not_own (Kick cpu) law refl)
    by_cpu (Bus page reason) plain law does =
        still (Bus page reason) refl (shows_bus auditors j d past c page reason (idle (Bus page reason) law refl) tables) does
    by_cpu (Did (actions.Block f) answer) plain law does = absurd (not_own (Did (actions.Block f) answer) law refl)
    by_cpu (Did (actions.Track enclave) answer) plain law does = absurd (not_own (Did (actions.Track enclave) answer) law refl)
    by_cpu (Did (actions.EwbStart f slot) answer) plain law does = absurd (not_own (Did (actions.EwbStart f slot) answer) law refl)
    by_cpu (Did (actions.Ewb f) answer) plain law does = absurd (not_own (Did (actions.Ewb f) answer) law refl)
    by_cpu (Did (actions.EldStart f page slot) answer) plain law does = begun f page slot answer law does
    by_cpu (Did (actions.Eld f) (Moved page version tag)) plain law does = ended f page version tag law does
    by_cpu (Did (actions.Eld f) answer) plain law does = absurd law.can
    by_cpu (Did action answer) plain law does = absurd (false≢true (sym plain))
    by_cpu (Refused (actions.Block f) refusal) plain law does = absurd (not_own (Refused (actions.Block f) refusal) law refl)
    by_cpu (Refused (actions.Track enclave) refusal) plain law does = absurd (not_own (Refused (actions.Track enclave) refusal) law refl)
    by_cpu (Refused (actions.EwbStart f slot) refusal) plain law does =
        absurd (not_own (Refused (actions.EwbStart f slot) refusal) law refl)
    by_cpu (Refused (actions.Ewb f) refusal) plain law does = absurd (not_own (Refused (actions.Ewb f) refusal) law refl)
    by_cpu (Refused (actions.EldStart f page slot) refusal) plain law does =
        still (Refused (actions.EldStart f page slot) refusal) refl
        (shows_others auditors j d past c (Refused (actions.EldStart f page slot) refusal) refl refl refl
        (idle (Refused (actions.EldStart f page slot) refusal) law refl) (none_loads page refusal) tables) does
    by_cpu (Refused (actions.Eld f) refusal) plain law does = refused f refusal law does
    by_cpu (Refused action refusal) plain law does = absurd (false≢true (sym plain))

  -- ---- the builder makes only plain instructions

  by_builder : (ev : Event) → is_plain_event ev ≡ false → IsLawful j past start (entry_of actors.Builder ev) → ⊥
  by_builder (Age page look) plain law = not_builders j past (Age page look) law.script refl
  by_builder (Kick cpu) plain law = not_builders j past (Kick cpu) law.script refl
  by_builder (Bus page reason) plain law = no_builders_load j past (Bus page reason) law.script refl
  by_builder (Did (actions.Block f) answer) plain law = not_builders j past (Did (actions.Block f) answer) law.script refl
  by_builder (Did (actions.Track enclave) answer) plain law = not_builders j past (Did (actions.Track enclave) answer) law.script refl
  by_builder (Did (actions.EwbStart f slot) answer) plain law = not_builders j past (Did (actions.EwbStart f slot) answer) law.script refl
  by_builder (Did (actions.Ewb f) answer) plain law = not_builders j past (Did (actions.Ewb f) answer) law.script refl
  by_builder (Did (actions.EldStart f page slot) answer) plain law =
      no_builders_load j past (Did (actions.EldStart f page slot) answer) law.script refl
  by_builder (Did (actions.Eld f) answer) plain law = no_builders_load j past (Did (actions.Eld f) answer) law.script refl
  by_builder (Did action answer) plain law = false≢true (sym plain)
  by_builder (Refused (actions.Block f) refusal) plain law = not_builders j past (Refused (actions.Block f) refusal) law.script refl
  by_builder (Refused (actions.Track enclave) refusal) plain law =
      not_builders j past (Refused (actions.Track enclave) refusal) law.script refl
  by_builder (Refused (actions.EwbStart f slot) refusal) plain law =
      not_builders j past (Refused (actions.EwbStart f slot) refusal) law.script refl
  by_builder (Refused (actions.Ewb f) refusal) plain law = not_builders j past (Refused (actions.Ewb f) refusal) law.script refl
  by_builder (Refused (actions.EldStart f page slot) refusal) plain law =
      no_builders_load j past (Refused (actions.EldStart f page slot) refusal) law.script refl
  by_builder (Refused (actions.Eld f) refusal) plain law = no_builders_load j past (Refused (actions.Eld f) refusal) law.script refl
  by_builder (Refused action refusal) plain law = false≢true (sym plain)

  by_actor : (a : Actor) (ev : Event) → is_plain_event ev ≡ false → IsLawful j past start (entry_of a ev)
      → DoesEvent start rec a ev d new → IsFollowed j past d (entry_of a ev) new
  by_actor actors.Builder ev plain law does = absurd (by_builder ev plain law)
  by_actor (actors.Cpu c) ev plain law does = by_cpu c ev plain law does
  by_actor actors.Reclaimer ev plain law does = by_reclaimer ev plain law does

-- ---- any entry

pub entry_followed : (t : Turns) (d new : Driver) (before : Mode) (start : Option starts.Start) (rec : Sealed) (e : Entry)
    (can : TablesCanFollow t d before start e)
    → is_plain_event e.event ≡ false → DoesEvent start rec e.actor e.event d new → IsFollowed can.j can.past d e new
entry_followed t d new before start rec e can plain does =
    by_actor can.j can.past d can.m (tells_by_rules can.j can.past d can.m t can.trace) can.arrays start rec new e.actor e.event plain
    (lawful t d before start e can) does
