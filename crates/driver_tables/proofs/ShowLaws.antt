-- The driver's tables behind one entry more.
use Rattle.std.proofs.Common.{◌≡◌, ℕ, ◌++◌, ◌&&◌, not, Bool, true, false, cond, List, [], ◌∷◌, None, Some, drop, length, map}
use Rattle.std.proofs.Common.{nat_lt, refl, sym, ap, subst, ◌∙◌}
use Rattle.std.proofs.lemmas.Bool.{cond-true, cond-false, false≢true}
use Rattle.std.proofs.lemmas.List.{length-set}
use Rattle.std.proofs.lemmas.Option.{same_Some}
use Rattle.sgx_types.proofs.Pages.{same_page-refl, same_pages}
use Rattle.sgx_types.specs.declared.names.Actor.TheVariants as actors
use Rattle.sgx_rules.specs.declared.entries.Action.TheVariants.{Add, Create, Eld, EldStart, Epa, Ewb, EwbStart}
use Rattle.sgx_rules.specs.declared.entries.Answer.{Answer}
use Rattle.sgx_rules.specs.declared.entries.Answer.TheVariants.{Moved}
use Rattle.sgx_rules.specs.declared.entries.Entry.{Entry}
use Rattle.sgx_rules.specs.declared.entries.Event.{Event}
use Rattle.sgx_rules.specs.declared.entries.Event.TheVariants.{Age, Did, Refused}
use Rattle.sgx_rules.specs.declared.entries.Look.{Look}
use Rattle.sgx_rules.specs.declared.entries.Look.TheVariants as looks
use Rattle.sgx_types.specs.declared.names.Frame.{Frame}
use Rattle.sgx_types.specs.declared.names.Page.{Page}
use Rattle.sgx_types.specs.declared.names.SlotAt.{SlotAt}
use Rattle.sgx_types.specs.declared.names.VaSlot.{VaSlot}
use Rattle.sgx_types.specs.Pages.{is_own_page, is_va_page, same_page, va_page}
use Rattle.sgx_rules.specs.declared.refusals.Refusal.TheVariants as why
use Rattle.sgx_rules.specs.Starts.{Start, open_start}
use Rattle.job_grammar.specs.Jobs.{JobView}
use Rattle.driver_list.specs.declared.ring.Listed as ring
use Rattle.driver_list.specs.declared.page_states.PageState.{PageState}
use Rattle.driver_list.specs.declared.page_states.PageState.TheVariants as states
use Rattle.driver_list.specs.inner.Keeping.{kept_at, page_kept}
use Rattle.driver_list.specs.inner.Listing.{turn}
use Rattle.driver_list.specs.inner.Places.{IsPlaced, place_of, total}
use Rattle.driver_list.specs.inner.States.{state_of, with_state}
use Rattle.driver_list.proofs.StateLaws.{state_of-with_state}
use Rattle.driver_slots.specs.inner.Keeper.{is_ours, Keeper}
use Rattle.driver_rules.specs.Ages.{head_of}
use Rattle.driver_rules.specs.Places.{Absent, Away, Here, is_here, Leaving, Loading, Place, active, place}
use Rattle.driver_rules.specs.Turns.{last_of}
use Rattle.driver_laws.specs.inner.Agrees.{Keeping, ShowsSlots, listed_by, loaded_by, turned}
use Rattle.driver_laws.specs.inner.Keeps.{GivesIf, IsSameOut, KeeperMoves, LeavesFull, TakesIf}
use Rattle.driver_laws.specs.inner.Used.{VersionsStand}
use Rattle.driver_laws.specs.inner.Kinds.{CanMove, is_quiet}
use Rattle.driver_laws.specs.inner.Sound.{IsSound, is_absent}
use Rattle.driver_laws.proofs.KeeperRests.{shows_age, shows_ewb}
use Rattle.driver_laws.proofs.KeeperTakes.{is_more, shows_ewbstart}
use Rattle.driver_laws.proofs.KeepLaws.{stays_shown}
use Rattle.driver_laws.proofs.MarkLaws.{head_own, is_markless, listed-aside, listed-held, listed-noroom, listed-quiet, listed-taken}
use Rattle.driver_laws.proofs.MarkLaws.{listed-young}
use Rattle.driver_laws.proofs.MoveLaws.{place-ewb, place-ewb-other, place-held, place-noroom, place-quiet, place-taken}
use Rattle.driver_laws.proofs.MoveLaws.{place-taken-other}
use Rattle.driver_laws.proofs.MoveLaws.{place-young}
use Rattle.driver_laws.proofs.SoundLaws.{entry_of, head_here, frame_of_here}
use Rattle.driver_tables.specs.declared.driver.Driver.{Driver}
use Rattle.driver_tables.specs.inner.Moves.{IsLooked, IsLookedAside, IsTakenOff, frame_in, leaving_of}
use Rattle.driver_tables.specs.inner.Tables.{ShowsTables, listed, place_in}

-- the frame of a page that is here
pub here_frame : (state : PageState) (n : ℕ) → place_in state ≡ Here n → (frame_in state).0 ≡ n
here_frame (states.Here f) n h = cc
here_frame states.Absent n h = cc
here_frame (states.Leaving f) n h = cc
here_frame (states.Loading f slot) n h = cc
here_frame (states.Away slot) n h = cc
here_frame (states.Lost slot) n h = cc

-- ---- in general

-- an entry moves one page to a place, and no other
pub record MovesOne (past : List Entry) (e : Entry) (g : Page) (to : Place) : Type 0 where
  pub here : place (e ∷ past) g ≡ to
  pub others : (q : Page) → same_page g q ≡ false → place (e ∷ past) q ≡ place past q

-- what no entry changes
pub record IsSameJob (old new : Driver) : Type 0 where
  pub active : new.active.counts ≡ old.active.counts
  pub rooms : length new.kept ≡ length old.kept
  pub marks : new.marks ≡ old.marks
  pub cpus : new.cpus ≡ old.cpus
  pub enclaves : new.enclaves ≡ old.enclaves
  pub arrays : new.va_pages ≡ old.va_pages

-- the parts that an entry may change besides the states of pages
pub record ShowsRest (k : Keeping) (j : JobView) (new : Driver) (past : List Entry) : Type 0 where
  pub list : map listed new.active.pages ≡ listed_by past
  pub slots : ShowsSlots k j new.slots past
  pub copies : (p : ℕ) → page_kept (kept_at new.kept p) ≡ loaded_by (last_of past p)

pub rest_of : (k : Keeping) (j : JobView) (d : Driver) (past : List Entry) → ShowsTables k j d past → ShowsRest k j d past
rest_of k j d past t = record { list = t.list; slots = t.slots; copies = t.copies }

absent_stays : (a b : Place) → a ≡ b → is_absent a ≡ false → is_absent b ≡ false
absent_stays a b e k = sym (ap is_absent e) ∙ k

-- no page moves
pub shows_still : (k : Keeping) (j : JobView) (old new : Driver) (past : List Entry) (e : Entry) → ShowsTables k j old past
    → ((q : Page) → place (e ∷ past) q ≡ place past q) → new.states ≡ old.states → IsSameJob old new → ShowsRest k j new (e ∷ past)
    → ShowsTables k j new (e ∷ past)
shows_still k j old new past e t still states same rest = record {
  list = rest.list;
  states = λ q h. ap (λ (s : _). place_in (state_of s q)) states ∙ t.states q (subst (λ s. IsPlaced s.counts q) states h) ∙ sym (still q);
  placed = λ q h. subst (λ s. IsPlaced s.counts q) (sym states) (t.placed q (absent_stays (place (e ∷ past) q) (place past q) (still q) h));
  slots = rest.slots;
  copies = rest.copies;
  counts = ap (λ (s : _). s.counts) states ∙ t.counts ∙ sym same.active;
  of_job = same.active ∙ t.of_job;
  sized = subst (λ s. length s.states ≡ total s.counts) (sym states) t.sized;
  rooms = same.rooms ∙ t.rooms ∙ sym same.cpus;
  marks = same.marks ∙ t.marks;
  cpus = same.cpus ∙ t.cpus;
  few = rw (same.cpus) t.few;
  enclaves = same.enclaves ∙ t.enclaves;
  few_enclaves = rw (same.enclaves) t.few_enclaves;
  arrays = same.arrays ∙ t.arrays;
  few_arrays = rw (same.arrays) t.few_arrays;
}

-- one page moves
pub shows_moved : (k : Keeping) (j : JobView) (old new : Driver) (past : List Entry) (e : Entry) (g : Page) (state : PageState)
    → ShowsTables k j old past → IsPlaced old.states.counts g → MovesOne past e g (place_in state)
    → new.states ≡ with_state old.states g state → IsSameJob old new → ShowsRest k j new (e ∷ past) → ShowsTables k j new (e ∷ past)
shows_moved k j old new past e g state t here moves states same rest = record {
  list = rest.list;
  states = λ q h. ap (λ (s : _). place_in (state_of s q)) states ∙ by_page q (subst (λ s. IsPlaced s.counts q) states h)
      (same_page q g) refl;
  placed = λ q h. subst (λ s. IsPlaced s.counts q) (sym states) (is_placed q h (same_page g q) refl);
  slots = rest.slots;
  copies = rest.copies;
  counts = ap (λ (s : _). s.counts) states ∙ t.counts ∙ sym same.active;
  of_job = same.active ∙ t.of_job;
  sized = subst (λ s. length s.states ≡ total s.counts) (sym states) new_sized;
  rooms = same.rooms ∙ t.rooms ∙ sym same.cpus;
  marks = same.marks ∙ t.marks;
  cpus = same.cpus ∙ t.cpus;
  few = rw (same.cpus) t.few;
  enclaves = same.enclaves ∙ t.enclaves;
  few_enclaves = rw (same.enclaves) t.few_enclaves;
  arrays = same.arrays ∙ t.arrays;
  few_arrays = rw (same.arrays) t.few_arrays;
}
  where
    new_sized : length (with_state old.states g state).states ≡ total (with_state old.states g state).counts
    new_sized = length-set old.states.states (place_of old.states.counts g) state ∙ t.sized

    reads : (q : Page) → IsPlaced old.states.counts q
        → state_of (with_state old.states g state) q ≡ cond (same_page q g) state (state_of old.states q)
    reads q k = state_of-with_state old.states g q state t.sized here k

    by_page : (q : Page) → IsPlaced old.states.counts q → (b : Bool) → same_page q g ≡ b
        → place_in (state_of (with_state old.states g state) q) ≡ place (e ∷ past) q
    by_page q k true is =
        ap place_in (reads q k ∙ cond-true (same_page q g) state (state_of old.states q) is) ∙ sym moves.here
        ∙ ap (place (e ∷ past)) (sym (same_pages q g is))
    by_page q k false is =
        ap place_in (reads q k ∙ cond-false (same_page q g) state (state_of old.states q) is) ∙ t.states q k
        ∙ sym (moves.others q (other (same_page g q) refl))
      where
        other : (c : Bool) → same_page g q ≡ c → same_page g q ≡ false
        other true both = absurd (false≢true (sym is ∙ ap (λ r. same_page q r) (same_pages g q both) ∙ same_page-refl q))
        other false both = both

    is_placed : (q : Page) → is_absent (place (e ∷ past) q) ≡ false → (b : Bool) → same_page g q ≡ b → IsPlaced old.states.counts q
    is_placed q k true is = subst (IsPlaced old.states.counts) (same_pages g q is) here
    is_placed q k false is = t.placed q (absent_stays (place (e ∷ past) q) (place past q) (moves.others q is) k)

-- ---- slots

-- an entry by which no slot of a keeper is taken or given back
abbrev pub is_slotless : Event → Bool
is_slotless (Did (EwbStart f slot) answer) = false
is_slotless (Refused (EwbStart f slot) (why.SlotOccupied version)) = false
is_slotless event = is_quiet event

pub shows_quiet : (k : Keeping) (j : JobView) (keeper : Keeper) (past : List Entry) (e : Entry) → is_slotless e.event ≡ true
    → ShowsSlots k j keeper past → ShowsSlots k j keeper (e ∷ past)
shows_quiet k j keeper past e quiet s = by_event e.event quiet
  where
    by_event : (ev : Event) → is_slotless ev ≡ true → ShowsSlots k j keeper (entry_of e.actor ev ∷ past)
    by_event (Did (Epa f) answer) h = cc
    by_event (Did (Create n f base size) answer) h = cc
    by_event (Did (Add n number f kind perm init) answer) h = cc
    by_event (Did (EwbStart f slot) answer) h = cc
    by_event (Did (Ewb f) answer) h = cc
    by_event (Did (EldStart f page slot) answer) h = cc
    by_event (Did (Eld f) answer) h = cc
    by_event (Refused (Eld f) refusal) h = cc
    by_event (Refused (EwbStart f slot) (why.SlotOccupied version)) h = cc
    by_event (Age page look) h = cc
    by_event _ h = record {
      ours = s.ours;
      placed = s.placed;
      within = s.within;
      tried = s.tried;
      added = s.added;
      made = s.made;
      out = s.out;
      used = s.used;
      kept = s.kept;
      alone = s.alone;
      empty = s.empty;
      here = s.here;
    }

-- a keeper that does not move
pub same_out : (keeper : Keeper) → IsSameOut keeper keeper
same_out keeper = record {
  pages = record { added = λ va. refl; ours = λ s. refl; pages = refl; all = refl; room = refl };
  out = λ s. refl;
  counted = refl;
}

-- .. takes a slot and gives one back where that is none of its own
pub takes_none : (keeper : Keeper) (slot : VaSlot) → is_ours keeper slot ≡ false → TakesIf keeper slot keeper
takes_none keeper slot other = (λ ours. absurd (false≢true (sym other ∙ ours)), λ h. same_out keeper)

pub gives_none : (keeper : Keeper) (slot : VaSlot) → is_ours keeper slot ≡ false → GivesIf keeper slot keeper
gives_none keeper slot other = (λ ours. absurd (false≢true (sym other ∙ ours)), λ h. same_out keeper)

-- ---- the reclaimer's entries

-- an entry of the reclaimer begins and ends no load
others_copies : (k : Keeping) (j : JobView) (old new : Driver) (past : List Entry) (ev : Event) → ShowsTables k j old past
    → new.kept ≡ old.kept → (p : ℕ) → page_kept (kept_at new.kept p) ≡ loaded_by (last_of (entry_of actors.Reclaimer ev ∷ past) p)
others_copies k j old new past ev t kept p = ap (λ (r : _). page_kept (kept_at r p)) kept ∙ t.copies p

-- .. that moves no page and turns no list
pub shows_quiet_entry : (k : Keeping) (j : JobView) (d : Driver) (past : List Entry) (ev : Event) → is_quiet ev ≡ true
    → is_slotless ev ≡ true → is_markless ev ≡ true → ShowsTables k j d past → ShowsTables k j d (entry_of actors.Reclaimer ev ∷ past)
shows_quiet_entry k j d past ev quiet slotless markless t =
    shows_still k j d d past (entry_of actors.Reclaimer ev) t (λ q. place-quiet past (entry_of actors.Reclaimer ev) q quiet) refl
    (record { active = refl; rooms = refl; marks = refl; cpus = refl; enclaves = refl; arrays = refl }) (record {
      list = t.list ∙ sym (listed-quiet past (entry_of actors.Reclaimer ev) markless);
      slots = shows_quiet k j d.slots past (entry_of actors.Reclaimer ev) slotless t.slots;
      copies = others_copies k j d d past ev t refl;
    })

-- .. that moves no page, turns no list, and changes which slots are out
slots_moved : (k : Keeping) (j : JobView) (old new : Driver) (past : List Entry) (ev : Event) → is_quiet ev ≡ true
    → is_markless ev ≡ true → new ≡ record old { slots = new.slots }
    → ShowsSlots k j new.slots (entry_of actors.Reclaimer ev ∷ past) → ShowsTables k j old past
    → ShowsTables k j new (entry_of actors.Reclaimer ev ∷ past)
slots_moved k j old new past ev quiet markless only slots t =
    shows_still k j old new past (entry_of actors.Reclaimer ev) t (λ q. place-quiet past (entry_of actors.Reclaimer ev) q quiet)
    (ap (λ (d : Driver). d.states) only)
    (record {
      active = ap (λ (d : Driver). d.active.counts) only;
      rooms = ap (λ (d : Driver). length d.kept) only;
      marks = ap (λ (d : Driver). d.marks) only;
      cpus = ap (λ (d : Driver). d.cpus) only;
      enclaves = ap (λ (d : Driver). d.enclaves) only;
      arrays = ap (λ (d : Driver). d.va_pages) only;
    }) (record {
      list =
          ap (λ (d : Driver). map listed d.active.pages) only ∙ t.list
          ∙ sym (listed-quiet past (entry_of actors.Reclaimer ev) markless);
      slots = slots;
      copies = others_copies k j old new past ev t (ap (λ (d : Driver). d.kept) only);
    })

-- a write-out has started into a slot, which was taken where it is the keeper's
pub shows_started : (k : Keeping) (j : JobView) (old new : Driver) (past : List Entry) (f : Frame) (to : SlotAt) (answer : Answer)
    → CanMove past (Did (EwbStart f to) answer) → open_start past f.0 ≡ None → nat_lt to.index 512 ≡ true → IsSound past
    → KeeperMoves k past (Did (EwbStart f to) answer) old.slots new.slots → new ≡ record old { slots = new.slots }
    → ShowsTables k j old past → ShowsTables k j new (entry_of actors.Reclaimer (Did (EwbStart f to) answer) ∷ past)
shows_started k j old new past f to answer can none low sound moves only t =
    slots_moved k j old new past (Did (EwbStart f to) answer) refl refl only
    (shows_ewbstart k j old.slots new.slots past actors.Reclaimer f to answer can none low sound moves.0 moves.1 here
    (is_more old.slots new.slots moves.0 moves.2) t.slots) t
  where
    here : is_here (place past (va_page moves.0.va)) ≡ true
    here =
        subst (λ (s : VaSlot). is_here (place past (va_page s.va)) ≡ true) (same_Some can.1 moves.0 (sym can.2 ∙ moves.1)) can.3

-- a write-out was refused since its slot was in use: a driver's keeper keeps that out, and an auditor's does not
pub shows_occupied : (k : Keeping) (j : JobView) (old new : Driver) (past : List Entry) (f : Frame) (to : SlotAt) (version : ℕ)
    → IsSound past → VersionsStand past
    → KeeperMoves k past (Refused (EwbStart f to) (why.SlotOccupied version)) old.slots new.slots → new ≡ record old { slots = new.slots }
    → ShowsTables k j old past
    → ShowsTables k j new (entry_of actors.Reclaimer (Refused (EwbStart f to) (why.SlotOccupied version)) ∷ past)
shows_occupied k j old new past f to version sound stand moves only t =
    slots_moved k j old new past (Refused (EwbStart f to) (why.SlotOccupied version)) refl refl only
    (stays_shown k j old.slots new.slots past (entry_of actors.Reclaimer (Refused (EwbStart f to) (why.SlotOccupied version))) sound tt tt
    stand tt tt moves t.slots) t

-- a page, of any kind, has gone out: it is away in the slot of the start that ended, also where its put failed
pub shows_gone : (k : Keeping) (j : JobView) (old new : Driver) (past : List Entry) (f : Frame) (page : Page) (version : ℕ) (tag : List ℕ)
    (x : Start) (state : PageState) → CanMove past (Did (Ewb f) (Moved page version tag)) → open_start past f.0 ≡ Some x
    → place_in state ≡ Away x.slot → IsSound past → IsPlaced old.states.counts page
    → new ≡ record old { states = with_state old.states page state } → ShowsTables k j old past
    → ShowsTables k j new (entry_of actors.Reclaimer (Did (Ewb f) (Moved page version tag)) ∷ past)
shows_gone k j old new past f page version tag x state can opened away sound here only t =
    shows_moved k j old new past (entry_of actors.Reclaimer (Did (Ewb f) (Moved page version tag))) page state t here
    (record {
      here = place-ewb past actors.Reclaimer f page version tag x opened ∙ sym away;
      others = λ q other. place-ewb-other past actors.Reclaimer f page q version tag other;
    }) (ap (λ (d : Driver). d.states) only) (record {
      active = ap (λ (d : Driver). d.active.counts) only;
      rooms = ap (λ (d : Driver). length d.kept) only;
      marks = ap (λ (d : Driver). d.marks) only;
      cpus = ap (λ (d : Driver). d.cpus) only;
      enclaves = ap (λ (d : Driver). d.enclaves) only;
      arrays = ap (λ (d : Driver). d.va_pages) only;
    }) (record {
      list =
          ap (λ (d : Driver). map listed d.active.pages) only ∙ t.list
          ∙ sym (listed-quiet past (entry_of actors.Reclaimer (Did (Ewb f) (Moved page version tag))) refl);
      slots =
          subst (λ keeper. ShowsSlots k j keeper (entry_of actors.Reclaimer (Did (Ewb f) (Moved page version tag)) ∷ past))
          (sym (ap (λ (d : Driver). d.slots) only)) (shows_ewb k j old.slots past actors.Reclaimer f page version tag can sound t.slots);
      copies = others_copies k j old new past (Did (Ewb f) (Moved page version tag)) t (ap (λ (d : Driver). d.kept) only);
    })

-- ---- looks

map_turn : (xs : List ring.Listed) → map listed (turn xs) ≡ turned (map listed xs)
map_turn [] = refl
map_turn (x ∷ xs) = by_list xs
  where
    by_list : (ys : List ring.Listed)
        → map listed (ys ++ record { page = x.page; young = false } ∷ []) ≡ map listed ys ++ record { page = x.page; young = false } ∷ []
    by_list [] = refl
    by_list (y ∷ ys) = ap (λ zs. listed y ∷ zs) (by_list ys)

-- a page that is here leaves its frame
left : (s : PageState) (f : ℕ) → place_in s ≡ Here f → place_in (leaving_of s) ≡ Leaving f
left (states.Here g) f h = cc
left states.Absent f h = cc
left (states.Leaving g) f h = cc
left (states.Loading g slot) f h = cc
left (states.Away slot) f h = cc
left (states.Lost slot) f h = cc

module _ (k : Keeping) (j : JobView) (old new : Driver) (past : List Entry) (page : Page) (head : head_of (active past) ≡ Some page)
    (sound : IsSound past) (t : ShowsTables k j old past) where
  -- a TCS or REG page is no version array page
  leaves_none : (look : Look) → LeavesFull old.slots (Age page look)
  leaves_none looks.Taken = λ is. absurd (own_apart (is_va_page page) _ (head_own past page sound head) is)
    where
      own_apart : (a b : Bool) → (not a && b) ≡ true → a ≡ true → ⊥
      own_apart true b h is = false≢true h
      own_apart false b h is = false≢true is
  leaves_none looks.Held = tt
  leaves_none looks.Young = tt
  leaves_none looks.NoRoom = tt

  -- a look that takes nothing
  passed : (look : Look) → new ≡ record old { active = record old.active { pages = turn old.active.pages } }
      → ((q : Page) → place (entry_of actors.Reclaimer (Age page look) ∷ past) q ≡ place past q)
      → listed_by (entry_of actors.Reclaimer (Age page look) ∷ past) ≡ turned (listed_by past)
      → ShowsTables k j new (entry_of actors.Reclaimer (Age page look) ∷ past)
  passed look only still turns =
      shows_still k j old new past (entry_of actors.Reclaimer (Age page look)) t still (ap (λ (d : Driver). d.states) only) (record {
        active = ap (λ (d : Driver). d.active.counts) only;
        rooms = ap (λ (d : Driver). length d.kept) only;
        marks = ap (λ (d : Driver). d.marks) only;
        cpus = ap (λ (d : Driver). d.cpus) only;
        enclaves = ap (λ (d : Driver). d.enclaves) only;
        arrays = ap (λ (d : Driver). d.va_pages) only;
      }) (record {
        list =
            ap (λ (d : Driver). map listed d.active.pages) only ∙ map_turn old.active.pages ∙ ap turned t.list ∙ sym turns;
        slots =
            subst (λ keeper. ShowsSlots k j keeper (entry_of actors.Reclaimer (Age page look) ∷ past))
            (sym (ap (λ (d : Driver). d.slots) only))
            (shows_age k j old.slots past actors.Reclaimer page look sound (leaves_none look) t.slots);
        copies = others_copies k j old new past (Age page look) t (ap (λ (d : Driver). d.kept) only);
      })

  -- the page at the head of the list is here
  at_head : (f : ℕ) × (place past page ≡ Here f)
  at_head = head_here (active past) (place past) page sound.list head

  taken : IsTakenOff old page new → IsPlaced old.states.counts page
      → ShowsTables k j new (entry_of actors.Reclaimer (Age page looks.Taken) ∷ past)
  taken is here =
      shows_moved k j old new past (entry_of actors.Reclaimer (Age page looks.Taken)) page (leaving_of (state_of old.states page)) t here
      (record {
        here =
            place-taken past actors.Reclaimer page at_head.0 at_head.1
            ∙ sym (left (state_of old.states page) at_head.0 (t.states page here ∙ at_head.1));
        others = λ q other. place-taken-other past actors.Reclaimer page q other;
      }) (ap (λ (d : Driver). d.states) is.others) (record {
        active = is.list.counts;
        rooms = ap (λ (d : Driver). length d.kept) is.others;
        marks = ap (λ (d : Driver). d.marks) is.others;
        cpus = ap (λ (d : Driver). d.cpus) is.others;
        enclaves = ap (λ (d : Driver). d.enclaves) is.others;
        arrays = ap (λ (d : Driver). d.va_pages) is.others;
      }) (record {
        list = ap (λ xs. drop 1 (map listed xs)) (sym is.list.pages) ∙ ap (drop 1) t.list ∙ sym
            (listed-taken past actors.Reclaimer page head sound);
        slots =
            subst (λ keeper. ShowsSlots k j keeper (entry_of actors.Reclaimer (Age page looks.Taken) ∷ past))
            (sym (ap (λ (d : Driver). d.slots) is.others))
            (shows_age k j old.slots past actors.Reclaimer page looks.Taken sound (leaves_none looks.Taken) t.slots);
        copies = others_copies k j old new past (Age page looks.Taken) t (ap (λ (d : Driver). d.kept) is.others);
      })

  -- the page at the head of the list was looked at
  pub shows_looked : (look : Look) → IsLooked old page look new → IsPlaced old.states.counts page
      → ShowsTables k j new (entry_of actors.Reclaimer (Age page look) ∷ past)
  shows_looked looks.Taken is here = taken is here
  shows_looked looks.Held is here =
      passed looks.Held is (λ q. place-held past actors.Reclaimer page q) (listed-held past actors.Reclaimer page head sound)
  shows_looked looks.Young is here =
      passed looks.Young is (λ q. place-young past actors.Reclaimer page q) (listed-young past actors.Reclaimer page head sound)
  shows_looked looks.NoRoom is here =
      passed looks.NoRoom is (λ q. place-noroom past actors.Reclaimer page q) (listed-noroom past actors.Reclaimer page head sound)

-- ---- looks at SECSs and version array pages

module _ (k : Keeping) (j : JobView) (old new : Driver) (past : List Entry) (page : Page) (other : is_own_page page ≡ false)
    (sound : IsSound past) (t : ShowsTables k j old past) where
  -- a look that takes nothing
  passed_aside : (look : Look) → new ≡ old → LeavesFull old.slots (Age page look)
      → ((q : Page) → place (entry_of actors.Reclaimer (Age page look) ∷ past) q ≡ place past q)
      → ShowsTables k j new (entry_of actors.Reclaimer (Age page look) ∷ past)
  passed_aside look same full still =
      subst (λ d. ShowsTables k j d (entry_of actors.Reclaimer (Age page look) ∷ past)) (sym same)
      (shows_still k j old old past (entry_of actors.Reclaimer (Age page look)) t still refl
      (record { active = refl; rooms = refl; marks = refl; cpus = refl; enclaves = refl; arrays = refl }) (record {
        list = t.list ∙ sym (listed-aside past actors.Reclaimer page look other sound);
        slots = shows_age k j old.slots past actors.Reclaimer page look sound full t.slots;
        copies = others_copies k j old old past (Age page look) t refl;
      }))

  -- the page is taken
  taken_aside : CanMove past (Age page looks.Taken) → LeavesFull old.slots (Age page looks.Taken) → IsLookedAside old page looks.Taken new
      → ShowsTables k j new (entry_of actors.Reclaimer (Age page looks.Taken) ∷ past)
  taken_aside can full only =
      shows_moved k j old new past (entry_of actors.Reclaimer (Age page looks.Taken)) page (leaving_of (state_of old.states page)) t placed
      (record {
        here =
            place-taken past actors.Reclaimer page at.0 at.1
            ∙ sym (left (state_of old.states page) at.0 (t.states page placed ∙ at.1));
        others = λ q apart. place-taken-other past actors.Reclaimer page q apart;
      }) (ap (λ (d : Driver). d.states) only) (record {
        active = ap (λ (d : Driver). d.active.counts) only;
        rooms = ap (λ (d : Driver). length d.kept) only;
        marks = ap (λ (d : Driver). d.marks) only;
        cpus = ap (λ (d : Driver). d.cpus) only;
        enclaves = ap (λ (d : Driver). d.enclaves) only;
        arrays = ap (λ (d : Driver). d.va_pages) only;
      }) (record {
        list =
            ap (λ (d : Driver). map listed d.active.pages) only ∙ t.list
            ∙ sym (listed-aside past actors.Reclaimer page looks.Taken other sound);
        slots =
            subst (λ keeper. ShowsSlots k j keeper (entry_of actors.Reclaimer (Age page looks.Taken) ∷ past))
            (sym (ap (λ (d : Driver). d.slots) only))
            (shows_age k j old.slots past actors.Reclaimer page looks.Taken sound full t.slots);
        copies = others_copies k j old new past (Age page looks.Taken) t (ap (λ (d : Driver). d.kept) only);
      })
    where
      at : (f : ℕ) × (place past page ≡ Here f)
      at = frame_of_here (place past page) (can.1 other).here

      placed : IsPlaced old.states.counts page
      placed = t.placed page (ap is_absent at.1)

  -- a SECS or a version array page was looked at
  pub shows_looked_aside : (look : Look) → CanMove past (Age page look) → LeavesFull old.slots (Age page look)
      → IsLookedAside old page look new → ShowsTables k j new (entry_of actors.Reclaimer (Age page look) ∷ past)
  shows_looked_aside looks.Taken can full is = taken_aside can full is
  shows_looked_aside looks.Held can full is = passed_aside looks.Held is full (λ q. place-held past actors.Reclaimer page q)
  shows_looked_aside looks.Young can full is = passed_aside looks.Young is full (λ q. place-young past actors.Reclaimer page q)
  shows_looked_aside looks.NoRoom can full is = passed_aside looks.NoRoom is full (λ q. place-noroom past actors.Reclaimer page q)
