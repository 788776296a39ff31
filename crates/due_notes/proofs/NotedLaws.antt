-- The tables that an instruction leaves show its entry.
use Rattle.std.proofs.Common.{◌≡◌, ℕ, Bool, true, false, cond, List, ◌∷◌, Option, Some, None, inl, inr, length, refl, sym, ap}
use Rattle.std.proofs.Common.{subst, ◌∙◌}
use Rattle.std.proofs.lemmas.Bool.{false≢true}
use Rattle.sgx_rules.specs.declared.entries.Action.{Action}
use Rattle.sgx_rules.specs.declared.entries.Action.TheVariants as actions
use Rattle.sgx_types.specs.declared.names.Actor.{Actor}
use Rattle.sgx_types.specs.declared.names.Actor.TheVariants as actors
use Rattle.sgx_rules.specs.declared.entries.Answer.{Answer}
use Rattle.sgx_rules.specs.declared.entries.Answer.TheVariants as answers
use Rattle.sgx_rules.specs.declared.entries.Entry.{Entry}
use Rattle.sgx_rules.specs.declared.entries.Event.{Event}
use Rattle.sgx_rules.specs.declared.entries.Event.TheVariants.{Did, Refused}
use Rattle.sgx_types.specs.declared.lawful.PageInit.{PageInit}
use Rattle.sgx_types.specs.declared.names.Cpu.{Cpu}
use Rattle.sgx_types.specs.declared.names.Frame.{Frame}
use Rattle.sgx_types.specs.declared.names.Kind.{Kind}
use Rattle.sgx_types.specs.declared.names.Page.{Page}
use Rattle.sgx_types.specs.declared.names.Perm.{Perm}
use Rattle.sgx_types.specs.declared.names.SlotAt.{SlotAt}
use Rattle.sgx_rules.specs.declared.refusals.Refusal.{Refusal}
use Rattle.sgx_types.specs.Pages.{page_at, same_page, secs_page, va_page}
use Rattle.sgx_rules.specs.Frames.{vas_after, vas_made}
use Rattle.sgx_rules.specs.Starts.{open_start}
use Rattle.sgx_types.specs.Cases.{first_of_row}
use Rattle.cached_translations.specs.declared.processor.Mode.{Mode}
use Rattle.job_grammar.specs.Jobs.{JobView, va_pages}
use Rattle.backing_store.specs.Calls.{Call}
use Rattle.driver_list.specs.declared.page_states.PageState.{PageState}
use Rattle.driver_list.specs.declared.page_states.PageState.TheVariants as states
use Rattle.driver_list.specs.inner.Keeping.{kept_at, record_kept}
use Rattle.driver_list.specs.inner.Places.{IsPlaced}
use Rattle.driver_list.specs.inner.States.{StateTable, state_of as page_state, with_state}
use Rattle.driver_list.proofs.PlaceLaws.{array_placed}
use Rattle.driver_list.proofs.StateLaws.{state_of-with_state}
use Rattle.sgx_types.proofs.Pages.{same_pages}
use Rattle.driver_slots.specs.inner.Keeper.{count_out}
use Rattle.machine_laws.specs.inner.State.{row_of}
use Rattle.machine_laws.specs.inner.Steps.{did_by, refused_by}
use Rattle.machine_laws.proofs.ColumnLaws.{vas_is}
use Rattle.sgx_machine.specs.inner.Parts.{Parts, cpu_at, state_of}
use Rattle.driver_rules.specs.Places.{Absent, is_here, place}
use Rattle.driver_rules.specs.Scripts.{ScriptRule}
use Rattle.driver_rules.specs.Turns.{Fails, Last, Loads, Other, WasEnded, last_by, last_of}
use Rattle.driver_laws.specs.inner.Agrees.{Keeping, loaded_by}
use Rattle.driver_laws.specs.inner.Counted.{CountMoves}
use Rattle.driver_laws.specs.inner.Kinds.{CanMove, is_quiet}
use Rattle.driver_laws.specs.inner.Loads.{EndsOwn, load_ended}
use Rattle.driver_laws.specs.inner.Used.{VersionsStand}
use Rattle.driver_laws.proofs.EndLaws.{their_rule}
use Rattle.driver_laws.proofs.MarkLaws.{is_markless, is_use}
use Rattle.driver_laws.proofs.StepLaws.{builds_by}
use Rattle.driver_tables.specs.declared.driver.Driver.{Driver}
use Rattle.driver_tables.specs.inner.Counts.{job_counts}
use Rattle.driver_tables.specs.inner.Moves.{HasArray, with_here}
use Rattle.driver_tables.specs.inner.Tables.{ShowsTables, place_in}
use Rattle.driver_tables.proofs.OtherShowLaws.{shows_added, shows_array, shows_builders, shows_created, shows_others, shows_use}
use Rattle.driver_tables.proofs.OtherShowLaws.{shows_uses}
use Rattle.driver_tables.proofs.ShowLaws.{is_slotless}
use Rattle.run_calls.specs.inner.Stores.{StoreMoves, is_lost_state, lost_by}
use Rattle.due_tables.specs.declared.turns.Turns.{Turns}
use Rattle.due_tables.specs.inner.Asked.{last_save_of, next_save_of}
use Rattle.due_tables.specs.inner.Due.{IsOrderly, IsShown}
use Rattle.due_tables.specs.inner.Holding.{mode_of, page_inside_of}
use Rattle.due_tables.specs.inner.Shown.{ShowsTurns}
use Rattle.due_tables.specs.inner.TcsTurns.{tcs_at}
use Rattle.due_notes.specs.inner.Arrays.{KeepsKeeper}
use Rattle.due_notes.specs.inner.Noted.{AreNoted, CanNoteTables, HasSecsHere, KeepsFrom}
use Rattle.due_notes.specs.inner.Noting.{Does, DoesEvent, MakesArray, first_slot, offset_inside_of, touching, with_page}
use Rattle.due_notes.specs.inner.Plain.{is_plain, is_reclaimer}
use Rattle.due_notes.proofs.ArrayLaws.{added_placed, adds_own, array_first, array_within, arrays_go_on, arrays_made, created_placed}
use Rattle.due_notes.proofs.ArrayLaws.{none_refused_array}
use Rattle.due_notes.proofs.EntryLaws.{AddsOwn, IsEntryOf, IsNumbered, builder_builds, did_moves, entry_by, is_init}
use Rattle.due_notes.proofs.NameLaws.{names_done}
use Rattle.due_notes.proofs.UseLaws.{UsesBoth, UsesOne, enter_use, fill_use, load_use, resume_use, store_use, xadd_use}

-- ---- what no such entry changes

abbrev is_plain_event : Event → Bool
is_plain_event (Did action answer) = is_plain action
is_plain_event (Refused action refusal) = is_plain action
is_plain_event event = false

same_counts : (past : List Entry) (ev : Event) (old new : ℕ) → is_plain_event ev ≡ true → new ≡ old → CountMoves past ev old new
same_counts past (Did (actions.EwbStart f slot) answer) old new plain same = absurd (false≢true plain)
same_counts past (Did (actions.Eld f) answer) old new plain same = absurd (false≢true plain)
same_counts past (Refused (actions.EwbStart f slot) refusal) old new plain same = absurd (false≢true plain)
same_counts past ev old new plain same = same

same_lost : (ev : Event) (calls : List Call) (g : Page) (b : Bool) → is_plain_event ev ≡ true → lost_by ev calls g b ≡ b
same_lost (Did (actions.Ewb f) answer) calls g b plain = absurd (false≢true plain)
same_lost ev calls g b plain = refl

no_start : (f : Frame) (page : Page) (slot : SlotAt) (answer : Answer) (ev : Event) → is_plain_event ev ≡ true
    → ev ≡ Did (actions.EldStart f page slot) answer → ⊥
no_start f page slot answer ev plain is = false≢true (sym (ap is_plain_event is) ∙ plain)

-- no page is lost or found
abbrev SameLost : Driver → Driver → Type 0
SameLost old new = (g : Page) → IsPlaced old.states.counts g
    → is_lost_state (page_state new.states g) ≡ is_lost_state (page_state old.states g)

same_moves : (e : Entry) (old new : Driver) → is_plain_event e.event ≡ true → new.states.counts ≡ old.states.counts
    → new.kept ≡ old.kept → SameLost old new → (calls : List Call) → StoreMoves e calls old new
same_moves e old new plain counts kept lost calls = record {
  counts = counts;
  given = λ p f page slot answer own is. absurd (no_start f page slot answer e.event plain is);
  others = λ p other. ap (λ k. record_kept (kept_at k p)) kept;
  lost = λ g placed. lost g placed ∙ sym (same_lost e.event calls g (is_lost_state (page_state old.states g)) plain);
}

-- where states, slots and kept records stay
still_noted : (k : Keeping) (j : JobView) (past : List Entry) (old : Driver) (e : Entry) (new : Driver)
    → is_plain_event e.event ≡ true → ShowsTables k j new (e ∷ past) → new.active.own ≡ old.active.own → new.slots ≡ old.slots
    → new.states ≡ old.states
    → new.kept ≡ old.kept → KeepsKeeper j old.slots (e ∷ past) → AreNoted k j past old e new
still_noted k j past old e new plain shows own slots states kept arrays = record {
  shows = shows;
  counts = same_counts past e.event (count_out old.slots) (count_out new.slots) plain (ap count_out slots);
  own = own;
  moves = same_moves e old new plain (ap (λ (s : _). s.counts) states) kept (λ g placed. ap (λ s. is_lost_state (page_state s g)) states);
  arrays = subst (λ k. KeepsKeeper j k (e ∷ past)) (sym slots) arrays;
}

-- an entry that makes no version array page
same_made : (ev : Event) (n : ℕ) → ((f : Frame) (answer : Answer) → ev ≡ Did (actions.Epa f) answer → ⊥) → n ≡ vas_after ev n
same_made (Did (actions.Epa f) answer) n other = absurd (other f answer refl)
same_made ev n other = refl

-- ---- who loads nothing

no_end : (action : Action) (answer : Answer) → is_plain action ≡ true → load_ended (Did action answer) ≡ None
no_end (actions.Eld f) answer plain = absurd (false≢true plain)
no_end action answer plain = refl

no_end_refused : (action : Action) (refusal : Refusal) → is_plain action ≡ true → load_ended (Refused action refusal) ≡ None
no_end_refused (actions.Eld f) refusal plain = absurd (false≢true plain)
no_end_refused action refusal plain = refl

pub idle_by : (l : Last) (ev : Event) → EndsOwn l ev → load_ended ev ≡ None → loaded_by l ≡ None
idle_by (Loads n page) ev ends none = absurd (let bad : None ≡ Some n = sym none ∙ ends in cc)
idle_by (Fails page why) ev ends none = refl
idle_by WasEnded ev ends none = refl
idle_by Other ev ends none = refl

refused_quiet : (action : Action) (refusal : Refusal) → is_plain action ≡ true → is_quiet (Refused action refusal) ≡ true
refused_quiet (actions.Eld f) refusal plain = absurd (false≢true plain)
refused_quiet action refusal plain = refl

refused_slotless : (action : Action) (refusal : Refusal) → is_plain action ≡ true → is_slotless (Refused action refusal) ≡ true
refused_slotless (actions.EwbStart f slot) refusal plain = absurd (false≢true plain)
refused_slotless (actions.Eld f) refusal plain = absurd (false≢true plain)
refused_slotless action refusal plain = refl

refused_none : (past : List Entry) (action : Action) (refusal : Refusal) → is_plain action ≡ true
    → loaded_by (last_by (Refused action refusal) (open_start past)) ≡ None
refused_none past (actions.EldStart f page slot) refusal plain = absurd (false≢true plain)
refused_none past (actions.Eld f) refusal plain = absurd (false≢true plain)
refused_none past action refusal plain = refl

module _ (keeping : Keeping) (j : JobView) (past : List Entry) (d : Driver) (m : Parts) (t : Turns) (shown : IsShown keeping j past d m)
    (shows : ShowsTurns j past t)
    (orderly : IsOrderly j past)
    (arrays : KeepsKeeper j d.slots past) (stand : VersionsStand past) (first : ℕ) (keeps : KeepsFrom keeping first) where
  tables : ShowsTables keeping j d past
  tables = shown.shows

  -- the keeper as it was stands for a done instruction that makes no version array page
  kept_arrays : (a : Actor) (action : Action) (answer : Answer) → is_reclaimer a ≡ false → is_plain action ≡ true
      → ScriptRule j past (did_by a action answer) → ((f : Frame) → action ≡ actions.Epa f → ⊥)
      → KeepsKeeper j d.slots (did_by a action answer ∷ past)
  kept_arrays a action answer other plain script none =
      arrays_go_on j d.slots d.slots past a (Did action answer) other script refl
      (same_made (Did action answer) (length d.slots.arrays) (λ f x is. none f (action_same f x is))) refl arrays
    where
      action_same : (f : Frame) (x : Answer) → Did action answer ≡ Did (actions.Epa f) x → action ≡ actions.Epa f
      action_same f x is = cc

  -- ---- refused

  refused_noted : (a : Actor) (action : Action) (refusal : Refusal) (new : Driver) → is_reclaimer a ≡ false → is_plain action ≡ true
      → ScriptRule j past (refused_by a action refusal)
      → (is_init action ≡ false → first_of_row (row_of (state_of m) a action) ≡ Some refusal)
      → new ≡ d → AreNoted keeping j past d (refused_by a action refusal) new
  refused_noted a action refusal new other plain script row same =
      subst (AreNoted keeping j past d (refused_by a action refusal)) (sym same)
      (still_noted keeping j past d (refused_by a action refusal) d plain (by_actor a other script) refl refl refl refl
      (arrays_go_on j d.slots d.slots past a (Refused action refusal) other script
      (none_refused_array j past m a action refusal other shown.columns shown.frames script row)
      (same_made (Refused action refusal) (length d.slots.arrays) (λ f x is. cc)) refl arrays))
    where
      by_actor : (b : Actor) → is_reclaimer b ≡ false → ScriptRule j past (refused_by b action refusal)
          → ShowsTables keeping j d (refused_by b action refusal ∷ past)
      by_actor actors.Builder none rule =
          shows_builders keeping j d past (Refused action refusal) (refused_quiet action refusal plain)
          (refused_slotless action refusal plain) refl tables
      by_actor (actors.Cpu c) none rule =
          shows_others keeping j d past c (Refused action refusal) (refused_quiet action refusal plain)
          (refused_slotless action refusal plain) refl
          (idle_by (last_of past c.0) (Refused action refusal) (their_rule j past (refused_by (actors.Cpu c) action refusal) rule)
          (no_end_refused action refusal plain)) (refused_none past action refusal plain) tables
      by_actor actors.Reclaimer none rule = absurd (false≢true (sym none))

  -- ---- the builder

  can : (a : Actor) (action : Action) (answer : Answer) → is_plain action ≡ true → AddsOwn action → HasSecsHere past (Did action answer)
      → first_of_row (row_of (state_of m) a action) ≡ None → CanMove past (Did action answer)
  can a action answer plain own here row =
      did_moves (state_of m) past a action answer plain own here shown.columns shown.sound row

  in_tables : (g : Page) → IsPlaced (job_counts j) g → IsPlaced d.states.counts g
  in_tables g placed = subst (λ counts. IsPlaced counts g) (sym (tables.counts ∙ tables.of_job)) placed

  -- a page that is absent is not lost
  absent_found : (x : PageState) → place_in x ≡ Absent → is_lost_state x ≡ false
  absent_found states.Absent h = refl
  absent_found (states.Here f) h = refl
  absent_found (states.Leaving f) h = refl
  absent_found (states.Loading f slot) h = refl
  absent_found (states.Away slot) h = refl
  absent_found (states.Lost slot) h = cc

  -- a page that comes is not lost, and no other page is lost or found by it
  come_found : (g : Page) (f : Frame) → place past g ≡ Absent → IsPlaced d.states.counts g → (table : StateTable)
      → table ≡ with_state d.states g (states.Here f) → (q : Page) → IsPlaced d.states.counts q
      → is_lost_state (page_state table q) ≡ is_lost_state (page_state d.states q)
  come_found g f absent placed table is q here =
      ap (λ (x : StateTable). is_lost_state (page_state x q)) is
      ∙ ap is_lost_state (state_of-with_state d.states g q (states.Here f) tables.sized placed here) ∙ by_test (same_page q g) refl
    where
      by_test : (b : Bool) → same_page q g ≡ b
          → is_lost_state (cond b (states.Here f) (page_state d.states q)) ≡ is_lost_state (page_state d.states q)
      by_test true is =
          sym (absent_found (page_state d.states q) (tables.states q here ∙ ap (place past) (same_pages q g is) ∙ absent))
      by_test false is = refl

  array_noted : (f : Frame) (answer : Answer) (new : Driver) → ScriptRule j past (did_by actors.Builder (actions.Epa f) answer)
      → IsNumbered (state_of m) (actions.Epa f) answer → first_of_row (row_of (state_of m) actors.Builder (actions.Epa f)) ≡ None
      → MakesArray first f answer d new → AreNoted keeping j past d (did_by actors.Builder (actions.Epa f) answer) new
  array_noted f answer new script number row makes = record {
    shows = shows_array keeping j d new past f answer moves
        (array_first keeping j d.slots past actors.Builder f answer refl script shown.built tables.slots)
        shown.sound stand placed (subst (λ n. HasArray d (vas_made past) n f new) (sym (keeps.firsts (vas_made past))) has) tables;
    counts = has.slots.counted;
    own = ap (λ (x : Driver). x.active.own) has.others;
    moves = same_moves (did_by actors.Builder (actions.Epa f) answer) d new refl (ap (λ (x : Driver). x.states.counts) has.others)
        (ap (λ (x : Driver). x.kept) has.others)
        (come_found (va_page (vas_made past)) f moves.1 placed new.states (ap (λ (x : Driver). x.states) has.others));
    arrays = arrays_go_on j d.slots new.slots past actors.Builder (Did (actions.Epa f) answer) refl script refl has.slots.pages
        has.slots.room arrays;
  }
    where
      has : HasArray d (vas_made past) (first_slot first (vas_made past)) f new
      has = subst (λ x. MakesArray first f x d new) (number ∙ ap answers.Va (vas_is shown.columns)) makes

      moves : CanMove past (Did (actions.Epa f) answer)
      moves = can actors.Builder (actions.Epa f) answer refl tt tt row

      placed : IsPlaced d.states.counts (va_page (vas_made past))
      placed =
          in_tables (va_page (vas_made past))
          (array_placed (job_counts j) (vas_made past) (array_within j past actors.Builder f answer refl script shown.built))

  secs_noted : (e : ℕ) (f : Frame) (base size : ℕ) (answer : Answer) (new : Driver)
      → ScriptRule j past (did_by actors.Builder (actions.Create e f base size) answer)
      → first_of_row (row_of (state_of m) actors.Builder (actions.Create e f base size)) ≡ None → new ≡ with_here d (secs_page e) f
      → AreNoted keeping j past d (did_by actors.Builder (actions.Create e f base size) answer) new
  secs_noted e f base size answer new script row same =
      subst (AreNoted keeping j past d (did_by actors.Builder (actions.Create e f base size) answer)) (sym same) (record {
        shows = shows_created keeping j d past e f base size answer moves placed tables;
        counts = refl;
        own = refl;
        moves = same_moves (did_by actors.Builder (actions.Create e f base size) answer) d (with_here d (secs_page e) f) refl refl refl
            (come_found (secs_page e) f moves.1 placed (with_state d.states (secs_page e) (states.Here f)) refl);
        arrays = kept_arrays actors.Builder (actions.Create e f base size) answer refl refl script (λ x is. cc);
      })
    where
      moves : CanMove past (Did (actions.Create e f base size) answer)
      moves = can actors.Builder (actions.Create e f base size) answer refl tt tt row

      placed : IsPlaced d.states.counts (secs_page e)
      placed = in_tables (secs_page e) (created_placed j past actors.Builder e f base size answer refl script)

  page_noted : (e n : ℕ) (f : Frame) (kind : Kind) (perm : Perm) (init : PageInit) (answer : Answer) (new : Driver)
      → ScriptRule j past (did_by actors.Builder (actions.Add e n f kind perm init) answer)
      → is_here (place past (secs_page e)) ≡ true
      → first_of_row (row_of (state_of m) actors.Builder (actions.Add e n f kind perm init)) ≡ None → new ≡ with_page d (page_at e n) f
      → AreNoted keeping j past d (did_by actors.Builder (actions.Add e n f kind perm init) answer) new
  page_noted e n f kind perm init answer new script secs row same =
      subst (AreNoted keeping j past d (did_by actors.Builder (actions.Add e n f kind perm init) answer)) (sym same) (record {
        shows = shows_added keeping j d past e n f kind perm init answer moves shown.sound all_made placed tables;
        counts = refl;
        own = refl;
        moves = same_moves (did_by actors.Builder (actions.Add e n f kind perm init) answer) d (with_page d (page_at e n) f) refl refl refl
            (come_found (page_at e n) f moves.1 placed (with_state d.states (page_at e n) (states.Here f)) refl);
        arrays = kept_arrays actors.Builder (actions.Add e n f kind perm init) answer refl refl script (λ x is. cc);
      })
    where
      moves : CanMove past (Did (actions.Add e n f kind perm init) answer)
      moves =
          can actors.Builder (actions.Add e n f kind perm init) answer refl
          (adds_own j past actors.Builder (actions.Add e n f kind perm init) answer refl shows.valid script) secs row

      all_made : vas_made past ≡ va_pages j
      all_made =
          arrays_made j past actors.Builder e n f kind perm init answer refl script keeping d.slots shown.built tables.slots arrays

      placed : IsPlaced d.states.counts (page_at e n)
      placed =
          in_tables (page_at e n) (added_placed j past actors.Builder e n f kind perm init answer refl script)

  -- an entry that leaves the tables
  same_noted : (a : Actor) (action : Action) (answer : Answer) (new : Driver) → is_reclaimer a ≡ false → is_plain action ≡ true
      → ScriptRule j past (did_by a action answer) → ((f : Frame) → action ≡ actions.Epa f → ⊥)
      → ShowsTables keeping j d (did_by a action answer ∷ past) → new ≡ d → AreNoted keeping j past d (did_by a action answer) new
  same_noted a action answer new other plain script none shown same =
      subst (AreNoted keeping j past d (did_by a action answer)) (sym same)
      (still_noted keeping j past d (did_by a action answer) d plain shown refl refl refl refl
      (kept_arrays a action answer other plain script none))

  builder_noted : (action : Action) (answer : Answer) (new : Driver) → ScriptRule j past (did_by actors.Builder action answer)
      → HasSecsHere past (Did action answer) → IsNumbered (state_of m) action answer
      → first_of_row (row_of (state_of m) actors.Builder action) ≡ None → builds_by (Did action answer) ≡ true → (before : Mode)
      → Does t first before action answer d new → AreNoted keeping j past d (did_by actors.Builder action answer) new
  builder_noted (actions.Epa f) answer new script secs number row builds before does = array_noted f answer new script number row does
  builder_noted (actions.Add e n f kind perm init) answer new script secs number row builds before does =
      page_noted e n f kind perm init answer new script secs row does
  builder_noted (actions.Create e f base size) answer new script secs number row builds before does =
      secs_noted e f base size answer new script row does
  builder_noted (actions.Extend f chunk) answer new script secs number row builds before does =
      same_noted actors.Builder (actions.Extend f chunk) answer new refl refl script (λ x is. cc)
      (shows_builders keeping j d past (Did (actions.Extend f chunk) answer) refl refl refl tables) does
  builder_noted (actions.Init e expect) answer new script secs number row builds before does =
      same_noted actors.Builder (actions.Init e expect) answer new refl refl script (λ x is. cc)
      (shows_builders keeping j d past (Did (actions.Init e expect) answer) refl refl refl tables) does
  builder_noted action answer new script secs number row builds before does = absurd (false≢true builds)

  -- ---- processors

  module _ (c : Cpu) (action : Action) (answer : Answer) (new : Driver) (plain : is_plain action ≡ true)
      (quiet : is_quiet (Did action answer) ≡ true)
      (slotless : is_slotless (Did action answer) ≡ true)
      (none : loaded_by (last_by (Did action answer) (open_start past)) ≡ None)
      (array : (f : Frame) → action ≡ actions.Epa f → ⊥)
      (script : ScriptRule j past (did_by (actors.Cpu c) action answer)) where
    idle : loaded_by (last_of past c.0) ≡ None
    idle =
        idle_by (last_of past c.0) (Did action answer) (their_rule j past (did_by (actors.Cpu c) action answer) script)
        (no_end action answer plain)

    -- .. that uses no page
    quiet_noted : is_markless (Did action answer) ≡ true → new ≡ d → AreNoted keeping j past d (did_by (actors.Cpu c) action answer) new
    quiet_noted markless same =
        same_noted (actors.Cpu c) action answer new refl plain script array
        (shows_others keeping j d past c (Did action answer) quiet slotless markless idle none tables) same

    touched_noted : (x : Driver) → new ≡ x → ShowsTables keeping j new (did_by (actors.Cpu c) action answer ∷ past)
        → x.active.own ≡ d.active.own → x.slots ≡ d.slots → x.states ≡ d.states → x.kept ≡ d.kept
        → AreNoted keeping j past d (did_by (actors.Cpu c) action answer) new
    touched_noted x same shown own slots states kept =
        still_noted keeping j past d (did_by (actors.Cpu c) action answer) new plain shown (ap (λ (y : Driver). y.active.own) same ∙ own)
        (ap (λ (y : Driver). y.slots) same ∙ slots) (ap (λ (y : Driver). y.states) same ∙ states)
        (ap (λ (y : Driver). y.kept) same ∙ kept) (kept_arrays (actors.Cpu c) action answer refl plain script array)

    one_noted : (o : Option Page) → is_use action ≡ true → UsesOne past c action o → new ≡ touching d o
        → AreNoted keeping j past d (did_by (actors.Cpu c) action answer) new
    one_noted o used k does =
        let same : new ≡ touching d (Some k.page) = does ∙ ap (touching d) k.is in
        touched_noted (touching d (Some k.page)) same
        (shows_use keeping j d new past c action answer quiet slotless none idle tables k.page used k.only same) refl refl refl refl

    both_noted : (tcs : Page) (o : Option Page) → is_use action ≡ true → UsesBoth past c action tcs o
        → new ≡ touching (touching d o) (Some tcs) → AreNoted keeping j past d (did_by (actors.Cpu c) action answer) new
    both_noted tcs o used k does =
        let same : new ≡ touching (touching d (Some k.page)) (Some tcs) = does ∙ ap (λ x. touching (touching d x) (Some tcs)) k.is in
        touched_noted (touching (touching d (Some k.page)) (Some tcs)) same
        (shows_uses keeping j d new past c action answer quiet slotless none idle tables tcs k.page used k.only same) refl refl refl refl

  cpu_noted : (c : Cpu) (action : Action) (answer : Answer) (new : Driver) → is_plain action ≡ true
      → ScriptRule j past (did_by (actors.Cpu c) action answer) → first_of_row (row_of (state_of m) (actors.Cpu c) action) ≡ None
      → builds_by (Did action answer) ≡ false → (before : Mode) → before ≡ (cpu_at m c.0).mode
      → Does t first before action answer d new
      → AreNoted keeping j past d (did_by (actors.Cpu c) action answer) new
  cpu_noted c (actions.Epa f) answer new plain script row none before stood does = absurd (false≢true (sym none))
  cpu_noted c (actions.Create e f base size) answer new plain script row none before stood does = absurd (false≢true (sym none))
  cpu_noted c (actions.Add e n f kind perm init) answer new plain script row none before stood does = absurd (false≢true (sym none))
  cpu_noted c (actions.Extend f chunk) answer new plain script row none before stood does = absurd (false≢true (sym none))
  cpu_noted c (actions.Init e expect) answer new plain script row none before stood does = absurd (false≢true (sym none))
  cpu_noted c (actions.Fill n f) answer new plain script row none before stood does =
      one_noted c (actions.Fill n f) answer new refl refl refl refl (λ x is. cc) script (page_inside_of before n) refl
      (fill_use keeping j past d m t shown shows orderly c before stood n f row
      (names_done j past c.0 shown.sound (actions.Fill n f) answer script.next.1)) does
  cpu_noted c (actions.Load off) answer new plain script row none before stood does =
      one_noted c (actions.Load off) answer new refl refl refl refl (λ x is. cc) script (offset_inside_of before off) refl
      (load_use keeping j past d m t shown shows orderly c before stood off row
      (names_done j past c.0 shown.sound (actions.Load off) answer script.next.1)) does
  cpu_noted c (actions.Store off value) answer new plain script row none before stood does =
      one_noted c (actions.Store off value) answer new refl refl refl refl (λ x is. cc) script (offset_inside_of before off) refl
      (store_use keeping j past d m t shown shows orderly c before stood off value row
      (names_done j past c.0 shown.sound (actions.Store off value) answer script.next.1)) does
  cpu_noted c (actions.Xadd off value) answer new plain script row none before stood does =
      one_noted c (actions.Xadd off value) answer new refl refl refl refl (λ x is. cc) script (offset_inside_of before off) refl
      (xadd_use keeping j past d m t shown shows orderly c before stood off value row
      (names_done j past c.0 shown.sound (actions.Xadd off value) answer script.next.1)) does
  cpu_noted c (actions.Enter e n tf sf) answer new plain script row none before stood does =
      both_noted c (actions.Enter e n tf sf) answer new refl refl refl refl (λ x is. cc) script (page_at e n)
      (next_save_of e (tcs_at t.tcs (page_at e n))) refl
      (enter_use keeping j past d m t shown shows orderly c before stood e n tf sf row
      (names_done j past c.0 shown.sound (actions.Enter e n tf sf) answer script.next.1)) does
  cpu_noted c (actions.Resume e n tf sf) answer new plain script row none before stood does =
      both_noted c (actions.Resume e n tf sf) answer new refl refl refl refl (λ x is. cc) script (page_at e n)
      (last_save_of e (tcs_at t.tcs (page_at e n))) refl
      (resume_use keeping j past d m t shown shows orderly c before stood e n tf sf row
      (names_done j past c.0 shown.sound (actions.Resume e n tf sf) answer script.next.1)) does
  cpu_noted c (actions.Block f) answer new plain script row none before stood does = absurd (false≢true plain)
  cpu_noted c (actions.Track e) answer new plain script row none before stood does = absurd (false≢true plain)
  cpu_noted c (actions.EwbStart f slot) answer new plain script row none before stood does = absurd (false≢true plain)
  cpu_noted c (actions.Ewb f) answer new plain script row none before stood does = absurd (false≢true plain)
  cpu_noted c (actions.EldStart f page slot) answer new plain script row none before stood does = absurd (false≢true plain)
  cpu_noted c (actions.Eld f) answer new plain script row none before stood does = absurd (false≢true plain)
  cpu_noted c actions.Exit answer new plain script row none before stood does =
      quiet_noted c actions.Exit answer new refl refl refl refl (λ x is. cc) script refl does
  cpu_noted c (actions.Aex cause) answer new plain script row none before stood does =
      quiet_noted c (actions.Aex cause) answer new refl refl refl refl (λ x is. cc) script refl does
  cpu_noted c (actions.Set value) answer new plain script row none before stood does =
      quiet_noted c (actions.Set value) answer new refl refl refl refl (λ x is. cc) script refl does
  cpu_noted c (actions.Plus value) answer new plain script row none before stood does =
      quiet_noted c (actions.Plus value) answer new refl refl refl refl (λ x is. cc) script refl does
  cpu_noted c (actions.Pf op off) answer new plain script row none before stood does =
      quiet_noted c (actions.Pf op off) answer new refl refl refl refl (λ x is. cc) script refl does
  cpu_noted c (actions.OutLoad e off) answer new plain script row none before stood does =
      quiet_noted c (actions.OutLoad e off) answer new refl refl refl refl (λ x is. cc) script refl does
  cpu_noted c (actions.OutStore e off value) answer new plain script row none before stood does =
      quiet_noted c (actions.OutStore e off value) answer new refl refl refl refl (λ x is. cc) script refl does

  pub did_noted : (a : Actor) (action : Action) (answer : Answer) (new : Driver) → is_reclaimer a ≡ false → is_plain action ≡ true
      → ScriptRule j past (did_by a action answer) → HasSecsHere past (Did action answer) → IsNumbered (state_of m) action answer
      → first_of_row (row_of (state_of m) a action) ≡ None → (before : Mode) → before ≡ mode_of m a
      → Does t first before action answer d new → AreNoted keeping j past d (did_by a action answer) new
  did_noted actors.Builder action answer new other plain script secs number row before stood does =
      builder_noted action answer new script secs number row (builder_builds j past actors.Builder action answer other script) before does
  did_noted (actors.Cpu c) action answer new other plain script secs number row before stood does =
      cpu_noted c action answer new plain script row (builder_builds j past (actors.Cpu c) action answer other script) before stood does
  did_noted actors.Reclaimer action answer new other plain script secs number row before stood does = absurd (false≢true (sym other))

-- ---- any entry

pub entry_noted : (t : Turns) (d new : Driver) (first : ℕ) (before : Mode) (e : Entry) (can : CanNoteTables t d first before e)
    → DoesEvent t first before e.event d new → AreNoted can.keeping can.j can.past d e new
entry_noted t d new first before e can does = by_entry (entry_by (state_of can.m) (state_of can.m') can.actor can.action e can.step)
  where
    by_entry : IsEntryOf (state_of can.m) can.actor can.action e → AreNoted can.keeping can.j can.past d e new
    by_entry (inl k) =
        subst (λ x. AreNoted can.keeping can.j can.past d x new) (sym k.is)
        (did_noted can.keeping can.j can.past d can.m t can.shown can.shows can.orderly can.arrays can.stand first can.keeps can.actor
        can.action k.answer new can.other can.plain (subst (ScriptRule can.j can.past) k.is can.script)
        (subst (λ (x : Entry). HasSecsHere can.past x.event) k.is can.secs) k.number k.row before
        (can.stood ∙ ap (λ (x : Entry). mode_of can.m x.actor) k.is)
        (subst (λ (x : Entry). DoesEvent t first before x.event d new) k.is does))
    by_entry (inr k) =
        subst (λ x. AreNoted can.keeping can.j can.past d x new) (sym k.is)
        (refused_noted can.keeping can.j can.past d can.m t can.shown can.shows can.orderly can.arrays can.stand first can.keeps can.actor
        can.action k.refusal new can.other can.plain (subst (ScriptRule can.j can.past) k.is can.script) k.row
        (subst (λ (x : Entry). DoesEvent t first before x.event d new) k.is does))
