-- What the tables need of an entry is so where the instruction was done.
use Rattle.std.proofs.Common.{◌≡◌, ℕ, true, false, Bool, if◌then◌else◌, List, Option, None, IfSome, inl, inr}
use Rattle.std.proofs.Common.{refl, sym, ap, subst, ◌∙◌}
use Rattle.std.proofs.lemmas.Bool.{false≢true}
use Rattle.sgx_rules.specs.declared.entries.Action.{Action}
use Rattle.sgx_rules.specs.declared.entries.Action.TheVariants as actions
use Rattle.sgx_types.specs.declared.names.Actor.{Actor}
use Rattle.sgx_types.specs.declared.names.Actor.TheVariants as actors
use Rattle.sgx_rules.specs.declared.entries.Answer.{Answer}
use Rattle.sgx_rules.specs.declared.entries.Answer.TheVariants as answers
use Rattle.sgx_rules.specs.declared.entries.Entry.{Entry}
use Rattle.sgx_rules.specs.declared.entries.Event.TheVariants.{Did}
use Rattle.sgx_types.specs.declared.names.Cpu.{Cpu}
use Rattle.sgx_types.specs.declared.lawful.PageInit.{PageInit}
use Rattle.sgx_types.specs.declared.names.Frame.{Frame}
use Rattle.sgx_types.specs.declared.names.Kind.{Kind}
use Rattle.sgx_types.specs.declared.names.Perm.{Perm}
use Rattle.sgx_types.specs.declared.names.Page.{Page}
use Rattle.sgx_types.specs.Pages.{is_own_page, page_at, secs_page, va_page}
use Rattle.sgx_rules.specs.Frames.{vas_made}
use Rattle.sgx_types.specs.Cases.{first_of_row}
use Rattle.cached_translations.specs.declared.processor.Mode.{Mode}
use Rattle.job_grammar.specs.Jobs.{JobView}
use Rattle.driver_list.specs.inner.Places.{IsPlaced}
use Rattle.driver_list.proofs.PlaceLaws.{array_placed}
use Rattle.machine_laws.specs.inner.State.{row_of}
use Rattle.machine_laws.specs.inner.Steps.{did_by}
use Rattle.machine_laws.proofs.ColumnLaws.{vas_is}
use Rattle.sgx_machine.specs.inner.Parts.{Parts, cpu_at, state_of}
use Rattle.driver_rules.specs.Places.{active, is_here, place}
use Rattle.driver_rules.specs.Scripts.{ScriptRule}
use Rattle.driver_laws.specs.inner.Agrees.{Keeping}
use Rattle.driver_laws.specs.inner.Sound.{once_listed}
use Rattle.driver_laws.proofs.StepLaws.{builds_by}
use Rattle.driver_tables.specs.declared.driver.Driver.{Driver}
use Rattle.driver_tables.specs.inner.Counts.{job_counts}
use Rattle.driver_tables.proofs.ListLaws.{not_listed}
use Rattle.due_tables.specs.declared.turns.Turns.{Turns}
use Rattle.due_tables.specs.inner.Asked.{last_save_of, next_save_of}
use Rattle.due_tables.specs.inner.Due.{IsOrderly, IsShown}
use Rattle.due_tables.specs.inner.Holding.{mode_of, page_inside_of}
use Rattle.due_tables.specs.inner.Shown.{ShowsTurns}
use Rattle.due_tables.specs.inner.TcsTurns.{tcs_at}
use Rattle.due_notes.specs.inner.Arrays.{KeepsKeeper}
use Rattle.due_notes.specs.inner.Noted.{CanNoteTables, HasSecsHere, KeepsFrom}
use Rattle.due_notes.specs.inner.Noting.{Fits, FitsAnswer, FitsBoth, FitsEvent, offset_inside_of}
use Rattle.due_notes.specs.inner.Plain.{is_reclaimer}
use Rattle.due_notes.proofs.ArrayLaws.{added_placed, adds_own, array_room, array_within, created_placed}
use Rattle.due_notes.proofs.EntryLaws.{IsEntryOf, IsNumbered, builder_builds, did_moves, entry_by, not_made}
use Rattle.due_notes.proofs.NameLaws.{There, names_done}
use Rattle.due_notes.proofs.UseLaws.{UsesBoth, UsesOne, enter_use, fill_use, load_use, resume_use, store_use, xadd_use}

module _ (keeping : Keeping) (j : JobView) (past : List Entry) (d : Driver) (m : Parts) (t : Turns) (shown : IsShown keeping j past d m)
    (shows : ShowsTurns j past t)
    (orderly : IsOrderly j past)
    (arrays : KeepsKeeper j d.slots past) (first : ℕ) (keeps : KeepsFrom keeping first) where
  here : (g : Page) → There past g → IsPlaced d.active.counts g
  here g there = subst (λ counts. IsPlaced counts g) shown.shows.counts (shown.shows.placed g there)

  fits_one : (c : Cpu) (action : Action) (o : Option Page) → UsesOne past c action o → IfSome o (IsPlaced d.active.counts)
  fits_one c action o k = subst (λ x. IfSome x (IsPlaced d.active.counts)) (sym k.is) (here k.page k.there)

  fits_both : (c : Cpu) (action : Action) (tcs : Page) (o : Option Page) → UsesBoth past c action tcs o → FitsBoth d tcs o
  fits_both c action tcs o k = record {
    tcs_placed = here tcs k.tcs_there;
    save_placed = subst (λ x. IfSome x (IsPlaced d.active.counts)) (sym k.is) (here k.page k.there);
  }

  in_tables : (g : Page) → IsPlaced (job_counts j) g → IsPlaced d.states.counts g
  in_tables g placed = subst (λ counts. IsPlaced counts g) (sym (shown.shows.counts ∙ shown.shows.of_job)) placed

  -- of an instruction that adds
  array_fits : (a : Actor) (f : Frame) (answer : Answer) → is_reclaimer a ≡ false
      → ScriptRule j past (did_by a (actions.Epa f) answer) → IsNumbered (state_of m) (actions.Epa f) answer
      → FitsAnswer d first answer
  array_fits a f answer other script number =
      subst (FitsAnswer d first) (sym (number ∙ ap answers.Va (vas_is shown.columns))) (record {
        placed = in_tables (va_page (vas_made past))
            (array_placed (job_counts j) (vas_made past) (array_within j past a f answer other script shown.built));
        room = array_room keeping j d.slots past a f answer other script shown.built shown.shows.slots arrays;
        fresh = shown.shows.slots.added (vas_made past) ∙ not_made (vas_made past);
        within = keeps.within;
      })

  page_fits : (a : Actor) (e n : ℕ) (f : Frame) (kind : Kind) (perm : Perm) (init : PageInit) (answer : Answer) → is_reclaimer a ≡ false
      → ScriptRule j past (did_by a (actions.Add e n f kind perm init) answer) → is_here (place past (secs_page e)) ≡ true
      → first_of_row (row_of (state_of m) a (actions.Add e n f kind perm init)) ≡ None → (before : Mode)
      → Fits t first before (actions.Add e n f kind perm init) answer d
  page_fits a e n f kind perm init answer other script secs row before = record {
    placed = subst (λ counts. IsPlaced counts (page_at e n)) (sym shown.shows.of_job)
        (added_placed j past a e n f kind perm init answer other script);
    absent =
        let can =
        did_moves (state_of m) past a (actions.Add e n f kind perm init) answer refl
        (adds_own j past a (actions.Add e n f kind perm init) answer other shows.valid script) secs
        shown.columns shown.sound row in
        not_listed past d.active.pages (active past) (page_at e n) shown.shows.list
        (shown.sound.list (page_at e n) ∙ ap (once_listed (page_at e n)) can.1 ∙ none (is_own_page (page_at e n)));
    counts = shown.shows.counts;
  }
    where
      none : (b : Bool) → ◌≡◌ {A = ℕ} (if b then 0 else 0) 0
      none true = refl
      none false = refl

  -- of a processor
  cpu_fits : (c : Cpu) (action : Action) (answer : Answer) → ScriptRule j past (did_by (actors.Cpu c) action answer)
      → first_of_row (row_of (state_of m) (actors.Cpu c) action) ≡ None → builds_by (Did action answer) ≡ false
      → (before : Mode) → before ≡ (cpu_at m c.0).mode → Fits t first before action answer d
  cpu_fits c (actions.Epa f) answer script row none before stood = absurd (false≢true (sym none))
  cpu_fits c (actions.Create e f base size) answer script row none before stood = absurd (false≢true (sym none))
  cpu_fits c (actions.Add e n f kind perm init) answer script row none before stood = absurd (false≢true (sym none))
  cpu_fits c (actions.Fill n f) answer script row none before stood =
      fits_one c (actions.Fill n f) (page_inside_of before n)
      (fill_use keeping j past d m t shown shows orderly c before stood n f row
      (names_done j past c.0 shown.sound (actions.Fill n f) answer script.next.1))
  cpu_fits c (actions.Load off) answer script row none before stood =
      fits_one c (actions.Load off) (offset_inside_of before off)
      (load_use keeping j past d m t shown shows orderly c before stood off row
      (names_done j past c.0 shown.sound (actions.Load off) answer script.next.1))
  cpu_fits c (actions.Store off value) answer script row none before stood =
      fits_one c (actions.Store off value) (offset_inside_of before off)
      (store_use keeping j past d m t shown shows orderly c before stood off value row
      (names_done j past c.0 shown.sound (actions.Store off value) answer script.next.1))
  cpu_fits c (actions.Xadd off value) answer script row none before stood =
      fits_one c (actions.Xadd off value) (offset_inside_of before off)
      (xadd_use keeping j past d m t shown shows orderly c before stood off value row
      (names_done j past c.0 shown.sound (actions.Xadd off value) answer script.next.1))
  cpu_fits c (actions.Enter e n tf sf) answer script row none before stood =
      fits_both c (actions.Enter e n tf sf) (page_at e n) (next_save_of e (tcs_at t.tcs (page_at e n)))
      (enter_use keeping j past d m t shown shows orderly c before stood e n tf sf row
      (names_done j past c.0 shown.sound (actions.Enter e n tf sf) answer script.next.1))
  cpu_fits c (actions.Resume e n tf sf) answer script row none before stood =
      fits_both c (actions.Resume e n tf sf) (page_at e n) (last_save_of e (tcs_at t.tcs (page_at e n)))
      (resume_use keeping j past d m t shown shows orderly c before stood e n tf sf row
      (names_done j past c.0 shown.sound (actions.Resume e n tf sf) answer script.next.1))
  cpu_fits c action answer script row none before stood = tt

  -- of the builder
  builder_fits : (action : Action) (answer : Answer) → ScriptRule j past (did_by actors.Builder action answer)
      → HasSecsHere past (Did action answer) → IsNumbered (state_of m) action answer
      → first_of_row (row_of (state_of m) actors.Builder action) ≡ None → builds_by (Did action answer) ≡ true → (before : Mode)
      → Fits t first before action answer d
  builder_fits (actions.Epa f) answer script secs number row builds before = array_fits actors.Builder f answer refl script number
  builder_fits (actions.Create e f base size) answer script secs number row builds before =
      in_tables (secs_page e) (created_placed j past actors.Builder e f base size answer refl script)
  builder_fits (actions.Add e n f kind perm init) answer script secs number row builds before =
      page_fits actors.Builder e n f kind perm init answer refl script secs row before
  builder_fits (actions.Fill n f) answer script secs number row builds before = absurd (false≢true builds)
  builder_fits (actions.Load off) answer script secs number row builds before = absurd (false≢true builds)
  builder_fits (actions.Store off value) answer script secs number row builds before = absurd (false≢true builds)
  builder_fits (actions.Xadd off value) answer script secs number row builds before = absurd (false≢true builds)
  builder_fits (actions.Enter e n tf sf) answer script secs number row builds before = absurd (false≢true builds)
  builder_fits (actions.Resume e n tf sf) answer script secs number row builds before = absurd (false≢true builds)
  builder_fits action answer script secs number row builds before = tt

  pub did_fits : (a : Actor) (action : Action) (answer : Answer) → is_reclaimer a ≡ false
      → ScriptRule j past (did_by a action answer) → HasSecsHere past (Did action answer) → IsNumbered (state_of m) action answer
      → first_of_row (row_of (state_of m) a action) ≡ None → (before : Mode) → before ≡ mode_of m a → Fits t first before action answer d
  did_fits actors.Builder action answer other script secs number row before stood =
      builder_fits action answer script secs number row (builder_builds j past actors.Builder action answer other script) before
  did_fits (actors.Cpu c) action answer other script secs number row before stood =
      cpu_fits c action answer script row (builder_builds j past (actors.Cpu c) action answer other script) before stood
  did_fits actors.Reclaimer action answer other script secs number row before stood = absurd (false≢true (sym other))

-- ---- any entry

pub entry_fits : (t : Turns) (d : Driver) (first : ℕ) (before : Mode) (e : Entry) → CanNoteTables t d first before e
    → FitsEvent t first before e.event d
entry_fits t d first before e can = by_entry (entry_by (state_of can.m) (state_of can.m') can.actor can.action e can.step)
  where
    by_entry : IsEntryOf (state_of can.m) can.actor can.action e → FitsEvent t first before e.event d
    by_entry (inl k) =
        subst (λ (x : Entry). FitsEvent t first before x.event d) (sym k.is)
        (did_fits can.keeping can.j can.past d can.m t can.shown can.shows can.orderly can.arrays first can.keeps can.actor can.action
        k.answer can.other (subst (ScriptRule can.j can.past) k.is can.script)
        (subst (λ (x : Entry). HasSecsHere can.past x.event) k.is can.secs) k.number k.row before
        (can.stood ∙ ap (λ (x : Entry). mode_of can.m x.actor) k.is))
    by_entry (inr k) = subst (λ (x : Entry). FitsEvent t first before x.event d) (sym k.is) tt
