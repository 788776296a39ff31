-- The version array pages that the keeper has, one entry longer.
use Rattle.std.proofs.Common.{◌≡◌, ℕ, zero, suc, ◌+◌, ◌<◌, ◌≤◌, ◌||◌, not, Bool, true, false, if◌then◌else◌}
use Rattle.std.proofs.Common.{List, [], ◌∷◌, Option, Some, None, length, nat_le, slice_get, take, refl, sym, ap, subst, ◌∙◌, arith}
use Rattle.std.specs.List.{count_by}
use Rattle.std.proofs.lemmas.Bool.{false≢true}
use Rattle.std.proofs.lemmas.List.{length-take}
use Rattle.std.proofs.lemmas.List.Sums.{count_by-le-length}
use Rattle.sgx_rules.proofs.Contents.{free_is}
use Rattle.sgx_rules.proofs.Rows.{none_refused}
use Rattle.sgx_types.proofs.Truths.{neither}
use Rattle.sgx_rules.specs.declared.entries.Action.{Action}
use Rattle.sgx_rules.specs.declared.entries.Action.TheVariants as actions
use Rattle.sgx_types.specs.declared.names.Actor.{Actor}
use Rattle.sgx_types.specs.declared.names.Actor.TheVariants as actors
use Rattle.sgx_rules.specs.declared.entries.Answer.{Answer}
use Rattle.sgx_rules.specs.declared.entries.Entry.{Entry}
use Rattle.sgx_rules.specs.declared.entries.Event.{Event}
use Rattle.sgx_rules.specs.declared.entries.Event.TheVariants.{Did, Refused, Age}
use Rattle.sgx_types.specs.declared.lawful.PageInit.{PageInit}
use Rattle.sgx_types.specs.declared.names.Frame.{Frame}
use Rattle.sgx_types.specs.declared.names.Kind.{Kind}
use Rattle.sgx_types.specs.declared.names.Kind.TheVariants as kinds
use Rattle.sgx_types.specs.declared.names.Page.{Page}
use Rattle.sgx_types.specs.declared.names.Perm.{Perm}
use Rattle.sgx_rules.specs.declared.entries.Look.{Look}
use Rattle.sgx_rules.specs.declared.entries.Look.TheVariants as looks
use Rattle.sgx_rules.specs.declared.refusals.Refusal.{Refusal}
use Rattle.sgx_rules.specs.declared.refusals.Refusal.TheVariants as why
use Rattle.sgx_types.specs.Pages.{is_own_page, page_at, secs_page}
use Rattle.sgx_rules.specs.Frames.{Content, Free, content, free_from, is_free, least_free, vas_after, vas_made}
use Rattle.sgx_types.specs.Cases.{first_of_row}
use Rattle.sgx_rules.specs.Table.{epa_row, is_loading, is_valid}
use Rattle.epcm_entry.specs.declared.entry_view.EntryView.{EntryView}
use Rattle.epcm_entry.specs.declared.entry_view.EntryView.TheVariants as views
use Rattle.epcm_entry.specs.inner.EntryView.{goes_out}
use Rattle.epcm_entry.specs.inner.Epc.{entry_at}
use Rattle.epcm_entry.specs.inner.Sights.{held}
use Rattle.driver_slots.specs.inner.Keeper.{Keeper}
use Rattle.job_grammar.specs.Jobs.{JobView, va_pages}
use Rattle.script_rules.specs.declared.steps.BuildStep.{BuildStep}
use Rattle.script_rules.specs.declared.steps.BuildStep.TheVariants as builds
use Rattle.script_rules.specs.Script.{action_of, build_of, built, is_builder, step_action, with_frame}
use Rattle.sgx_types.specs.Pages.{frame_at}
use Rattle.driver_list.specs.inner.Places.{IsPlaced}
use Rattle.machine_laws.specs.inner.Columns.{HasColumns}
use Rattle.machine_laws.specs.inner.State.{row_of, sight}
use Rattle.machine_laws.specs.inner.Steps.{did_by, refused_by}
use Rattle.machine_laws.proofs.ColumnLaws.{content_is}
use Rattle.sgx_machine.specs.inner.Parts.{Parts, state_of}
use Rattle.driver_rules.specs.Dues.{IsNext, Stopped, makes_or}
use Rattle.driver_rules.specs.Ages.{AgeRuleBy, InPass, IsAhead, LookOf, ahead_by, head_of}
use Rattle.driver_rules.specs.Passes.{Aside, Between, Blocking, First, Form, IsGoing, IsToGo, Kicks, NoneAside, Pass, Scan, Sealing}
use Rattle.driver_rules.specs.Passes.{Second, Third, ToKick, ToTrack, Tries, aside, is_aside, pass}
use Rattle.driver_rules.specs.Places.{Leaving, active, place}
use Rattle.driver_rules.specs.Scripts.{ScriptRule}
use Rattle.driver_rules.specs.Spares.{Outs, due_with, outs}
use Rattle.driver_rules.specs.Stops.{is_spent, last_event}
use Rattle.driver_rules.specs.Turns.{builder_due, step_turn}
use Rattle.driver_rules.proofs.ReclaimLaws.{due_is_other}
use Rattle.driver_rules.specs.declared.waits.Why.TheVariants as waits
use Rattle.driver_laws.specs.inner.Agrees.{Keeping, ShowsSlots, has_pages, is_add}
use Rattle.driver_laws.specs.inner.Counted.{AddsAreBuilt}
use Rattle.driver_laws.specs.inner.Keeps.{is_epa, is_epa_refused, is_va_step}
use Rattle.driver_laws.proofs.ArrayLaws.{arrays_first, stays_arrays}
use Rattle.driver_laws.specs.inner.Sound.{IsSound, is_absent}
use Rattle.driver_laws.specs.inner.Stages.{HasAside, HasPages, KeepsPages, Stands}
use Rattle.driver_laws.proofs.MarkLaws.{head_own}
use Rattle.driver_laws.proofs.SoundLaws.{head_here}
use Rattle.driver_laws.proofs.StepLaws.{Builds, ByStep, NoStep, arrays_by, builds_or_none}
use Rattle.driver_laws.proofs.BuiltLaws.{added_has_pages, own_there}
use Rattle.driver_tables.specs.inner.Counts.{job_counts}
use Rattle.driver_tables.specs.inner.Tables.{IsNew}
use Rattle.driver_tables.specs.declared.driver.Driver.{Driver}
use Rattle.driver_tables.proofs.BuildLaws.{add_own, add_placed, arrays_before, create_placed}
use Rattle.job_grammar.specs.inner.Valid.{IsValid}
use Rattle.due_notes.specs.inner.Arrays.{HasAsMany, KeepsKeeper, is_move}
use Rattle.due_notes.specs.inner.Plain.{is_reclaimer}
use Rattle.due_notes.proofs.EntryLaws.{AddsOwn, ages, is_init}

-- ---- room

few_counted : (xs : List BuildStep) (n : ℕ) → count_by is_va_step (take n xs) ≤ n
few_counted xs n =
    let few = count_by-le-length is_va_step (take n xs) in
    let size = length-take n xs in omega (arith, few, size)

-- a version array page that is made is one of those that the job has
pub array_within : (j : JobView) (past : List Entry) (a : Actor) (f : Frame) (answer : Answer) → is_reclaimer a ≡ false
    → ScriptRule j past (did_by a (actions.Epa f) answer) → AddsAreBuilt j past → vas_made past < va_pages j
array_within j past a f answer other script adds =
    by_step (builds_or_none j past (outs j past) (did_by a (actions.Epa f) answer) script
    (ages j past (outs j past) a (Did (actions.Epa f) answer) other))
  where
    by_step : Builds j past a (Did (actions.Epa f) answer) → vas_made past < va_pages j
    by_step (NoStep none builds_none) = absurd (false≢true (sym builds_none))
    by_step (ByStep is s) =
        let va = arrays_by (Did (actions.Epa f) answer) s.step s.frame s.made refl in
        let low = arrays_before j (built past) s.step s.there va in
        let few = few_counted (build_of j) (built past) in
        let made = adds.arrays in omega (arith, low, few, made)

module _ (k : Keeping) (j : JobView) (keeper : Keeper) (past : List Entry) (a : Actor) (f : Frame) (answer : Answer)
    (other : is_reclaimer a ≡ false) (script : ScriptRule j past (did_by a (actions.Epa f) answer)) (adds : AddsAreBuilt j past)
    (slots : ShowsSlots k j keeper past) where
  -- no page was added before it
  pub array_first : has_pages past ≡ false
  array_first = by_test (has_pages past) refl
    where
      by_test : (b : Bool) → has_pages past ≡ b → b ≡ false
      by_test true is =
          let all = slots.made is in
          let low = array_within j past a f answer other script adds in absurd (omega (arith, all, low))
      by_test false is = refl

  -- .. and the keeper has room for it
  pub array_room : KeepsKeeper j keeper past → length keeper.arrays < keeper.room
  array_room keeps =
      let k = keeps array_first in
      let pages = k.pages in
      let room = k.room in
      let low = array_within j past a f answer other script adds in omega (arith, low, pages, room)

-- the SECS of an enclave that is created has a place
pub created_placed : (j : JobView) (past : List Entry) (a : Actor) (e : ℕ) (f : Frame) (base size : ℕ) (answer : Answer)
    → is_reclaimer a ≡ false → ScriptRule j past (did_by a (actions.Create e f base size) answer) → IsPlaced (job_counts j) (secs_page e)
created_placed j past a e f base size answer other script =
    by_step (builds_or_none j past (outs j past) (did_by a (actions.Create e f base size) answer) script
    (ages j past (outs j past) a (Did (actions.Create e f base size) answer) other))
  where
    by_build : (step : BuildStep) (frame : ℕ) → slice_get (build_of j) (built past) ≡ Some step
        → Some (actions.Create e f base size) ≡ Some (step_action step frame) → IsPlaced (job_counts j) (secs_page e)
    by_build (builds.Create e' base' size') frame there made =
        let enclave : e' ≡ e = cc in
        subst (λ n. IsPlaced (job_counts j) (secs_page n)) enclave (create_placed j (built past) e' base' size' there)
    by_build builds.Va frame there made = cc
    by_build (builds.Add e' n' kind' perm' init') frame there made = cc
    by_build (builds.Extend e' n' chunk) frame there made = cc
    by_build (builds.Init e' expect) frame there made = cc

    by_step : Builds j past a (Did (actions.Create e f base size) answer) → IsPlaced (job_counts j) (secs_page e)
    by_step (NoStep none builds_none) = absurd (false≢true (sym builds_none))
    by_step (ByStep is s) = by_build s.step s.frame s.there s.made

-- ---- a page is added

-- a step that adds it
pub record IsAddStep (j : JobView) (past : List Entry) (e n : ℕ) : Type 0 where
  pub kind : Kind
  pub perm : Perm
  pub init : PageInit
  pub there : slice_get (build_of j) (built past) ≡ Some (builds.Add e n kind perm init)

module _ (j : JobView) (past : List Entry) (a : Actor) (e n : ℕ) (f : Frame) (kind : Kind) (perm : Perm) (init : PageInit)
    (answer : Answer) (other : is_reclaimer a ≡ false)
    (script : ScriptRule j past (did_by a (actions.Add e n f kind perm init) answer)) where
  -- all version array pages were made before it
  pub arrays_made : (k : Keeping) (keeper : Keeper) → AddsAreBuilt j past → ShowsSlots k j keeper past → KeepsKeeper j keeper past
      → vas_made past ≡ va_pages j
  arrays_made k keeper adds slots keeps = by_test (has_pages past) refl
    where
      by_test : (b : Bool) → has_pages past ≡ b → vas_made past ≡ va_pages j
      by_test true is = slots.made is
      by_test false is =
          arrays_first j past (outs j past) (did_by a (actions.Add e n f kind perm init) answer) script
          (ages j past (outs j past) a (Did (actions.Add e n f kind perm init) answer) other) adds (keeps is).built

  pub add_step : IsAddStep j past e n
  add_step =
      by_step (builds_or_none j past (outs j past) (did_by a (actions.Add e n f kind perm init) answer) script
      (ages j past (outs j past) a (Did (actions.Add e n f kind perm init) answer) other))
    where
      by_build : (step : BuildStep) (frame : ℕ) → slice_get (build_of j) (built past) ≡ Some step
          → Some (actions.Add e n f kind perm init) ≡ Some (step_action step frame) → IsAddStep j past e n
      by_build (builds.Add e' n' kind' perm' init') frame there made =
          let enclave : e' ≡ e = cc in
          let number : n' ≡ n = cc in
          record {
            kind = kind';
            perm = perm';
            init = init';
            there = there ∙ (λ i. Some (builds.Add (enclave i) (number i) kind' perm' init'));
          }
      by_build builds.Va frame there made = cc
      by_build (builds.Create e' base size) frame there made = cc
      by_build (builds.Extend e' n' chunk) frame there made = cc
      by_build (builds.Init e' expect) frame there made = cc

      by_step : Builds j past a (Did (actions.Add e n f kind perm init) answer) → IsAddStep j past e n
      by_step (NoStep none builds_none) = absurd (false≢true (sym builds_none))
      by_step (ByStep is s) = by_build s.step s.frame s.there s.made

  -- it has a place
  pub added_placed : IsPlaced (job_counts j) (page_at e n)
  added_placed = add_placed j (built past) e n add_step.kind add_step.perm add_step.init add_step.there

  -- it is a TCS or REG page, since a valid job has few pages
  pub added_own : IsValid j → is_own_page (page_at e n) ≡ true
  added_own valid = add_own j valid (built past) e n add_step.kind add_step.perm add_step.init add_step.there

pub adds_own : (j : JobView) (past : List Entry) (a : Actor) (action : Action) (answer : Answer) → is_reclaimer a ≡ false → IsValid j
    → ScriptRule j past (did_by a action answer) → AddsOwn action
adds_own j past a (actions.Add e n f kind perm init) answer other valid script =
    added_own j past a e n f kind perm init answer other script valid
adds_own j past a action answer other valid script = tt

-- ---- no version array page is refused

record IsFound (held : ℕ → Content) (end f : ℕ) : Type 0 where
  free : held f ≡ Free
  low : f < end

free_found : (held : ℕ → Content) (n count f : ℕ) → free_from held n count ≡ Some f → IsFound held (n + count) f
free_found held n zero f h = cc
free_found held n (suc count) f h = by_test (is_free (held n)) refl h (free_found held (n + 1) count f)
  where
    by_test : (b : Bool) → is_free (held n) ≡ b → (if b then Some n else free_from held (n + 1) count) ≡ Some f
        → (free_from held (n + 1) count ≡ Some f → IsFound held (n + 1 + count) f) → IsFound held (n + suc count) f
    by_test true is k later =
        let same : n ≡ f = cc in
        record { free = free_is (held f) (ap (λ m. is_free (held m)) (sym same) ∙ is); low = omega (arith, same) }
    by_test false is k later = let found = later k in record { free = found.free; low = let low = found.low in omega (arith, low) }

-- one that is due takes the least free frame
module _ (j : JobView) (past : List Entry) (f : Frame) (ev : Event) (is : action_of ev ≡ Some (actions.Epa f)) where
  other_due : (step : BuildStep) (o : Option ℕ) → ((n : ℕ) → step_action step n ≡ actions.Epa f → ⊥)
      → IsNext (makes_or waits.NoFrame (with_frame step o)) ev → ⊥
  other_due step None none next = next
  other_due step (Some n) none next = none n (let same : step_action step n ≡ actions.Epa f = cc in same)

  array_due : (o : Option ℕ) → IsNext (makes_or waits.NoFrame (with_frame builds.Va o)) ev → o ≡ Some f.0
  array_due None next = absurd next
  array_due (Some n) next = let same : frame_at n ≡ f = cc in ap (λ (x : Frame). Some x.0) same

  due_free : IsNext (builder_due j past) ev → least_free j.epc (content past) ≡ Some f.0
  due_free next = by_spent (is_spent past) next
    where
      by_step : (o : Option BuildStep) → IsNext (step_turn j past o) ev → least_free j.epc (content past) ≡ Some f.0
      by_step None k = absurd k
      by_step (Some builds.Va) k = array_due (least_free j.epc (content past)) k
      by_step (Some (builds.Create e base size)) k =
          absurd (other_due (builds.Create e base size) (least_free j.epc (content past)) (λ n h. cc) k)
      by_step (Some (builds.Add e n kind perm init)) k =
          absurd (other_due (builds.Add e n kind perm init) (least_free j.epc (content past)) (λ m h. cc) k)
      by_step (Some (builds.Extend e n chunk)) k = absurd (other_due (builds.Extend e n chunk) _ (λ m h. cc) k)
      by_step (Some (builds.Init e expect)) k = absurd cc

      by_spent : (b : Bool) → IsNext (if b then Stopped else step_turn j past (slice_get (build_of j) (built past))) ev
          → least_free j.epc (content past) ≡ Some f.0
      by_spent true k = absurd k
      by_spent false k = by_step (slice_get (build_of j) (built past)) k

-- a free frame is not on its way out
free_settled : (x : EntryView) → held x ≡ Free → goes_out x ≡ false
free_settled views.Free h = refl
free_settled (views.Loading page) h = refl
free_settled (views.Valid page kinds.Secs perm blocked sealing) h = cc
free_settled (views.Valid page kinds.Va perm blocked sealing) h = cc
free_settled (views.Valid page kinds.Tcs perm blocked sealing) h = cc
free_settled (views.Valid page kinds.Reg perm blocked sealing) h = cc

row_open : (m : Parts) (past : List Entry) (f frames : ℕ) → HasColumns (state_of m) past → (state_of m).frames ≡ frames
    → least_free frames (content past) ≡ Some f → first_of_row (epa_row (sight (state_of m) f)) ≡ None
row_open m past f frames columns same least =
    none_refused (epa_row (sight (state_of m) f))
    (beyond, (λ i. settled i || is_loading (free i), (ap is_valid free, tt)))
  where
    free : (state_of m).content f ≡ Free
    free = content_is columns f ∙ (free_found (content past) 0 frames f least).free

    settled : goes_out (entry_at m.epc f) ≡ false
    settled = free_settled (entry_at m.epc f) free

    beyond : nat_le (state_of m).frames f ≡ false
    beyond =
        let low = (free_found (content past) 0 frames f least).low in
        ap (λ n. nat_le n f) same ∙ (let test : nat_le frames f ≡ false = grind (arith, low) in test)

pub none_refused_array : (j : JobView) (past : List Entry) (m : Parts) (a : Actor) (action : Action) (refusal : Refusal)
    → is_reclaimer a ≡ false → HasColumns (state_of m) past → (state_of m).frames ≡ j.epc
    → ScriptRule j past (refused_by a action refusal)
    → (is_init action ≡ false → first_of_row (row_of (state_of m) a action) ≡ Some refusal)
    → is_epa_refused (Refused action refusal) ≡ false
none_refused_array j past m a (actions.Epa f) refusal other columns frames script row =
    absurd (by_step (builds_or_none j past (outs j past) (refused_by a (actions.Epa f) refusal) script
    (ages j past (outs j past) a (Refused (actions.Epa f) refusal) other)))
  where
    by_builder : ScriptRule j past (refused_by actors.Builder (actions.Epa f) refusal)
        → first_of_row (epa_row (sight (state_of m) f.0)) ≡ Some refusal → ⊥
    by_builder rule some =
        let none = row_open m past f.0 j.epc columns frames
        (due_free j past f (Refused (actions.Epa f) refusal) refl rule.next) in cc

    by_step : Builds j past a (Refused (actions.Epa f) refusal) → ⊥
    by_step (NoStep none builds_none) = false≢true (sym builds_none)
    by_step (ByStep is s) =
        by_builder (subst (λ x. ScriptRule j past (refused_by x (actions.Epa f) refusal)) is script) (row refl)
none_refused_array j past m a action refusal other columns frames script row = refl

-- ---- one entry more

none_before : (e : Entry) (past : List Entry) → has_pages (e ∷ past) ≡ false → has_pages past ≡ false
none_before e past none = (neither (is_add e.event) (has_pages past) none).1

pub arrays_go_on : (j : JobView) (old new : Keeper) (past : List Entry) (a : Actor) (event : Event) → is_reclaimer a ≡ false
    → ScriptRule j past (record { actor = a; event = event }) → is_epa_refused event ≡ false
    → length new.arrays ≡ vas_after event (length old.arrays) → new.room ≡ old.room → KeepsKeeper j old past
    → KeepsKeeper j new (record { actor = a; event = event } ∷ past)
arrays_go_on j old new past a event other script done pages room keeps none =
    let e : Entry = record { actor = a; event = event } in
    let k = keeps (none_before e past none) in
    record {
      built = stays_arrays j past (outs j past) e script (ages j past (outs j past) a event other) done k.built;
      pages = pages ∙ ap (vas_after event) k.pages;
      room = room ∙ k.room;
    }

vas_same : (ev : Event) (n : ℕ) → is_epa ev ≡ false → vas_after ev n ≡ n
vas_same (Did (actions.Epa f) answer) n epa = absurd (false≢true (sym epa))
vas_same _ n epa = refl

-- an entry of another actor than the builder makes none
pub arrays_stay : (j : JobView) (old new : Keeper) (past : List Entry) (e : Entry) → is_builder e.actor ≡ false → is_epa e.event ≡ false
    → length new.arrays ≡ length old.arrays → new.room ≡ old.room → KeepsKeeper j old past → KeepsKeeper j new (e ∷ past)
arrays_stay j old new past e other epa pages room keeps none =
    let k = keeps (none_before e past none) in
    let same : vas_made (e ∷ past) ≡ vas_made past = vas_same e.event (vas_made past) epa in
    record {
      built =
          same ∙ k.built
          ∙ ap (λ b. count_by is_va_step (take (if b then built past + 1 else built past) (build_of j))) (sym other);
      pages = pages ∙ k.pages ∙ sym same;
      room = room ∙ k.room;
    }

-- ---- behind the first page

-- where a TCS or REG page was added there is nothing to keep
pub arrays_late : (j : JobView) (keeper : Keeper) (past : List Entry) (e : Entry) (g : Page) → IsSound past → is_own_page g ≡ true
    → is_absent (place past g) ≡ false → KeepsKeeper j keeper (e ∷ past)
arrays_late j keeper past e g sound own there none =
    absurd (false≢true (sym (none_before e past none)
    ∙ added_has_pages past g (sym (own_there past g own) ∙ sound.made g ∙ ap not there)))

-- a page at the head of the list is there
head_there : (past : List Entry) (g : Page) → IsSound past → head_of (active past) ≡ Some g → is_absent (place past g) ≡ false
head_there past g sound head =
    let here = head_here (active past) (place past) g sound.list head in ap is_absent here.1

move_makes_none : (ev : Event) → is_move ev ≡ true → is_epa ev ≡ false
move_makes_none (Did (actions.Epa f) answer) h = absurd (false≢true h)
move_makes_none _ h = refl

-- a page that is there is moved: where it is a SECS or a version array page, the keeper has as many pages as before
pub arrays_moved : (j : JobView) (old new : Keeper) (past : List Entry) (e : Entry) (g : Page) → IsSound past
    → is_builder e.actor ≡ false → is_move e.event ≡ true → is_absent (place past g) ≡ false
    → (is_own_page g ≡ false → HasAsMany old new) → KeepsKeeper j old past → KeepsKeeper j new (e ∷ past)
arrays_moved j old new past e g sound other moves there beside keeps = by_own (is_own_page g) refl
  where
    by_own : (b : Bool) → is_own_page g ≡ b → KeepsKeeper j new (e ∷ past)
    by_own true own = arrays_late j new past e g sound own there
    by_own false is =
        let many = beside is in arrays_stay j old new past e other (move_makes_none e.event moves) many.pages many.room keeps

-- within the tries of a page it is on its way out
record IsOut (past : List Entry) (g : Page) : Type 0 where
  frame : ℕ
  leaving : place past g ≡ Leaving frame

tried_out : (past : List Entry) (g : Page) (form : Form) → Stands past g form → IsOut past g
tried_out past g First h = record { frame = h.frame; leaving = h.leaving }
tried_out past g ToTrack h = record { frame = h.frame; leaving = h.leaving }
tried_out past g Second h = record { frame = h.frame; leaving = h.leaving }
tried_out past g ToKick h = record { frame = h.frame; leaving = h.leaving }
tried_out past g (Kicks rest) h = record { frame = h.frame; leaving = h.leaving }
tried_out past g Third h = record { frame = h.frame; leaving = h.leaving }
tried_out past g Sealing h = record { frame = h.frame; leaving = h.leaving }

-- each entry of the reclaimer is of a page of its pass, which was added, or of a SECS or a version array page
pub arrays_in_pass : (j : JobView) (out : Outs) (old new : Keeper) (past : List Entry) (event : Event) → IsSound past
    → KeepsPages past (pass j past) → AgeRuleBy j past out (record { actor = actors.Reclaimer; event = event })
    → (is_aside (aside past) event ≡ true → HasAsMany old new) → KeepsKeeper j old past
    → KeepsKeeper j new (record { actor = actors.Reclaimer; event = event } ∷ past)
arrays_in_pass j out old new past event sound pages age many keeps =
    by_aside (aside past) pages.aside (due_with j past out)
    (λ g. due_is_other j past out (last_event past actors.Reclaimer) g) event age many
  where
    late : (ev : Event) (g : Page) → is_own_page g ≡ true → is_absent (place past g) ≡ false
        → KeepsKeeper j new (record { actor = actors.Reclaimer; event = ev } ∷ past)
    late ev g own there = arrays_late j new past (record { actor = actors.Reclaimer; event = ev }) g sound own there

    stay : (ev : Event) → is_epa ev ≡ false → HasAsMany old new → KeepsKeeper j new (record { actor = actors.Reclaimer; event = ev } ∷ past)
    stay ev epa same = arrays_stay j old new past (record { actor = actors.Reclaimer; event = ev }) refl epa same.pages same.room keeps

    looked : (page : Page) (look : Look) → head_of (active past) ≡ Some page
        → KeepsKeeper j new (record { actor = actors.Reclaimer; event = Age page look } ∷ past)
    looked page look head = late (Age page look) page (head_own past page sound head) (head_there past page sound head)

    -- an entry of a pass, while no other page is on its way out
    by_pass : HasAside past NoneAside → (at : Pass) → HasPages past at → (ev : Event) → LookOf j past ev → InPass past at ev
        → KeepsKeeper j new (record { actor = actors.Reclaimer; event = ev } ∷ past)
    by_pass own (Between works) h (Age page look) l n = looked page look l.head
    by_pass own (Between works) h _ l n = absurd n
    by_pass own (Scan left taken) h (Age page look) l n = looked page look l.head
    by_pass own (Scan left taken) h _ l n = absurd n
    by_pass own (Blocking [] taken) h ev l n = absurd h
    by_pass own (Blocking (g ∷ gs) taken) h (Did (actions.Block f) answer) l n =
        late (Did (actions.Block f) answer) g (own g f.0 n) (ap is_absent n)
    by_pass own (Blocking (g ∷ gs) taken) h _ l n = absurd n
    by_pass own (Tries g rest form) h ev l n =
        let out = tried_out past g form h.page in late ev g (own g out.frame out.leaving) (ap is_absent out.leaving)

    by_aside : (a : Aside) → HasAside past a → (due : Option Page) → ((g : Page) → due ≡ Some g → is_own_page g ≡ false) → (ev : Event)
        → IsAhead j past (ahead_by a due) ev → (is_aside a ev ≡ true → HasAsMany old new)
        → KeepsKeeper j new (record { actor = actors.Reclaimer; event = ev } ∷ past)
    by_aside NoneAside h None others ev n same = by_pass h (pass j past) pages.pages ev n.look n.in_pass
    by_aside NoneAside h (Some g) others (Age page looks.NoRoom) n same =
        stay (Age page looks.NoRoom) refl (same (ap not (ap is_own_page n ∙ others g refl)))
    by_aside NoneAside h (Some g) others (Age page looks.Taken) n same =
        stay (Age page looks.Taken) refl (same (ap not (ap is_own_page n ∙ others g refl)))
    by_aside NoneAside h (Some g) others _ n same = absurd n
    by_aside (IsToGo g) h due others (Did (actions.EwbStart f slot) answer) n same =
        stay (Did (actions.EwbStart f slot) answer) refl (same refl)
    by_aside (IsToGo g) h due others (Refused (actions.EwbStart f slot) why.VersionSpent) n same =
        stay (Refused (actions.EwbStart f slot) why.VersionSpent) refl (same refl)
    by_aside (IsToGo g) h due others _ n same = absurd n
    by_aside (IsGoing g) h due others (Did (actions.Ewb f) answer) n same = stay (Did (actions.Ewb f) answer) refl (same refl)
    by_aside (IsGoing g) h due others _ n same = absurd n

pub arrays_begin : (j : JobView) (d : Driver) → IsNew j d → KeepsKeeper j d.slots []
arrays_begin j d new none = record {
  built = refl;
  pages = ap (λ (k : Keeper). length k.arrays) new.slots;
  room = ap (λ (k : Keeper). k.room) new.slots;
}
