-- An instruction that moves no page out or back is the next of what driver and machine agree on.
use Rattle.std.proofs.Common.{◌≡◌, inl, inr, ℕ, not, true, false, refl, sym, ◌∙◌, ap, subst, List, [], ◌∷◌}
use Rattle.std.proofs.Common.{Option, Some, None, is_some, drop, length}
use Rattle.std.proofs.lemmas.Bool.{false≢true}
use Rattle.sgx_rules.specs.declared.entries.Action.{Action}
use Rattle.sgx_rules.specs.declared.entries.Action.TheVariants.{Aex, Block, EldStart, Eld, Enter, Ewb, EwbStart, Exit, Init, Resume}
use Rattle.sgx_rules.specs.declared.entries.Action.TheVariants.{Track}
use Rattle.sgx_types.specs.declared.names.Actor.{Actor}
use Rattle.sgx_types.specs.declared.names.Actor.TheVariants as actors
use Rattle.sgx_rules.specs.declared.entries.Answer.{Answer}
use Rattle.sgx_rules.specs.declared.entries.Entry.{Entry}
use Rattle.sgx_rules.specs.declared.entries.Event.{Event}
use Rattle.sgx_rules.specs.declared.entries.Event.TheVariants.{Did, Refused}
use Rattle.sgx_types.specs.declared.names.Page.{Page}
use Rattle.sgx_rules.specs.declared.refusals.Refusal.{Refusal}
use Rattle.sgx_rules.specs.inner.Enclaves.{created}
use Rattle.sgx_rules.specs.Flat.{FlatEnclave, enclave_sight_of}
use Rattle.sgx_rules.specs.Frames.{added}
use Rattle.sgx_types.specs.Making.{Making}
use Rattle.sgx_rules.specs.inner.Rules.{LoadsAwayRule}
use Rattle.sgx_rules.specs.Processors.{Stay, stay}
use Rattle.sgx_rules.specs.Sights.{seat_of}
use Rattle.sgx_types.specs.Cases.{first_of_row}
use Rattle.sgx_rules.specs.Table.{inside_row, enter_row, init_row, is_made, resume_row, SecsSight}
use Rattle.sgx_rules.proofs.Rows.{none_holds}
use Rattle.sgx_types.proofs.Truths.{not_false}
use Rattle.job_grammar.specs.Jobs.{JobView}
use Rattle.machine_laws.specs.inner.Columns.{HasColumns, seat_of_stay}
use Rattle.machine_laws.specs.inner.Shape.{ShapeWithRules}
use Rattle.machine_laws.specs.inner.State.{State, enter_sight, row_of, secs_sight}
use Rattle.driver_laws.specs.inner.Inits.{InitTells}
use Rattle.machine_laws.specs.inner.Steps.{IsStep, did_by}
use Rattle.machine_laws.proofs.ColumnLaws.{inside_is}
use Rattle.sgx_machine.specs.inner.Parts.{Parts, state_of}
use Rattle.driver_slots.specs.inner.Keeper.{count_out}
use Rattle.driver_rules.specs.Ages.{BesideOf, FormOf, IsBeside, KeptAgeRule, KickRule}
use Rattle.driver_rules.specs.Passes as passes
use Rattle.driver_rules.specs.Passes.{Between, Blocking, Pass, Scan, Tries, pass}
use Rattle.driver_rules.specs.Places.{place}
use Rattle.driver_rules.specs.Scripts.{ScriptRule}
use Rattle.driver_rules.specs.inner.Slotted.{SlotTells}
use Rattle.driver_laws.specs.inner.Agrees.{drivers}
use Rattle.driver_laws.specs.inner.Counted.{CountMoves}
use Rattle.driver_laws.specs.inner.Kinds.{CanMove}
use Rattle.driver_laws.specs.inner.Sound.{IsSound}
use Rattle.driver_laws.specs.inner.Tracking.{StayTells, TrackingRule}
use Rattle.driver_laws.specs.inner.Tracks.{TryTells}
use Rattle.driver_laws.specs.inner.Used.{StartTells}
use Rattle.driver_tables.specs.declared.driver.Driver.{Driver}
use Rattle.driver_tables.specs.inner.Tables.{ShowsTables}
use Rattle.driver_tables.specs.inner.Agrees.{Agrees}
use Rattle.driver_tables.specs.inner.Asked.{IsNextOf}
use Rattle.driver_tables.specs.inner.Carried.{Carries}
use Rattle.driver_pass.specs.declared.stages.Form.{Form}
use Rattle.driver_pass.specs.declared.stages.Form.TheVariants as forms
use Rattle.driver_pass.specs.declared.stages.Stage.{Stage}
use Rattle.driver_pass.specs.declared.stages.Stage.TheVariants as stages
use Rattle.driver_pass.specs.declared.stages.Taken.{Taken}
use Rattle.driver_pass.specs.inner.Standing.{StandsAt, StandsFor}
use Rattle.driver_pass.specs.inner.Viewed.{form_in, is_amid, is_amid_stage, pass_by, PassView, tries_of}
use Rattle.due_notes.proofs.EntryLaws.{AddsOwn, IsEntryOf, ages, did_moves, entry_by}
use Rattle.due_notes.proofs.ArrayLaws.{adds_own}
use Rattle.due_notes.specs.inner.Noted.{HasSecsHere}
use Rattle.job_grammar.specs.inner.Valid.{IsValid}
use Rattle.due_notes.specs.inner.Plain.{is_plain, is_reclaimer}

-- ---- what it asks of the entries before it

-- who enters was outside, and who leaves was inside
same_some : (o : Option Stay) → is_some (seat_of_stay o) ≡ is_some o
same_some None = refl
same_some (Some x) = refl

inside_now : {s : State} {past : List Entry} → HasColumns s past → (p : ℕ) → is_some (stay past p) ≡ is_some (s.inside p)
inside_now {s} {past} columns p = sym (ap is_some (inside_is columns p) ∙ same_some (stay past p))

outside : (o : Option Stay) → is_some o ≡ false → o ≡ None
outside None h = refl
outside (Some x) h = absurd (false≢true (sym h))

pub enclave_is : {s : State} {past : List Entry} → HasColumns s past → (e : ℕ) → s.enclaves e ≡ created past e
enclave_is h e i = (h.enclaves i).enclaves e

made_now : {s : State} {past : List Entry} → HasColumns s past → (enclave : ℕ)
    → not (is_made (enclave_sight_of (s.enclaves enclave))) ≡ false
    → is_some (created past enclave) ≡ true
made_now {s} {past} columns enclave h =
    sym (ap is_some (enclave_is columns enclave))
    ∙ by_enclave (s.enclaves enclave) (not_false (is_made (enclave_sight_of (s.enclaves enclave))) h)
  where
    by_enclave : (o : Option FlatEnclave) → is_made (enclave_sight_of o) ≡ true → is_some o ≡ true
    by_enclave None k = absurd (false≢true k)
    by_enclave (Some x) k = refl

stay_tells : (s : State) (past : List Entry) (a : Actor) (action : Action) (answer : Answer) → HasColumns s past
    → first_of_row (row_of s a action) ≡ None → StayTells past a (Did action answer)
stay_tells s past (actors.Cpu p) (Enter enclave tcs tf sf) answer columns row =
    let none = none_holds (enter_row enclave tcs (enter_sight s p.0 (seat_of enclave tcs tf.0 sf.0))) row in
    (outside (stay past p.0) (inside_now columns p.0 ∙ none.0), made_now columns enclave none.1.1.0)
stay_tells s past (actors.Cpu p) (Resume enclave tcs tf sf) answer columns row =
    let none = none_holds (resume_row enclave tcs (enter_sight s p.0 (seat_of enclave tcs tf.0 sf.0))) row in
    (outside (stay past p.0) (inside_now columns p.0 ∙ none.0), made_now columns enclave none.1.1.0)
stay_tells s past (actors.Cpu p) Exit answer columns row =
    inside_now columns p.0 ∙ not_false (is_some (s.inside p.0)) (none_holds (inside_row (is_some (s.inside p.0))) row).0
stay_tells s past (actors.Cpu p) (Aex cause) answer columns row =
    inside_now columns p.0 ∙ not_false (is_some (s.inside p.0)) (none_holds (inside_row (is_some (s.inside p.0))) row).0
stay_tells s past (actors.Cpu p) action answer columns row = tt
stay_tells s past actors.Builder action answer columns row = tt
stay_tells s past actors.Reclaimer action answer columns row = tt

refused_stay : (past : List Entry) (a : Actor) (action : Action) (refusal : Refusal) → StayTells past a (Refused action refusal)
refused_stay past (actors.Cpu p) action refusal = tt
refused_stay past actors.Builder action refusal = tt
refused_stay past actors.Reclaimer action refusal = tt

record AsksNothing (first : ℕ) (past : List Entry) (a : Actor) (event : Event) : Type 0 where
  can : CanMove past event
  tries : TryTells past event
  starts : StartTells past event
  tracking : TrackingRule first past (record { actor = a; event = event })
  loads : LoadsAwayRule past (record { actor = a; event = event })
  slots : (j : JobView) → SlotTells j past event

did_asks : (first : ℕ) (s : State) (past : List Entry) (a : Actor) (action : Action) (answer : Answer)
    → is_plain action ≡ true → AddsOwn action → HasSecsHere past (Did action answer) → HasColumns s past
    → IsSound past → first_of_row (row_of s a action) ≡ None → AsksNothing first past a (Did action answer)
did_asks first s past a (Block f) answer plain own here columns sound row = absurd (false≢true plain)
did_asks first s past a (Track enclave) answer plain own here columns sound row = absurd (false≢true plain)
did_asks first s past a (EwbStart f slot) answer plain own here columns sound row = absurd (false≢true plain)
did_asks first s past a (Ewb f) answer plain own here columns sound row = absurd (false≢true plain)
did_asks first s past a (EldStart f page slot) answer plain own here columns sound row = absurd (false≢true plain)
did_asks first s past a (Eld f) answer plain own here columns sound row = absurd (false≢true plain)
did_asks first s past a action answer plain own here columns sound row = record {
  can = did_moves s past a action answer plain own here columns sound row;
  tries = tt;
  starts = tt;
  tracking = record { stay = stay_tells s past a action answer columns row; track = tt };
  loads = tt;
  slots = λ j. tt;
}

refused_asks : (first : ℕ) (past : List Entry) (a : Actor) (action : Action) (refusal : Refusal) → is_plain action ≡ true
    → AsksNothing first past a (Refused action refusal)
refused_asks first past a (EwbStart f slot) refusal plain = absurd (false≢true plain)
refused_asks first past a (Eld f) refusal plain = absurd (false≢true plain)
refused_asks first past a action refusal plain = record {
  can = tt;
  tries = tt;
  starts = tt;
  tracking = record { stay = refused_stay past a action refusal; track = tt };
  loads = tt;
  slots = λ j. tt;
}

asks : (first : ℕ) (s t : State) (past : List Entry) (a : Actor) (action : Action) (e : Entry) → is_plain action ≡ true
    → ((answer : Answer) → e ≡ did_by a action answer → AddsOwn action) → HasSecsHere past e.event → HasColumns s past → IsSound past
    → IsStep s a action e t → AsksNothing first past e.actor e.event
asks first s t past a action e plain own here columns sound is = by_entry (entry_by s t a action e is)
  where
    by_entry : IsEntryOf s a action e → AsksNothing first past e.actor e.event
    by_entry (inl k) = rw k.is
        (did_asks first s past a action k.answer plain (own k.answer k.is)
        (subst (λ (x : Entry). HasSecsHere past x.event) k.is here) columns sound k.row)
    by_entry (inr k) = rw k.is (refused_asks first past a action k.refusal plain)

actor_is : (s t : State) (a : Actor) (action : Action) (e : Entry) → IsStep s a action e t → e.actor ≡ a
actor_is s t a action e is = by_entry (entry_by s t a action e is)
  where
    by_entry : IsEntryOf s a action e → e.actor ≡ a
    by_entry (inl k) = ap (λ (x : Entry). x.actor) k.is
    by_entry (inr k) = ap (λ (x : Entry). x.actor) k.is

-- an enclave that it initialises was created before
inits_tell : (made : Making) (past : List Entry) (m m' : Parts) (a : Actor) (action : Action) (e : Entry)
    → ShapeWithRules made (state_of m) past → IsStep (state_of m) a action e (state_of m') → InitTells past e.event
inits_tell made past m m' a action e follows is = by_entry (entry_by (state_of m) (state_of m') a action e is)
  where
    some : (o : Option FlatEnclave) (secs : SecsSight) → first_of_row (init_row (enclave_sight_of o) secs) ≡ None → is_some o ≡ true
    some None secs row = cc
    some (Some x) secs row = refl

    did : (x : Action) (answer : Answer) → first_of_row (row_of (state_of m) a x) ≡ None → InitTells past (Did x answer)
    did (Init enclave expect) answer row =
        sym (ap is_some (enclave_is follows.shape.columns enclave))
        ∙ some ((state_of m).enclaves enclave) (secs_sight (state_of m) enclave) row
    did x answer row = tt

    by_entry : IsEntryOf (state_of m) a action e → InitTells past e.event
    by_entry (inl k) = rw k.is (did action k.answer k.row)
    by_entry (inr k) = rw k.is tt

-- ---- the rules on the reclaimer

-- no turn ends between two kicks
abbrev pub BesidePass : Pass → Type 0
BesidePass (Tries g rest form) = IsBeside form
BesidePass at = Unit {0}

pub beside : (first : ℕ) (past : List Entry) (v : PassView) (at : Pass) → StandsFor first past v at → is_amid v ≡ false → BesidePass at
beside first past v at is whole = subst BesidePass (sym is.same) (by_stage v.stage whole)
  where
    by_form : (next : ℕ) (form : Form) → is_amid_stage (stages.Tries next form) ≡ false → IsBeside (form_in v.kicks form)
    by_form next forms.First h = tt
    by_form next forms.Track h = tt
    by_form next forms.Second h = tt
    by_form next (forms.Kick epoch made) h = tt
    by_form next (forms.Kicks epoch place) h = cc
    by_form next (forms.Third epoch) h = tt
    by_form next forms.Sealing h = tt

    by_pages : (ts : List Taken) (to : passes.Form) → IsBeside to → BesidePass (tries_of ts to)
    by_pages [] to h = tt
    by_pages (t ∷ ts) to h = h

    by_stage : (stage : Stage) → is_amid_stage stage ≡ false → BesidePass (pass_by v.taken v.kicks stage)
    by_stage (stages.Idle works) h = tt
    by_stage (stages.Scan left) h = tt
    by_stage (stages.Block next) h = tt
    by_stage (stages.Tries next form) h = by_pages (drop next v.taken) (form_in v.kicks form) (by_form next form h)

pub kicks : (j : JobView) (past : List Entry) (a : Actor) (event : Event) → is_reclaimer a ≡ false → BesidePass (pass j past)
    → KickRule j past (record { actor = a; event = event })
kicks j past a event other h = record { form = form a (pass j past) other; beside = is_beside a (pass j past) other h }
  where
    form : (b : Actor) (at : Pass) → is_reclaimer b ≡ false → FormOf past at b event
    form actors.Builder (Between works) k = tt
    form actors.Builder (Scan left taken) k = tt
    form actors.Builder (Blocking due taken) k = tt
    form actors.Builder (Tries g rest to) k = tt
    form (actors.Cpu p) (Between works) k = tt
    form (actors.Cpu p) (Scan left taken) k = tt
    form (actors.Cpu p) (Blocking due taken) k = tt
    form (actors.Cpu p) (Tries g rest to) k = tt
    form actors.Reclaimer at k = absurd (false≢true (sym k))

    is_beside : (b : Actor) (at : Pass) → is_reclaimer b ≡ false → BesidePass at → BesideOf at b
    is_beside actors.Builder (Between works) k x = tt
    is_beside actors.Builder (Scan left taken) k x = tt
    is_beside actors.Builder (Blocking due taken) k x = tt
    is_beside actors.Builder (Tries g rest to) k x = x
    is_beside (actors.Cpu p) (Between works) k x = tt
    is_beside (actors.Cpu p) (Scan left taken) k x = tt
    is_beside (actors.Cpu p) (Blocking due taken) k x = tt
    is_beside (actors.Cpu p) (Tries g rest to) k x = x
    is_beside actors.Reclaimer at k x = absurd (false≢true (sym k))

pub others_age : (j : JobView) (past : List Entry) (a : Actor) (event : Event) → is_reclaimer a ≡ false
    → KeptAgeRule j past (record { actor = a; event = event })
others_age j past actors.Builder event other = tt
others_age j past (actors.Cpu p) event other = tt
others_age j past actors.Reclaimer event other = absurd (false≢true (sym other))

-- ---- all of it

pub plain_next : (made : Making) (j : JobView) (past : List Entry) (d d' : Driver) (m m' : Parts) (v : PassView) (a : Actor)
    (action : Action) (e : Entry) → is_reclaimer a ≡ false → is_plain action ≡ true → IsValid j → Agrees made j past d m
    → StandsAt made.first_epoch j past v → is_amid v ≡ false → ScriptRule j past e → HasSecsHere past e.event
    → IsStep (state_of m) a action e (state_of m') → Carries (state_of m) e (state_of m') → length m'.cpus ≡ length m.cpus
    → ShowsTables (drivers j) j d' (e ∷ past)
    → CountMoves past e.event (count_out d.slots) (count_out d'.slots) → IsNextOf made j past d m e d' m'
plain_next made j past d d' m m' v a action e other plain valid r stands whole script here is carries cpus shows counts =
    let k = asks made.first_epoch (state_of m) (state_of m') past a action e plain
    (λ answer did. adds_own j past a action answer other valid (subst (ScriptRule j past) did script))
    here r.follows.shape.columns r.sound is in
    let by : is_reclaimer e.actor ≡ false = ap is_reclaimer (actor_is (state_of m) (state_of m') a action e is) ∙ other in
    record {
      script = script;
      age = others_age j past e.actor e.event by;
      kick = kicks j past e.actor e.event by (beside made.first_epoch past v (pass j past) stands whole);
      slots = k.slots j;
      can = k.can;
      tries = k.tries;
      starts = k.starts;
      inits = inits_tell made past m m' a action e r.follows is;
      tracking = k.tracking;
      follows = carries.shape made past r.follows;
      fits = carries.fits made past r.follows k.loads r.fits;
      cpus = cpus;
      shows = shows;
      counts = counts;
    }
