-- The answer of a fault step is what is due, and what its entry keeps.
use Rattle.std.proofs.Common.{◌≡◌, ℕ, ◌<◌, ◌==◌, Bool, true, false, if◌then◌else◌, List, ◌∷◌, Option, None, Some, Result, Ok, Err}
use Rattle.std.proofs.Common.{MatchOption, inl, inr, length, refl, sym, ap, subst, ◌∙◌}
use Rattle.std.proofs.lemmas.Bool.{eq-eqb, false≢true}
use Rattle.std.proofs.lemmas.Option.{same_Some}
use Rattle.sgx_rules.specs.declared.entries.Action.{Action}
use Rattle.sgx_rules.specs.declared.entries.Action.TheVariants.{EldStart}
use Rattle.sgx_types.specs.declared.names.Actor.TheVariants as actors
use Rattle.sgx_rules.specs.declared.entries.Answer.{Answer}
use Rattle.sgx_rules.specs.declared.entries.BusWhy.{BusWhy}
use Rattle.sgx_rules.specs.declared.entries.BusWhy.TheVariants as reasons
use Rattle.sgx_rules.specs.declared.entries.Entry.{Entry}
use Rattle.sgx_rules.specs.declared.entries.Event.TheVariants.{Bus, Did, Refused}
use Rattle.sgx_types.specs.declared.names.Cpu.{Cpu}
use Rattle.sgx_types.specs.declared.names.Page.{Page}
use Rattle.sgx_types.specs.declared.names.SlotAt.{SlotAt}
use Rattle.sgx_types.specs.declared.names.VaSlot.{VaSlot}
use Rattle.sgx_types.specs.Pages.{is_own_page, secs_page, va_page}
use Rattle.sgx_rules.specs.declared.refusals.Refusal.{Refusal}
use Rattle.sgx_rules.specs.declared.refusals.Refusal.TheVariants as why
use Rattle.sgx_rules.specs.Frames.{content, least_free, stands}
use Rattle.sgx_types.specs.Making.{Making}
use Rattle.sgx_rules.specs.inner.Rules.{LoadsAwayRule}
use Rattle.sgx_types.specs.Sealed.{Sealed}
use Rattle.sgx_rules.specs.Starts.{Start, open_start}
use Rattle.sgx_rules.specs.inner.Starts.{is_load_of}
use Rattle.sgx_types.specs.Cases.{first_of_row}
use Rattle.sgx_types.specs.Pages.{frame_at}
use Rattle.job_grammar.specs.Jobs.{JobView}
use Rattle.backing_store.specs.Calls.{Call}
use Rattle.backing_store.specs.declared.backing.StoreFault.{StoreFault}
use Rattle.backing_store.specs.declared.backing.StoreFault.TheVariants as faults
use Rattle.driver_list.specs.inner.Places.{IsPlaced}
use Rattle.driver_list.specs.inner.States.{state_of as page_state}
use Rattle.driver_list.specs.declared.page_states.PageState.{PageState}
use Rattle.driver_list.specs.declared.page_states.PageState.TheVariants as states
use Rattle.machine_laws.specs.inner.State.{row_of, version_at}
use Rattle.machine_laws.specs.inner.Steps.{IsDone, answer_of, did_by, refused_by}
use Rattle.sgx_machine.specs.inner.Parts.{Parts, state_of}
use Rattle.driver_rules.specs.declared.waits.Why.{Why}
use Rattle.driver_rules.specs.declared.waits.Why.TheVariants as waits
use Rattle.driver_rules.specs.Dues.{Due, Fetch, IsNext}
use Rattle.driver_rules.specs.Dues as dues
use Rattle.driver_rules.specs.Places.{Away, Place, is_here, place}
use Rattle.driver_rules.specs.Targets.{slot_here, target_by, target_from}
use Rattle.driver_rules.specs.inner.Reclaims.{is_refused}
use Rattle.driver_rules.specs.Turns.{Fails, fetch, fetch_by, fetches, last_of}
use Rattle.driver_laws.specs.inner.Agrees.{drivers, loaded_by}
use Rattle.driver_laws.specs.inner.Kinds.{CanMove}
use Rattle.driver_laws.specs.inner.Sound.{IsSound, load_slot, slot_if, slot_loading, stands_in}
use Rattle.driver_laws.specs.inner.Used.{load_left}
use Rattle.driver_laws.proofs.OwnLaws.{FetchIs, IsAsk, target_is as target_asked}
use Rattle.driver_laws.proofs.WithinLaws.{least_found}
use Rattle.driver_tables.specs.declared.driver.Driver.{Driver}
use Rattle.driver_tables.specs.inner.Moves.{with_load}
use Rattle.driver_tables.specs.inner.Tables.{ShowsTables, place_in}
use Rattle.driver_tables.specs.inner.Targets.{target_in}
use Rattle.driver_tables.proofs.LoadShowLaws.{shows_bus, shows_load_start}
use Rattle.driver_tables.proofs.OtherShowLaws.{shows_others}
use Rattle.driver_tables.proofs.TargetLaws.{array_of, slot_here_is, target_is}
use Rattle.driver_faults.specs.declared.answers.FaultAnswer.{FaultAnswer}
use Rattle.driver_faults.specs.declared.answers.FaultAnswer.TheVariants as answers
use Rattle.driver_faults.specs.inner.Due.{IsRight, WaitsBy, fetch_of}
use Rattle.driver_tables.specs.inner.Agrees.{Agrees}
use Rattle.driver_faults.specs.inner.Resolving.{HasStarted, FetchesPage, IsGot, IsResolved, IsSaid, IsStarted, asked_by, asked_in}
use Rattle.driver_faults.proofs.AskLaws.{target_placed}
use Rattle.driver_faults.proofs.LoadRows.{IsFoundAt, frames_are, load_row, slot_stands}

-- ---- in general

-- no frame holds or loads a page that is away
away_apart : (past : List Entry) (g : Page) (slot : VaSlot) → IsSound past → place past g ≡ Away slot → (n : ℕ)
    → (stands (content past n) g ≡ false) × (is_load_of (open_start past n) g ≡ false)
away_apart past g slot s at n =
    (s.places.frames g n ∙ ap (λ p. stands_in p n) at, no_slot (open_start past n) (s.places.loads g n ∙ ap (λ p. slot_loading p n) at))
  where
    by_test : (b : Bool) (x : VaSlot) → slot_if b x ≡ None → b ≡ false
    by_test true x h = cc
    by_test false x h = refl

    no_slot : (o : Option Start) → load_slot o g ≡ None → is_load_of o g ≡ false
    no_slot None h = refl
    no_slot (Some start) h = by_test (is_load_of (Some start) g) start.slot h

-- the page that is brought back first is not here
target_away : (past : List Entry) (g : Page) (slot : VaSlot) → place past g ≡ Away slot
    → is_here (place past (target_by past g (Away slot))) ≡ false
target_away past g slot at = by_own (is_own_page g)
  where
    by_array : (c : Bool) → is_here (place past (va_page slot.va)) ≡ c → is_here (place past (if c then g else va_page slot.va)) ≡ false
    by_array true here = ap is_here at
    by_array false none = none

    by_secs : (b : Bool) → is_here (place past (secs_page g.enclave)) ≡ b
        → is_here (place past (if b then (if is_here (place past (va_page slot.va)) then g else va_page slot.va) else secs_page g.enclave))
        ≡ false
    by_secs true here = by_array (is_here (place past (va_page slot.va))) refl
    by_secs false none = none

    by_own : (b : Bool) → is_here (place past (if b then target_from past g slot else g)) ≡ false
    by_own true = by_secs (is_here (place past (secs_page g.enclave))) refl
    by_own false = ap is_here at

-- a page that is needed may be told as lost itself, and the page that is brought back first may be
lost_own : (g : Page) (fetch : Fetch) → IsNext (dues.Fetches g fetch) (Bus g reasons.PutFailed)
lost_own g (dues.WaitsFor target) = refl
lost_own g (dues.Asks target slot None) = inl refl
lost_own g (dues.Asks target slot (Some f)) = inl refl

lost_target : (g target : Page) (slot : Option SlotAt) (free : Option ℕ)
    → IsNext (dues.Fetches g (dues.Asks target slot free)) (Bus target reasons.PutFailed)
lost_target g target slot None = inr refl
lost_target g target slot (Some f) = inr refl

-- the row of a load leaves one refusal, by the version in its slot
left_by : (version : ℕ) (b : Bool) → (version == 0) ≡ b → first_of_row (load_left version) ≡ (if b then Some why.SlotEmpty else None)
left_by version true is = rw is refl
left_by version false is = rw is refl

-- ---- what is asked for a page

module _ (made : Making) (j : JobView) (past : List Entry) (d d' : Driver) (m m' : Parts) (r : Agrees made j past d m) (cpu : Cpu)
    (page asked : Page) where
  -- an answer without an entry
  said : (what answer : FaultAnswer) → IsSaid what d m answer d' m' → IsRight j past cpu page asked what d
      → IsRight j past cpu page asked answer d'
  said what answer is right =
      subst (λ x. IsRight j past cpu page asked answer x) (sym is.driver)
      (subst (λ a. IsRight j past cpu page asked a d) (sym is.says) right)

  -- a page that is not here: its bus, and a wait
  bus : (why : BusWhy) (due : Due) → is_here (place past page) ≡ false → fetch_of j past page ≡ due → IsNext due (Bus asked why)
      → IsRight j past cpu page asked (answers.Bus why) d
  bus why due none is next = record {
    due = (none, subst (λ x. IsNext x (Bus asked why)) (sym is) next);
    kept = tt;
    shows = λ idle. shows_bus (drivers j) j d past cpu asked why idle r.shows;
  }

  wait : (why : Why) (due : Due) → is_here (place past page) ≡ false → fetch_of j past page ≡ due → WaitsBy due why
      → IsRight j past cpu page asked (answers.Again why) d
  wait why due none is waits_for = record {
    due = (none, subst (λ x. WaitsBy x why) (sym is) waits_for);
    kept = tt;
    shows = λ idle. r.shows;
  }

-- ---- the page that is brought back first

module _ (made : Making) (j : JobView) (past : List Entry) (d d' : Driver) (m m' : Parts) (r : Agrees made j past d m) (cpu : Cpu)
    (page asked : Page) (room : cpu.0 < length d.kept) (none : is_here (place past page) ≡ false)
    (due : fetch_of j past page ≡ dues.Fetches page (fetch j.epc past asked)) (placed : IsPlaced d.states.counts asked)
    (needs : FetchIs j past (fetch j.epc past asked)) where
  due_by : (p : Place) → place past asked ≡ p → fetch_of j past page ≡ dues.Fetches page (fetch_by j.epc past asked p)
  due_by p at = due ∙ ap (λ q. dues.Fetches page (fetch_by j.epc past asked q)) at

  due_at : (slot : VaSlot) (to : Option SlotAt) (free : Option ℕ) → place past asked ≡ Away slot → slot_here past slot ≡ to
      → least_free j.epc (content past) ≡ free → fetch_of j past page ≡ dues.Fetches page (dues.Asks asked to free)
  due_at slot to free at is_slot is_free =
      due_by (Away slot) at ∙ (λ i. dues.Fetches page (dues.Asks asked (is_slot i) (is_free i)))

  asks : (slot : VaSlot) → place past asked ≡ Away slot → IsAsk j past asked (slot_here past slot) (least_free j.epc (content past))
  asks slot at = subst (λ p. FetchIs j past (fetch_by j.epc past asked p)) at needs

  module _ (slot : VaSlot) (to : SlotAt) (f : ℕ) (rec : Sealed) (answer : FaultAnswer) (at : place past asked ≡ Away slot)
      (found : slot_here past slot ≡ Some to) (least : least_free j.epc (content past) ≡ Some f)
      (is : IsStarted cpu asked slot to (frame_at f) rec d m answer d' m') where
    abbrev action : Action
    action = EldStart (frame_at f) asked to

    -- a load has started
    done : is.entry ≡ did_by (actors.Cpu cpu) action (answer_of (state_of m) (actors.Cpu cpu) action)
        → IsRight j past cpu page asked answer d'
    done did =
        subst (λ a. IsRight j past cpu page asked a d') (sym has.says)
        (subst (λ x. IsRight j past cpu page asked (answers.Started is.entry has.work) x) (sym has.driver) (record {
          due = (
            none,
            ap (λ (e : Entry). e.actor) did,
            subst (λ x. IsNext x is.entry.event) (sym (due_at slot (Some to) (Some f) at found least))
                (subst (λ (e : Entry). IsNext (dues.Fetches page (dues.Asks asked (Some to) (Some f))) e.event) (sym did) refl),
            not_refused,
          );
          kept = (
            subst (λ (e : Entry). CanMove past e.event) (sym did) can,
            subst (λ (e : Entry). LoadsAwayRule past e) (sym did) (away_apart past asked slot r.sound at),
          );
          shows = λ idle. subst
              (λ (e : Entry). ShowsTables (drivers j) j (with_load d cpu asked slot (frame_at f) rec) (e ∷ past)) (sym did)
              (shows_load_start (drivers j) j d past cpu (frame_at f) asked to version rec slot can at r.sound placed room r.shows);
        }))
      where
        version : Answer
        version = answer_of (state_of m) (actors.Cpu cpu) action

        its : IsFoundAt past slot to
        its = slot_stands made j past d m r slot to (array_of (drivers j) j d past r.shows asked slot r.sound at) found

        can : CanMove past (Did action version)
        can = ((least_found (content past) j.epc f least).free, slot, at, its.found, its.here, (asks slot at).secs)

        not_refused : is_refused is.entry.event ≡ false
        not_refused = ap (λ (e : Entry). is_refused e.event) did

        has : HasStarted cpu asked slot (frame_at f) rec d is.entry answer d' m'
        has = is.started not_refused

    -- .. or its slot has no version
    refused : is.entry ≡ refused_by (actors.Cpu cpu) action why.SlotEmpty → IsRight j past cpu page asked answer d'
    refused did =
        subst (λ a. IsRight j past cpu page asked a d') (sym says.0)
        (subst (λ x. IsRight j past cpu page asked (answers.Slot is.entry) x) (sym says.1) (record {
          due = (
            none,
            ap (λ (e : Entry). e.actor) did,
            subst (λ x. IsNext x is.entry.event) (sym (due_at slot (Some to) (Some f) at found least))
                (subst (λ (e : Entry). IsNext (dues.Fetches page (dues.Asks asked (Some to) (Some f))) e.event) (sym did) refl),
            fails,
          );
          kept = (
            subst (λ (e : Entry). CanMove past e.event) (sym did) tt,
            subst (λ (e : Entry). LoadsAwayRule past e) (sym did) tt,
          );
          shows = λ idle. (
            shown idle,
            shows_bus (drivers j) j d (is.entry ∷ past) cpu asked reasons.Slot (ap loaded_by fails) (shown idle),
          );
        }))
      where
        says : (answer ≡ answers.Slot is.entry) × (d' ≡ d)
        says = is.refused (ap (λ (e : Entry). is_refused e.event) did)

        fails : last_of (is.entry ∷ past) cpu.0 ≡ Fails asked reasons.Slot
        fails = ap (λ (e : Entry). last_of (e ∷ past) cpu.0) did ∙ rw (eq-eqb cpu.0 cpu.0 refl) refl

        shown : loaded_by (last_of past cpu.0) ≡ None → ShowsTables (drivers j) j d (is.entry ∷ past)
        shown idle =
            subst (λ (e : Entry). ShowsTables (drivers j) j d (e ∷ past)) (sym did)
            (shows_others (drivers j) j d past cpu (Refused action why.SlotEmpty) refl refl refl idle refl r.shows)

    row_is : (b : Bool) → (version_at (state_of m) to == 0) ≡ b
        → first_of_row (row_of (state_of m) (actors.Cpu cpu) action) ≡ (if b then Some why.SlotEmpty else None)
    row_is b empty =
        load_row made j past d m r (actors.Cpu cpu) asked slot to f at found (asks slot at).secs least
        ∙ left_by (version_at (state_of m) to) b empty

    started : IsRight j past cpu page asked answer d'
    started = by_version (version_at (state_of m) to == 0) refl
      where
        did_if : (o : Option Refusal) → o ≡ None
            → MatchOption o (IsDone (state_of m) (actors.Cpu cpu) action is.entry (state_of m'))
            (λ refusal. (is.entry ≡ refused_by (actors.Cpu cpu) action refusal) × (state_of m' ≡ state_of m))
            → is.entry ≡ did_by (actors.Cpu cpu) action (answer_of (state_of m) (actors.Cpu cpu) action)
        did_if None row k = k.0
        did_if (Some refusal) row k = cc

        refused_if : (o : Option Refusal) → o ≡ Some why.SlotEmpty
            → MatchOption o (IsDone (state_of m) (actors.Cpu cpu) action is.entry (state_of m'))
            (λ refusal. (is.entry ≡ refused_by (actors.Cpu cpu) action refusal) × (state_of m' ≡ state_of m))
            → is.entry ≡ refused_by (actors.Cpu cpu) action why.SlotEmpty
        refused_if None row k = cc
        refused_if (Some refusal) row k = k.0 ∙ ap (refused_by (actors.Cpu cpu) action) (same_Some refusal why.SlotEmpty row)

        by_version : (b : Bool) → (version_at (state_of m) to == 0) ≡ b → IsRight j past cpu page asked answer d'
        by_version true empty =
            refused (refused_if (first_of_row (row_of (state_of m) (actors.Cpu cpu) action)) (row_is true empty) is.step)
        by_version false empty = done (did_if (first_of_row (row_of (state_of m) (actors.Cpu cpu) action)) (row_is false empty) is.step)

  got : (slot : VaSlot) (to : SlotAt) (f : ℕ) (g : Result (Option Sealed) StoreFault) (answer : FaultAnswer) → place past asked ≡ Away slot
      → slot_here past slot ≡ Some to → least_free j.epc (content past) ≡ Some f
      → IsGot cpu asked slot to (frame_at f) g d m answer d' m' → IsRight j past cpu page asked answer d'
  got slot to f (Ok (Some rec)) answer at found least is = started slot to f rec answer at found least is
  got slot to f (Ok None) answer at found least is =
      said made j past d d' m m' r cpu page asked (answers.Bus reasons.NoRecord) answer is
      (bus made j past d d' m m' r cpu page asked reasons.NoRecord (dues.Fetches page (dues.Asks asked (Some to) (Some f))) none
      (due_at slot (Some to) (Some f) at found least) refl)
  got slot to f (Err faults.Failed) answer at found least is =
      said made j past d d' m m' r cpu page asked (answers.Bus reasons.GetFailed) answer is
      (bus made j past d d' m m' r cpu page asked reasons.GetFailed (dues.Fetches page (dues.Asks asked (Some to) (Some f))) none
      (due_at slot (Some to) (Some f) at found least) refl)
  got slot to f (Err faults.Memory) answer at found least is = absurd is

  fetched : (slot : VaSlot) (told told' : Option (List Call)) (answer : FaultAnswer) → place past asked ≡ Away slot → (to : Option SlotAt)
      → slot_here past slot ≡ to → (free : Option ℕ) → least_free j.epc (content past) ≡ free
      → FetchesPage cpu asked slot to free d m told answer d' m' told' → IsRight j past cpu page asked answer d'
  fetched slot told told' answer at None found free least is = absurd is
  fetched slot told told' answer at (Some to) found None least is =
      said made j past d d' m m' r cpu page asked (answers.Again waits.NoFrame) answer is.does
      (wait made j past d d' m m' r cpu page asked waits.NoFrame (dues.Fetches page (dues.Asks asked (Some to) None)) none
      (due_at slot (Some to) None at found least) refl)
  fetched slot told told' answer at (Some to) found (Some f) least is = got slot to f is.got answer at found least is.does

  free_is : least_free (state_of m).frames (state_of m).content ≡ least_free j.epc (content past)
  free_is = ap (λ n. least_free n (state_of m).content) (frames_are made j past d m r)
      ∙ ap (λ c. least_free j.epc c.content) r.follows.shape.columns.frames

  asked_is : (s : PageState) → page_state d.states asked ≡ s → place past asked ≡ place_in s
  asked_is s is = sym (r.shows.states asked placed) ∙ ap place_in is

  busy : (s : PageState) (answer : FaultAnswer) → page_state d.states asked ≡ s
      → fetch_by j.epc past asked (place_in s) ≡ dues.WaitsFor asked → IsSaid (answers.Again (waits.Busy asked)) d m answer d' m'
      → IsRight j past cpu page asked answer d'
  busy s answer is waits_for k =
      said made j past d d' m m' r cpu page asked (answers.Again (waits.Busy asked)) answer k
      (wait made j past d d' m m' r cpu page asked (waits.Busy asked) (dues.Fetches page (dues.WaitsFor asked)) none
      (due_by (place_in s) (asked_is s is) ∙ ap (dues.Fetches page) waits_for) refl)

  -- by what became of it
  by_asked : (told told' : Option (List Call)) (answer : FaultAnswer) (s : PageState) → page_state d.states asked ≡ s
      → is_here (place past asked) ≡ false → IsResolved cpu asked s d m told answer d' m' told' → IsRight j past cpu page asked answer d'
  by_asked told told' answer (states.Here f) is gone k = absurd (false≢true (sym gone ∙ ap is_here (asked_is (states.Here f) is)))
  by_asked told told' answer (states.Lost slot) is gone k =
      said made j past d d' m m' r cpu page asked (answers.Bus reasons.PutFailed) answer k.does
      (bus made j past d d' m m' r cpu page asked reasons.PutFailed
      (dues.Fetches page (dues.Asks asked (slot_here past slot) (least_free j.epc (content past)))) none
      (due_by (Away slot) (asked_is (states.Lost slot) is))
      (lost_target page asked (slot_here past slot) (least_free j.epc (content past))))
  by_asked told told' answer (states.Away slot) is gone k =
      fetched slot told told' answer at (slot_here past slot) refl (least_free j.epc (content past)) refl
      (subst (λ o. FetchesPage cpu asked slot (slot_here past slot) o d m told answer d' m' told') free_is
      (subst (λ to. FetchesPage cpu asked slot to (least_free (state_of m).frames (state_of m).content) d m told answer d' m' told')
      (slot_here_is (drivers j) j d past r.shows slot (array_of (drivers j) j d past r.shows asked slot r.sound at)) k))
    where
      at : place past asked ≡ Away slot
      at = asked_is (states.Away slot) is
  by_asked told told' answer states.Absent is gone k = busy states.Absent answer is refl k.does
  by_asked told told' answer (states.Leaving f) is gone k = busy (states.Leaving f) answer is refl k.does
  by_asked told told' answer (states.Loading f slot) is gone k = busy (states.Loading f slot) answer is refl k.does

-- what a fault step does is right, for whatever entries tables and machine stand for
pub resolved_is_right : (made : Making) (j : JobView) (past : List Entry) (d d' : Driver) (m m' : Parts) (cpu : Cpu) (page : Page)
    (told told' : Option (List Call)) (answer : FaultAnswer) → Agrees made j past d m → IsPlaced d.states.counts page
    → cpu.0 < length d.kept → IsResolved cpu (asked_in d page) (page_state d.states (asked_in d page)) d m told answer d' m' told'
    → IsRight j past cpu page (asked_in d page) answer d'
resolved_is_right made j past d d' m m' cpu page told told' answer r here room does = by_state (page_state d.states page) refl does
  where
    place_is : (s : PageState) → page_state d.states page ≡ s → place past page ≡ place_in s
    place_is s is = sym (r.shows.states page here) ∙ ap place_in is

    resolves : PageState → Type 0
    resolves s = IsResolved cpu page s d m told answer d' m' told'

    busy_own : (s : PageState) → page_state d.states page ≡ s → is_here (place_in s) ≡ false
        → fetches j.epc past page (place_in s) ≡ dues.Waits (waits.Busy page) → IsSaid (answers.Again (waits.Busy page)) d m answer d' m'
        → IsRight j past cpu page page answer d'
    busy_own s is none waits_for k =
        said made j past d d' m m' r cpu page page (answers.Again (waits.Busy page)) answer k
        (wait made j past d d' m m' r cpu page page (waits.Busy page) (dues.Waits (waits.Busy page)) (ap is_here (place_is s is) ∙ none)
        (ap (fetches j.epc past page) (place_is s is) ∙ waits_for) refl)

    by_state : (s : PageState) → page_state d.states page ≡ s
        → IsResolved cpu (asked_by d page s) (page_state d.states (asked_by d page s)) d m told answer d' m' told'
        → IsRight j past cpu page (asked_by d page s) answer d'
    by_state (states.Away slot) is k =
        subst (λ g. IsResolved cpu g (page_state d.states g) d m told answer d' m' told' → IsRight j past cpu page g answer d') (sym same)
        (λ does. by_asked made j past d d' m m' r cpu page target room (ap is_here at) (ap (fetches j.epc past page) at)
        (target_placed (drivers j) j d past r.shows page slot r.sound here at) (target_asked j past page slot at) told told' answer
        (page_state d.states target) refl (target_away past page slot at) does) k
      where
        at : place past page ≡ Away slot
        at = place_is (states.Away slot) is

        target : Page
        target = target_by past page (Away slot)

        same : target_in d page slot ≡ target
        same = target_is (drivers j) j d past r.shows page slot r.sound at ∙ ap (target_by past page) at
    by_state (states.Here f) is k =
        said made j past d d' m m' r cpu page page answers.Here answer (subst resolves is k).does
        (record { due = ap is_here (place_is (states.Here f) is); kept = tt; shows = λ idle. r.shows })
    by_state (states.Lost slot) is k =
        said made j past d d' m m' r cpu page page (answers.Bus reasons.PutFailed) answer (subst resolves is k).does
        (bus made j past d d' m m' r cpu page page reasons.PutFailed (fetches j.epc past page (Away slot))
        (ap is_here (place_is (states.Lost slot) is)) (ap (fetches j.epc past page) (place_is (states.Lost slot) is))
        (lost_own page (fetch j.epc past (target_by past page (Away slot)))))
    by_state states.Absent is k = busy_own states.Absent is refl refl (subst resolves is k).does
    by_state (states.Leaving f) is k = busy_own (states.Leaving f) is refl refl (subst resolves is k).does
    by_state (states.Loading f slot) is k = busy_own (states.Loading f slot) is refl refl (subst resolves is k).does
