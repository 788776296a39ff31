-- A fault step's entry and the end of a load tell what is so of their records.
use Rattle.std.proofs.Common.{◌≡◌, ℕ, ◌<◌, not, Bool, true, false, if◌then◌else◌, refl, sym}
use Rattle.std.proofs.Common.{◌∙◌, ap, subst, List, ◌∷◌, Option, Some, None, MatchOption, Result, Ok, Err, length}
use Rattle.std.specs.Option.{IsSomeAnd}
use Rattle.std.specs.Str.{bytes_eq}
use Rattle.std.proofs.lemmas.Option.{same_Some}
use Rattle.sgx_rules.specs.declared.entries.Action.TheVariants.{Eld}
use Rattle.sgx_types.specs.declared.names.Actor.TheVariants as actors
use Rattle.sgx_rules.specs.declared.entries.Answer.TheVariants.{Moved}
use Rattle.sgx_rules.specs.declared.entries.BusWhy.{BusWhy}
use Rattle.sgx_rules.specs.declared.entries.BusWhy.TheVariants as reasons
use Rattle.sgx_rules.specs.declared.entries.Entry.{Entry}
use Rattle.sgx_types.specs.declared.names.Cpu.{Cpu}
use Rattle.sgx_types.specs.declared.names.Frame.{Frame}
use Rattle.sgx_types.specs.declared.names.Page.{Page}
use Rattle.sgx_types.specs.declared.names.SlotAt.{SlotAt}
use Rattle.sgx_types.specs.declared.names.VaSlot.{VaSlot}
use Rattle.sgx_types.specs.declared.record.Header.{Header}
use Rattle.sgx_rules.specs.declared.refusals.Refusal.{Refusal}
use Rattle.sgx_rules.specs.declared.refusals.Refusal.TheVariants as why
use Rattle.sgx_rules.specs.PageBytes.{header_at}
use Rattle.sgx_rules.specs.Frames.{least_free}
use Rattle.sgx_types.specs.Making.{Making}
use Rattle.sgx_types.specs.Sealed.{Sealed}
use Rattle.sgx_rules.specs.Starts.{Start, open_start}
use Rattle.sgx_rules.specs.inner.Starts.{BareStart}
use Rattle.sgx_types.specs.Cases.{first_of_row}
use Rattle.sgx_types.proofs.Truths.{not_false}
use Rattle.sgx_rules.specs.inner.Enclaves.{EnclavesAreFlat}
use Rattle.sgx_rules.proofs.Busy.{IsBareOf}
use Rattle.seal_record.specs.Cipher.{tag}
use Rattle.seal_record.specs.inner.Row.{eld_row, is_header, same_header}
use Rattle.seal_record.proofs.HeaderLaws.{same_headers}
use Rattle.job_grammar.specs.Jobs.{JobView}
use Rattle.sgx_types.specs.Pages.{frame_at}
use Rattle.backing_store.specs.Calls.{Call}
use Rattle.backing_store.specs.inner.Calls.{told_got}
use Rattle.backing_store.specs.declared.backing.StoreFault.{StoreFault}
use Rattle.backing_store.specs.declared.backing.StoreFault.TheVariants as faults
use Rattle.driver_list.specs.inner.Keeping.{record_kept}
use Rattle.driver_list.specs.inner.Places.{IsPlaced, total}
use Rattle.driver_list.specs.inner.States.{state_of as page_state}
use Rattle.driver_list.specs.declared.page_states.PageState.{PageState}
use Rattle.driver_list.specs.declared.page_states.PageState.TheVariants as states
use Rattle.machine_laws.specs.inner.State.{State}
use Rattle.machine_laws.specs.inner.Steps.{IsComing, IsReloaded, commit_row, did_by, refused_by}
use Rattle.machine_laws.proofs.SlotLaws.{started_as}
use Rattle.sgx_machine.specs.inner.Parts.{Parts, state_of}
use Rattle.driver_rules.specs.inner.Reclaims.{is_refused}
use Rattle.driver_rules.specs.Turns.{Loads, last_of}
use Rattle.driver_tables.specs.declared.driver.Driver.{Driver}
use Rattle.driver_tables.specs.inner.Targets.{slot_here_in}
use Rattle.driver_tables.specs.inner.Agrees.{Agrees}
use Rattle.due_tables.specs.declared.turns.Turns.{Turns}
use Rattle.history_rules.specs.Calls.{before}
use Rattle.history_rules.specs.Given.{gift}
use Rattle.history_rules.specs.Stored.{IsBackBy, IsUnfit}
use Rattle.history_rules.specs.Stored.{TellsOfStore as TellsRecord}
use Rattle.run_calls.specs.inner.Comes.{AnswerComes, Comes, EndComes, Tells, bus_of}
use Rattle.run_calls.proofs.FaultLaws.{end_tells, resolved_tells}
use Rattle.driver_faults.specs.declared.answers.FaultAnswer.{FaultAnswer}
use Rattle.driver_faults.specs.declared.answers.FaultAnswer.TheVariants as answers
use Rattle.driver_faults.specs.declared.answers.Loaded.{Loaded}
use Rattle.driver_faults.specs.declared.answers.Loaded.TheVariants as ends
use Rattle.driver_faults.specs.inner.Finishing.{CanFinish, IsFinished}
use Rattle.driver_faults.specs.inner.Resolving.{FetchesPage, IsGot, IsResolved}
use Rattle.driver_faults.proofs.EndLaws.{end_frame}
use Rattle.run_laws.specs.inner.Books.{AreTold, IsTold, KeepsBook}
use Rattle.run_laws.specs.inner.Loads.{OfAnswer, entry_in}
use Rattle.run_records.specs.inner.Builds.{is_building}
use Rattle.run_records.specs.inner.Silent.{HasNoEntry, IsSilent, OfBus, OfSlot}
use Rattle.run_records.proofs.FlatSteps.{flat_other}
use Rattle.machine_laws.proofs.MoveEnds.{headers_agree}
use Rattle.run_records.proofs.ToldLaws.{load_silent}

-- ---- a fault step

-- a bus tells nothing of a record
bus_silent : (cpu : Cpu) (page : Page) (why : BusWhy) → IsSilent (bus_of cpu page why)
bus_silent cpu page why = record { building = refl; tells = λ key past gifts calls. tt }

-- of an answer that is known
said_silent : (cpu : Cpu) (page : Page) (said answer : FaultAnswer) → answer ≡ said → OfAnswer cpu page said IsSilent
    → OfAnswer cpu page answer IsSilent
said_silent cpu page said answer is h = subst (λ a. OfAnswer cpu page a IsSilent) (sym is) h

-- by what the store gave: the start of a load, or a bus
got_silent : (cpu : Cpu) (page : Page) (slot : VaSlot) (to : SlotAt) (f : Frame) (got : Result (Option Sealed) StoreFault) (d d' : Driver)
    (m m' : Parts) (answer : FaultAnswer) → IsGot cpu page slot to f got d m answer d' m' → OfAnswer cpu page answer IsSilent
got_silent cpu page slot to f (Ok (Some rec)) d d' m m' answer is = by_refused (is_refused is.entry.event) refl
  where
    silent : IsSilent is.entry
    silent = load_silent (state_of m) (state_of m') (actors.Cpu cpu) f page to is.entry is.step

    by_refused : (b : Bool) → is_refused is.entry.event ≡ b → OfAnswer cpu page answer IsSilent
    by_refused true refused = said_silent cpu page (answers.Slot is.entry) answer (is.refused refused).0 silent
    by_refused false done =
        let has = is.started done in said_silent cpu page (answers.Started is.entry has.work) answer has.says silent
got_silent cpu page slot to f (Ok None) d d' m m' answer is = said_silent cpu page _ answer is.says (bus_silent cpu page _)
got_silent cpu page slot to f (Err faults.Failed) d d' m m' answer is = said_silent cpu page _ answer is.says (bus_silent cpu page _)
got_silent cpu page slot to f (Err faults.Memory) d d' m m' answer is = absurd is

fetch_silent : (cpu : Cpu) (page : Page) (slot : VaSlot) (at : Option SlotAt) (free : Option ℕ) (d d' : Driver) (m m' : Parts)
    (told told' : Option (List Call)) (answer : FaultAnswer) → FetchesPage cpu page slot at free d m told answer d' m' told'
    → OfAnswer cpu page answer IsSilent
fetch_silent cpu page slot None free d d' m m' told told' answer is = absurd is
fetch_silent cpu page slot (Some to) None d d' m m' told told' answer is = said_silent cpu page _ answer is.does.says tt
fetch_silent cpu page slot (Some to) (Some f) d d' m m' told told' answer is =
    got_silent cpu page slot to (frame_at f) is.got d d' m m' answer is.does

-- the entry of a fault step tells nothing of a record
pub fault_silent : (cpu : Cpu) (page : Page) (x : PageState) (d d' : Driver) (m m' : Parts) (told told' : Option (List Call))
    (answer : FaultAnswer) → IsResolved cpu page x d m told answer d' m' told' → OfAnswer cpu page answer IsSilent
fault_silent cpu page (states.Away slot) d d' m m' told told' answer is =
    fetch_silent cpu page slot (slot_here_in d slot) (least_free (state_of m).frames (state_of m).content) d d' m m' told told' answer is
fault_silent cpu page (states.Lost slot) d d' m m' told told' answer is =
    said_silent cpu page _ answer is.does.says (bus_silent cpu page _)
fault_silent cpu page (states.Here f) d d' m m' told told' answer is = said_silent cpu page _ answer is.does.says tt
fault_silent cpu page states.Absent d d' m m' told told' answer is = said_silent cpu page _ answer is.does.says tt
fault_silent cpu page (states.Leaving f) d d' m m' told told' answer is = said_silent cpu page _ answer is.does.says tt
fault_silent cpu page (states.Loading f slot) d d' m m' told told' answer is = said_silent cpu page _ answer is.does.says tt

-- a store that tells nothing goes on so
got_none : (page : Page) (got : Result (Option Sealed) StoreFault) → told_got page got None ≡ None
got_none page (Ok (Some rec)) = refl
got_none page (Ok None) = refl
got_none page (Err faults.Failed) = refl
got_none page (Err faults.Memory) = refl

fetch_none : (cpu : Cpu) (page : Page) (slot : VaSlot) (at : Option SlotAt) (free : Option ℕ) (d d' : Driver) (m m' : Parts)
    (told' : Option (List Call)) (answer : FaultAnswer) → FetchesPage cpu page slot at free d m None answer d' m' told' → told' ≡ None
fetch_none cpu page slot None free d d' m m' told' answer is = absurd is
fetch_none cpu page slot (Some to) None d d' m m' told' answer is = is.calls
fetch_none cpu page slot (Some to) (Some f) d d' m m' told' answer is = is.calls ∙ got_none page is.got

-- .. whatever became of the page
fault_none : (cpu : Cpu) (page : Page) (x : PageState) (d d' : Driver) (m m' : Parts) (told' : Option (List Call)) (answer : FaultAnswer)
    → IsResolved cpu page x d m None answer d' m' told' → told' ≡ None
fault_none cpu page (states.Away slot) d d' m m' told' answer is =
    fetch_none cpu page slot (slot_here_in d slot) (least_free (state_of m).frames (state_of m).content) d d' m m' told' answer is
fault_none cpu page (states.Lost slot) d d' m m' told' answer is = is.calls
fault_none cpu page (states.Here f) d d' m m' told' answer is = is.calls
fault_none cpu page states.Absent d d' m m' told' answer is = is.calls
fault_none cpu page (states.Leaving f) d d' m m' told' answer is = is.calls
fault_none cpu page (states.Loading f slot) d d' m m' told' answer is = is.calls

-- where the store was asked there is an entry
asked_entry : (cpu : Cpu) (page : Page) (slot : VaSlot) (to : SlotAt) (f : Frame) (got : Result (Option Sealed) StoreFault) (d d' : Driver)
    (m m' : Parts) (answer : FaultAnswer) → IsGot cpu page slot to f got d m answer d' m' → HasNoEntry answer → ⊥
asked_entry cpu page slot to f (Ok (Some rec)) d d' m m' answer is none = by_refused (is_refused is.entry.event) refl
  where
    by_refused : (b : Bool) → is_refused is.entry.event ≡ b → ⊥
    by_refused true refused = subst HasNoEntry (is.refused refused).0 none
    by_refused false done = subst HasNoEntry (is.started done).says none
asked_entry cpu page slot to f (Ok None) d d' m m' answer is none = subst HasNoEntry is.says none
asked_entry cpu page slot to f (Err faults.Failed) d d' m m' answer is none = subst HasNoEntry is.says none
asked_entry cpu page slot to f (Err faults.Memory) d d' m m' answer is none = is

fetch_stays : (cpu : Cpu) (page : Page) (slot : VaSlot) (at : Option SlotAt) (free : Option ℕ) (d d' : Driver) (m m' : Parts)
    (told told' : Option (List Call)) (answer : FaultAnswer) → FetchesPage cpu page slot at free d m told answer d' m' told'
    → HasNoEntry answer → told' ≡ told
fetch_stays cpu page slot None free d d' m m' told told' answer is none = absurd is
fetch_stays cpu page slot (Some to) None d d' m m' told told' answer is none = is.calls
fetch_stays cpu page slot (Some to) (Some f) d d' m m' told told' answer is none =
    absurd (asked_entry cpu page slot to (frame_at f) is.got d d' m m' answer is.does none)

-- so a fault step without an entry makes no call
pub fault_stays : (cpu : Cpu) (page : Page) (x : PageState) (d d' : Driver) (m m' : Parts) (told told' : Option (List Call))
    (answer : FaultAnswer) → IsResolved cpu page x d m told answer d' m' told' → HasNoEntry answer → told' ≡ told
fault_stays cpu page (states.Away slot) d d' m m' told told' answer is none =
    fetch_stays cpu page slot (slot_here_in d slot) (least_free (state_of m).frames (state_of m).content) d d' m m' told told' answer is
    none
fault_stays cpu page (states.Lost slot) d d' m m' told told' answer is none = is.calls
fault_stays cpu page (states.Here f) d d' m m' told told' answer is none = is.calls
fault_stays cpu page states.Absent d d' m m' told told' answer is none = is.calls
fault_stays cpu page (states.Leaving f) d d' m m' told told' answer is none = is.calls
fault_stays cpu page (states.Loading f slot) d d' m m' told told' answer is none = is.calls

-- what is so of each entry is so of that of an answer
pub of_each : (cpu : Cpu) (page : Page) (answer : FaultAnswer) (P : Entry → Type 0) → ((e : Entry) → P e) → OfAnswer cpu page answer P
of_each cpu page (answers.Started e work) P h = h e
of_each cpu page (answers.Slot e) P h = h e
of_each cpu page (answers.Bus why) P h = h (bus_of cpu page why)
of_each cpu page (answers.Again why) P h = tt
of_each cpu page answers.Here P h = tt

-- .. and of the bus behind a refused start
of_slot : (cpu : Cpu) (page : Page) (answer : FaultAnswer) (P : Entry → Entry → Type 0) → ((e bus : Entry) → P e bus)
    → OfSlot cpu page answer P
of_slot cpu page (answers.Slot e) P h = h e (bus_of cpu page reasons.Slot)
of_slot cpu page (answers.Started e work) P h = tt
of_slot cpu page (answers.Bus why) P h = tt
of_slot cpu page (answers.Again why) P h = tt
of_slot cpu page answers.Here P h = tt

-- the entry of an answer comes with its call, and tells nothing of its record
answer_told : (j : JobView) (past : List Entry) (calls longer : List Call) (d d' : Driver) (cpu : Cpu) (page : Page) (answer : FaultAnswer)
    → AnswerComes cpu page answer calls longer d d' → OfAnswer cpu page answer IsSilent
    → OfAnswer cpu page answer (λ e. IsTold j past e calls longer d d')
answer_told j past calls longer d d' cpu page (answers.Started e work) k q =
    record { comes = k; tells = q.tells j.key past (gift past (before e.event longer)) longer }
answer_told j past calls longer d d' cpu page (answers.Slot e) k q =
    record { comes = k.0; tells = q.tells j.key past (gift past (before e.event longer)) longer }
answer_told j past calls longer d d' cpu page (answers.Bus why) k q =
    record { comes = k; tells = q.tells j.key past (gift past (before (bus_of cpu page why).event longer)) longer }
answer_told j past calls longer d d' cpu page (answers.Again why) k q = tt
answer_told j past calls longer d d' cpu page answers.Here k q = tt

-- so does the bus behind a refused start
slot_told : (j : JobView) (past : List Entry) (calls longer : List Call) (d d' : Driver) (cpu : Cpu) (page : Page) (answer : FaultAnswer)
    → AnswerComes cpu page answer calls longer d d' → OfSlot cpu page answer (λ e bus. IsTold j (e ∷ past) bus longer longer d' d')
slot_told j past calls longer d d' cpu page (answers.Slot e) k = record { comes = k.1; tells = tt }
slot_told j past calls longer d d' cpu page (answers.Started e work) k = tt
slot_told j past calls longer d d' cpu page (answers.Bus why) k = tt
slot_told j past calls longer d d' cpu page (answers.Again why) k = tt
slot_told j past calls longer d d' cpu page answers.Here k = tt

-- .. where the store tells its calls, and where it does not
pub fault_told : (made : Making) (j : JobView) (past : List Entry) (told told' : Option (List Call)) (d d' : Driver) (m m' : Parts)
    (t : Turns) (cpu : Cpu) (page : Page) (answer : FaultAnswer) → KeepsBook made j past told d m t → cpu.0 < length d.kept
    → IsPlaced d.states.counts page → length d.states.states ≡ total d.states.counts
    → IsResolved cpu page (page_state d.states page) d m told answer d' m' told'
    → OfAnswer cpu page answer (λ e. AreTold j past e told told' d d')
    × OfSlot cpu page answer (λ e bus. AreTold j (e ∷ past) bus told' told' d' d') × (HasNoEntry answer → told' ≡ told)
fault_told made j past told told' d d' m m' t cpu page answer k room placed sized is =
    let both = by_told told told' k is in
    (both.0, both.1, fault_stays cpu page (page_state d.states page) d d' m m' told told' answer is)
  where
    told_by : (calls : List Call) (o : Option (List Call)) → Tells o (λ longer. AnswerComes cpu page answer calls longer d d')
        → OfAnswer cpu page answer IsSilent → OfAnswer cpu page answer (λ e. AreTold j past e (Some calls) o d d')
        × OfSlot cpu page answer (λ e bus. AreTold j (e ∷ past) bus o o d' d')
    told_by calls None comes silent = absurd comes
    told_by calls (Some longer) comes silent =
        (answer_told j past calls longer d d' cpu page answer comes silent, slot_told j past calls longer d d' cpu page answer comes)

    by_told : (before after : Option (List Call)) → KeepsBook made j past before d m t
        → IsResolved cpu page (page_state d.states page) d m before answer d' m' after
        → OfAnswer cpu page answer (λ e. AreTold j past e before after d d')
        × OfSlot cpu page answer (λ e bus. AreTold j (e ∷ past) bus after after d' d')
    by_told None after book says =
        subst (λ o. OfAnswer cpu page answer (λ e. AreTold j past e None o d d')
        × OfSlot cpu page answer (λ e bus. AreTold j (e ∷ past) bus o o d' d'))
        (sym (fault_none cpu page (page_state d.states page) d d' m m' after answer says)) (
          of_each cpu page answer (λ e. AreTold j past e None None d d') (λ e. tt),
          of_slot cpu page answer (λ e bus. AreTold j (e ∷ past) bus None None d' d') (λ e bus. tt),
        )
    by_told (Some calls) after book says =
        told_by calls after (resolved_tells j.key past calls d d' m m' cpu page answer after book.store room placed sized says)
        (fault_silent cpu page (page_state d.states page) d d' m m' (Some calls) after answer says)

-- flat memory goes on with the entry of a fault step
pub fault_flat : (past : List Entry) (cpu : Cpu) (page : Page) (x : PageState) (d d' : Driver) (m m' : Parts)
    (told told' : Option (List Call)) (answer : FaultAnswer) → IsResolved cpu page x d m told answer d' m' told' → EnclavesAreFlat past
    → OfAnswer cpu page answer (λ e. EnclavesAreFlat (e ∷ past)) × OfSlot cpu page answer (λ e bus. EnclavesAreFlat (bus ∷ e ∷ past))
fault_flat past cpu page x d d' m m' told told' answer is seen =
    by_answer answer (fault_silent cpu page x d d' m m' told told' answer is)
  where
    by_answer : (a : FaultAnswer) → OfAnswer cpu page a IsSilent → OfAnswer cpu page a (λ e. EnclavesAreFlat (e ∷ past))
        × OfSlot cpu page a (λ e bus. EnclavesAreFlat (bus ∷ e ∷ past))
    by_answer (answers.Started e work) silent = (flat_other past e silent.building seen, tt)
    by_answer (answers.Slot e) silent =
        let first = flat_other past e silent.building seen in
        (first, flat_other (e ∷ past) (bus_of cpu page reasons.Slot) refl first)
    by_answer (answers.Bus why) silent = (flat_other past (bus_of cpu page why) silent.building seen, tt)
    by_answer (answers.Again why) silent = (tt, tt)
    by_answer answers.Here silent = (tt, tt)

-- ---- the end of a load

-- what is there has what holds of each that can be there
some_and : {X : Type 0} (P : X → Type 0) (o : Option X) (x : X) → o ≡ Some x → P x → IsSomeAnd o P
some_and P o x is h = subst (λ v. IsSomeAnd v P) (sym is) h

-- a record that is not refused has the page's header
row_headed : (rec : Sealed) (computed : List ℕ) (header : Header) → first_of_row (eld_row rec computed (Some header)) ≡ None
    → header ≡ rec.header
row_headed rec computed header = by_tag (not (bytes_eq rec.tag computed)) (not (same_header rec.header header)) refl
  where
    by_tag : (b c : Bool) → not (same_header rec.header header) ≡ c
        → (if b then Some (why.MacFail rec.tag computed) else if c then Some
        (why.BadHeader rec.header.enclave rec.header.address rec.header.flags)
        else None) ≡ None → header ≡ rec.header
    by_tag true c is k = cc
    by_tag false true is k = cc
    by_tag false false is k = sym (same_headers rec.header header (not_false (same_header rec.header header) is))

-- what a refusal says of a record
abbrev UnfitBy : List ℕ → Refusal → Sealed → Type 0
UnfitBy computed (why.MacFail given told) rec = (given ≡ rec.tag) × (told ≡ computed)
UnfitBy computed (why.BadHeader enclave address flags) rec = rec.header ≡ record { enclave = enclave; address = address; flags = flags }
UnfitBy computed _ rec = ⊥

-- .. by the row of the end of a load
row_unfit : (rec : Sealed) (computed : List ℕ) (header : Option Header) (refusal : Refusal)
    → first_of_row (eld_row rec computed header) ≡ Some refusal → UnfitBy computed refusal rec
row_unfit rec computed header refusal = by_tag (not (bytes_eq rec.tag computed)) (not (is_header header rec.header))
  where
    by_tag : (b c : Bool)
        → (if b then Some (why.MacFail rec.tag computed) else if c then Some
        (why.BadHeader rec.header.enclave rec.header.address rec.header.flags)
        else None) ≡ Some refusal → UnfitBy computed refusal rec
    by_tag true c k = subst (λ x. UnfitBy computed x rec) (same_Some _ refusal k) (refl, refl)
    by_tag false true k = subst (λ x. UnfitBy computed x rec) (same_Some _ refusal k) refl
    by_tag false false k = cc

-- .. by the version that the start found
unfit_under : (key computed : List ℕ) (refusal : Refusal) (rec : Sealed) (start : Start)
    → computed ≡ tag key start.version rec.header rec.cipher → UnfitBy computed refusal rec → IsUnfit key start refusal rec
unfit_under key computed (why.MacFail given told) rec start is h = (h.0, h.1 ∙ is)
unfit_under key computed (why.BadHeader enclave address flags) rec start is h = h
unfit_under key computed refusal rec start is h = absurd h

-- of a load that a processor has still to end, where the store tells its calls
module _ (made : Making) (j : JobView) (past : List Entry) (calls : List Call) (d d' : Driver) (m m' : Parts) (t : Turns) (cpu : Cpu)
    (page : Page) (n : ℕ) (loaded : Loaded) (can : CanFinish cpu page d m) (k : KeepsBook made j past (Some calls) d m t)
    (keys : made.key ≡ j.key) (last : last_of past cpu.0 ≡ Loads n page)
    (is : IsFinished cpu page can.slot can.frame can.kept d (state_of m) loaded d' (state_of m')) where
  abbrev s : State
  s = state_of m

  abbrev coming : IsComing s can.frame.0
  coming = is.reloaded.coming

  r : Agrees made j past d m
  r = k.agrees

  -- the load is into the frame that the processor's last entry names
  frame_is : n ≡ can.frame.0
  frame_is = end_frame made j past d m r cpu page n last can

  -- the kept record is the one that was given for this load
  pub given : gift past calls can.frame.0 ≡ Some can.kept
  given =
      ap (gift past calls) (sym frame_is) ∙ sym (k.store.gifts cpu.0 n page last) ∙ ap record_kept can.copy

  its : IsBareOf (open_start past can.frame.0) coming.start
  its = started_as s past r.follows.shape.columns can.frame.0 coming.start coming.opened

  computed : tag s.key coming.start.version can.kept.header can.kept.cipher ≡ tag j.key coming.start.version can.kept.header can.kept.cipher
  computed =
      ap (λ key. tag key coming.start.version can.kept.header can.kept.cipher) (ap (λ (x : Making). x.key) r.follows.shape.making ∙ keys)

  -- the page's header is the record's, where that was not refused
  headed : first_of_row (commit_row s can.frame.0 coming can.kept) ≡ None → header_at past coming.page ≡ Some can.kept.header
  headed row =
      sym (headers_agree s past r.follows.shape.columns k.flat coming.page) ∙ coming.headed
      ∙ ap Some (row_headed can.kept (tag s.key coming.start.version can.kept.header can.kept.cipher) coming.header row)

  end_record : TellsRecord j.key past (gift past calls) is.entry.event calls
  end_record = by_row _ _ (first_of_row (commit_row s can.frame.0 coming can.kept)) refl is.reloaded.row
    where
      by_row : (X : Type 0) (Y : Refusal → Type 0) (o : Option Refusal)
          → first_of_row (commit_row s can.frame.0 coming can.kept) ≡ o
          → MatchOption o ((is.entry ≡ did_by (actors.Cpu cpu) (Eld can.frame) (Moved coming.page coming.start.version can.kept.tag)) × X)
          (λ refusal. (is.entry ≡ refused_by (actors.Cpu cpu) (Eld can.frame) refusal) × Y refusal)
          → TellsRecord j.key past (gift past calls) is.entry.event calls
      by_row X Y None row w =
          subst (λ (e : Entry). TellsRecord j.key past (gift past calls) e.event calls) (sym w.0)
          (some_and (IsBackBy past coming.page can.kept.tag) (gift past calls can.frame.0) can.kept given
          (record { tagged = refl; header = headed row }))
      by_row X Y (Some refusal) row w =
          subst (λ (e : Entry). TellsRecord j.key past (gift past calls) e.event calls) (sym w.0)
          (some_and (λ start. IsSomeAnd (gift past calls can.frame.0) (IsUnfit j.key start refusal)) (open_start past can.frame.0)
          its.start its.opened
          (some_and (IsUnfit j.key its.start refusal) (gift past calls can.frame.0) can.kept given
          (unfit_under j.key (tag s.key coming.start.version can.kept.header can.kept.cipher) refusal can.kept its.start
          (computed ∙ ap (λ (y : BareStart). tag j.key y.version can.kept.header can.kept.cipher) (sym its.same))
          (row_unfit can.kept (tag s.key coming.start.version can.kept.header can.kept.cipher) (Some coming.header) refusal row))))

  -- .. with the call that it comes with
  told_end : (e : Entry) → e ≡ is.entry → Comes e calls calls d d' → IsTold j past e calls calls d d'
  told_end e same comes = record {
    comes = comes;
    tells = subst (λ c. TellsRecord j.key past (gift past c) e.event calls) (sym comes.earlier)
        (subst (λ (x : Entry). TellsRecord j.key past (gift past calls) x.event calls) (sym same) end_record);
  }

  pub same_entry : entry_in loaded ≡ is.entry
  same_entry = by_refused (is_refused is.entry.event) refl
    where
      by_refused : (b : Bool) → is_refused is.entry.event ≡ b → entry_in loaded ≡ is.entry
      by_refused true refused = ap entry_in (is.ends.0 refused).0
      by_refused false done = ap entry_in (is.ends.1 done).0

  by_end : (l : Loaded) → entry_in l ≡ is.entry → EndComes cpu page l calls d d'
      → IsTold j past (entry_in l) calls calls d d' × OfBus cpu page l (λ e bus. IsTold j (e ∷ past) bus calls calls d' d')
  by_end (ends.Here e) same comes = (told_end e same comes, tt)
  by_end (ends.Bus e why) same comes = (told_end e same comes.0, record { comes = comes.1; tells = tt })

  end_some : IsTold j past (entry_in loaded) calls calls d d' × OfBus cpu page loaded (λ e bus. IsTold j (e ∷ past) bus calls calls d' d')
  end_some = by_end loaded same_entry (end_tells calls d d' m s (state_of m') cpu page loaded can r.shows.sized is)

-- .. and where it does not
pub end_told : (made : Making) (j : JobView) (past : List Entry) (told : Option (List Call)) (d d' : Driver) (m m' : Parts) (t : Turns)
    (cpu : Cpu) (page : Page) (n : ℕ) (loaded : Loaded) (can : CanFinish cpu page d m) → KeepsBook made j past told d m t
    → made.key ≡ j.key → last_of past cpu.0 ≡ Loads n page
    → IsFinished cpu page can.slot can.frame can.kept d (state_of m) loaded d' (state_of m')
    → AreTold j past (entry_in loaded) told told d d' × OfBus cpu page loaded (λ e bus. AreTold j (e ∷ past) bus told told d' d')
end_told made j past None d d' m m' t cpu page n loaded can k keys last is = (tt, by_loaded loaded)
  where
    by_loaded : (l : Loaded) → OfBus cpu page l (λ e bus. Unit {0})
    by_loaded (ends.Here e) = tt
    by_loaded (ends.Bus e why) = tt
end_told made j past (Some calls) d d' m m' t cpu page n loaded can k keys last is =
    end_some made j past calls d d' m m' t cpu page n loaded can k keys last is

-- the end of a load builds no enclave
end_builds : (s t : State) (cpu : Cpu) (f : Frame) (rec : Sealed) (e : Entry) → IsReloaded s (actors.Cpu cpu) f rec e t
    → is_building e.event ≡ false
end_builds s t cpu f rec e is = by_row _ _ (first_of_row (commit_row s f.0 is.coming rec)) is.row
  where
    by_row : (X : Type 0) (Y : Refusal → Type 0) (o : Option Refusal) → MatchOption o
        ((e ≡ did_by (actors.Cpu cpu) (Eld f) (Moved is.coming.page is.coming.start.version rec.tag)) × X)
        (λ refusal. (e ≡ refused_by (actors.Cpu cpu) (Eld f) refusal) × Y refusal) → is_building e.event ≡ false
    by_row X Y None k = ap (λ (x : Entry). is_building x.event) k.0
    by_row X Y (Some refusal) k = ap (λ (x : Entry). is_building x.event) k.0

-- flat memory goes on with it, and with the bus behind it
pub end_flat : (past : List Entry) (d d' : Driver) (s t : State) (cpu : Cpu) (page : Page) (slot : VaSlot) (f : Frame) (rec : Sealed)
    (loaded : Loaded) → IsFinished cpu page slot f rec d s loaded d' t → EnclavesAreFlat past
    → EnclavesAreFlat (entry_in loaded ∷ past) × OfBus cpu page loaded (λ e bus. EnclavesAreFlat (bus ∷ e ∷ past))
end_flat past d d' s t cpu page slot f rec loaded is seen = by_end loaded (by_refused (is_refused is.entry.event) refl)
  where
    by_refused : (b : Bool) → is_refused is.entry.event ≡ b → entry_in loaded ≡ is.entry
    by_refused true refused = ap entry_in (is.ends.0 refused).0
    by_refused false done = ap entry_in (is.ends.1 done).0

    first : (e : Entry) → e ≡ is.entry → EnclavesAreFlat (e ∷ past)
    first e same =
        flat_other past e (ap (λ (x : Entry). is_building x.event) same ∙ end_builds s t cpu f rec is.entry is.reloaded) seen

    by_end : (l : Loaded) → entry_in l ≡ is.entry
        → EnclavesAreFlat (entry_in l ∷ past) × OfBus cpu page l (λ e bus. EnclavesAreFlat (bus ∷ e ∷ past))
    by_end (ends.Here e) same = (first e same, tt)
    by_end (ends.Bus e why) same = (first e same, flat_other (e ∷ past) (bus_of cpu page why) refl (first e same))
