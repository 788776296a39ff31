-- A run over an honest store stays honest with the entries of fault steps: no page is told as lost, and each load finds its version.
use Rattle.std.proofs.Common.{◌≡◌, ℕ, ◌<◌, ◌==◌, ◌||◌, not, nat_lt, Bool, true, false, if◌then◌else◌, List, [], ◌∷◌, Option, Some, None}
use Rattle.std.proofs.Common.{MatchOption, Result, Ok, Err, length, refl, sym, ap, subst, ◌∙◌, arith}
use Rattle.std.proofs.lemmas.Bool.{false≢true, eqb-true, eq-eqb, ltb-true}
use Rattle.sgx_rules.specs.declared.entries.Action.TheVariants.{EldStart}
use Rattle.sgx_types.specs.declared.names.Actor.TheVariants as actors
use Rattle.sgx_rules.specs.declared.entries.Answer.TheVariants.{Version}
use Rattle.sgx_rules.specs.declared.entries.BusWhy.{BusWhy}
use Rattle.sgx_rules.specs.declared.entries.BusWhy.TheVariants as reasons
use Rattle.sgx_rules.specs.declared.entries.Entry.{Entry}
use Rattle.sgx_rules.specs.declared.entries.Event.TheVariants.{Bus}
use Rattle.sgx_rules.specs.declared.refusals.Refusal.{Refusal}
use Rattle.sgx_rules.specs.declared.refusals.Refusal.TheVariants as why
use Rattle.sgx_types.specs.declared.names.Cpu.{Cpu}
use Rattle.sgx_types.specs.declared.names.Frame.{Frame}
use Rattle.sgx_types.specs.declared.names.Page.{Page}
use Rattle.sgx_types.specs.declared.names.SlotAt.{SlotAt}
use Rattle.sgx_types.specs.declared.names.VaSlot.{VaSlot}
use Rattle.sgx_types.specs.Pages.{same_page}
use Rattle.sgx_rules.specs.Frames.{least_free}
use Rattle.sgx_rules.specs.Fresh.{Out, last_out}
use Rattle.sgx_rules.specs.Processors.{is_by}
use Rattle.sgx_rules.specs.Slots.{version_in, version_of}
use Rattle.sgx_rules.specs.Starts.{open_start}
use Rattle.sgx_types.specs.Cases.{first_of_row}
use Rattle.sgx_rules.specs.Table.{FrameSight, LoadSight, SlotSight, eldstart_row, is_busy, is_out_of_range, is_va, is_valid}
use Rattle.sgx_types.specs.Making.{Making}
use Rattle.sgx_types.specs.Sealed.{Sealed}
use Rattle.job_grammar.specs.Jobs.{JobView}
use Rattle.sgx_types.specs.Pages.{frame_at}
use Rattle.backing_store.specs.Calls.{Call, Failed, Given, Got, Nothing, Put, Room}
use Rattle.backing_store.specs.declared.backing.StoreFault.{StoreFault}
use Rattle.backing_store.specs.declared.backing.StoreFault.TheVariants as faults
use Rattle.driver_list.specs.inner.Places.{IsPlaced}
use Rattle.driver_list.specs.inner.States.{state_of as page_state}
use Rattle.driver_list.specs.declared.page_states.PageState.{PageState}
use Rattle.driver_list.specs.declared.page_states.PageState.TheVariants as states
use Rattle.machine_laws.specs.inner.Columns.{HasAllVersions, slot_of as slot_at_index}
use Rattle.machine_laws.specs.inner.State.{State, load_sight, row_of, sight, slot_sight, version_at}
use Rattle.machine_laws.specs.inner.Steps.{IsDone, IsStep, did_by, refused_by}
use Rattle.machine_laws.proofs.ColumnLaws.{content_is}
use Rattle.sgx_machine.specs.inner.Parts.{Parts, state_of}
use Rattle.driver_rules.specs.Places.{Away, place}
use Rattle.driver_rules.specs.Stops.{is_bus}
use Rattle.driver_rules.specs.Targets.{slot_here}
use Rattle.driver_rules.specs.Turns.{Fails, Loads, last_by, last_of, start_fails}
use Rattle.driver_rules.specs.inner.Reclaims.{is_refused}
use Rattle.driver_laws.specs.inner.Agrees.{drivers}
use Rattle.driver_laws.specs.inner.Sound.{IsSound, slot_at, slot_outside, version_out}
use Rattle.driver_tables.specs.declared.driver.Driver.{Driver}
use Rattle.driver_tables.specs.inner.Tables.{place_in}
use Rattle.driver_tables.specs.inner.Targets.{slot_here_in}
use Rattle.driver_tables.proofs.TargetLaws.{array_of, slot_here_is}
use Rattle.driver_tables.specs.inner.Agrees.{Agrees}
use Rattle.driver_tables.specs.inner.Carried.{Carries}
use Rattle.run_calls.specs.inner.Comes.{bus_of}
use Rattle.due_tables.specs.declared.turns.Turns.{Turns}
use Rattle.history_rules.specs.Calls.{ComesByBus, IsFailed, IsNothing, before, is_lost}
use Rattle.history_rules.specs.Honest.{IsHonest, gift_of, last_put}
use Rattle.history_rules.specs.Stored.{StoreCalls}
use Rattle.history_rules.proofs.HonestLaws.{honest_before, last_sealed}
use Rattle.driver_faults.specs.declared.answers.FaultAnswer.{FaultAnswer}
use Rattle.driver_faults.specs.declared.answers.FaultAnswer.TheVariants as answers
use Rattle.driver_faults.specs.inner.Due.{IsRight}
use Rattle.driver_faults.specs.inner.Resolving.{FetchesPage, IsGot, IsResolved}
use Rattle.driver_faults.proofs.LoadRows.{IsFoundAt, slot_stands}
use Rattle.run_laws.specs.inner.Books.{AreTold, FindsVersion, IsHonestEntry, KeepsBook}
use Rattle.run_laws.specs.inner.Honest.{PutsArray}
use Rattle.run_laws.specs.inner.Loads.{OfAnswer}
use Rattle.run_records.specs.inner.Honest.{IsNeverHonest, IsRefusedStart, StaysHonest}
use Rattle.run_records.proofs.LoadRecords.{fault_told}
use Rattle.run_records.proofs.QuietLaws.{where_told}
use Rattle.run_records.proofs.ToldLaws.{step_is}

-- ---- what a get could give

-- an honest store has lost no page
none_lost : (calls : List Call) (g : Page) → IsHonest calls → is_lost calls g ≡ false
none_lost [] g h = refl
none_lost (Room page failed ∷ calls) g h = none_lost calls g h.1
none_lost (Got page gave ∷ calls) g h = none_lost calls g h.1
none_lost (Put page rec failed ∷ calls) g h = by_page (same_page page g) h.0 (none_lost calls g h.1)
  where
    by_page : (b : Bool) → failed ≡ false → is_lost calls g ≡ false → (if b then failed else is_lost calls g) ≡ false
    by_page true good is = good
    by_page false good is = is

-- it fails no get
never_failed : (o : Option Sealed) → Failed ≡ gift_of o → ⊥
never_failed None is = cc
never_failed (Some rec) is = cc

-- .. and gives a record where one was put
never_nothing : (o : Option Sealed) (rec : Sealed) → o ≡ Some rec → Nothing ≡ gift_of o → ⊥
never_nothing None rec put is = cc
never_nothing (Some x) rec put is = cc

-- a version that is told
told_out : (o : Option Out) (version : ℕ) → version_out o ≡ Some version → (x : Out) × (o ≡ Some x)
told_out None version is = cc
told_out (Some x) version is = (x, refl)

-- a page that is away was put
was_put : (key : List ℕ) (past : List Entry) (calls : List Call) (page : Page) (slot : VaSlot) → IsSound past → StoreCalls key past calls
    → place past page ≡ Away slot → (rec : Sealed) × (last_put calls page ≡ Some rec)
was_put key past calls page slot sound store at =
    let out = told_out (last_out past page) (version_in past slot) (sound.versions page slot (ap slot_outside at)) in
    let put = last_sealed key past calls store page out.0 out.1 in
    (put.rec, put.put)

get_failed : (page : Page) (calls : List Call) → IsFailed page calls → IsHonest calls → ⊥
get_failed page [] is h = absurd is
get_failed page (Room g failed ∷ calls) is h = absurd is
get_failed page (Put g rec failed ∷ calls) is h = absurd is
get_failed page (Got g Failed ∷ calls) is h = never_failed (last_put calls g) h.0
get_failed page (Got g Nothing ∷ calls) is h = absurd is
get_failed page (Got g (Given rec) ∷ calls) is h = absurd is

got_nothing : (page : Page) (calls : List Call) → IsNothing page calls → IsHonest calls
    → (rec : Sealed) → last_put (before (Bus page reasons.NoRecord) calls) page ≡ Some rec → ⊥
got_nothing page [] is h rec put = absurd is
got_nothing page (Room g failed ∷ calls) is h rec put = absurd is
got_nothing page (Put g x failed ∷ calls) is h rec put = absurd is
got_nothing page (Got g Failed ∷ calls) is h rec put = absurd is
got_nothing page (Got g Nothing ∷ calls) is h rec put = never_nothing (last_put calls g) rec (ap (last_put calls) is.0 ∙ put) h.0
got_nothing page (Got g (Given x) ∷ calls) is h rec put = absurd is

-- ---- what a fault step did

-- a page is told as lost for what the store did, and as one without a record only where it is away
abbrev BusBy : List Entry → Page → BusWhy → Type 0
BusBy past g reasons.PutFailed = Unit {0}
BusBy past g reasons.GetFailed = Unit {0}
BusBy past g reasons.NoRecord = (slot : VaSlot) × (place past g ≡ Away slot)
BusBy past g why = ⊥

-- the load of a page that is away was started, or its start was refused
record IsLoadStart (past : List Entry) (s : State) (cpu : Cpu) (page : Page) (e : Entry) (t : State) : Type 0 where
  slot : VaSlot
  to : SlotAt
  frame : Frame
  at : place past page ≡ Away slot
  found : slot_here past slot ≡ Some to
  step : IsStep s (actors.Cpu cpu) (EldStart frame page to) e t
  carries : Carries s e t

abbrev TellsOf : List Entry → State → Cpu → Page → State → FaultAnswer → Type 0
TellsOf past s cpu page t (answers.Started e work) = IsLoadStart past s cpu page e t
TellsOf past s cpu page t (answers.Slot e) = IsLoadStart past s cpu page e t
TellsOf past s cpu page t (answers.Bus why) = BusBy past page why
TellsOf past s cpu page t answer = Unit {0}

module _ (made : Making) (j : JobView) (past : List Entry) (d d' : Driver) (m m' : Parts) (r : Agrees made j past d m) (cpu : Cpu)
    (page : Page) (placed : IsPlaced d.states.counts page) where
  abbrev Told : FaultAnswer → Type 0
  Told answer = TellsOf past (state_of m) cpu page (state_of m') answer

  said : (what answer : FaultAnswer) → answer ≡ what → Told what → Told answer
  said what answer is h = subst Told (sym is) h

  got : (slot : VaSlot) (to : SlotAt) (f : Frame) (gave : Result (Option Sealed) StoreFault) (answer : FaultAnswer)
      → place past page ≡ Away slot → slot_here past slot ≡ Some to → IsGot cpu page slot to f gave d m answer d' m' → Told answer
  got slot to f (Ok (Some rec)) answer at found is = by_refused (is_refused is.entry.event) refl
    where
      start : IsLoadStart past (state_of m) cpu page is.entry (state_of m')
      start =
          record { slot = slot; to = to; frame = f; at = at; found = found; step = is.step; carries = is.carries }

      by_refused : (b : Bool) → is_refused is.entry.event ≡ b → Told answer
      by_refused true refused = said (answers.Slot is.entry) answer (is.refused refused).0 start
      by_refused false done = let has = is.started done in said (answers.Started is.entry has.work) answer has.says start
  got slot to f (Ok None) answer at found is = said (answers.Bus reasons.NoRecord) answer is.says (slot, at)
  got slot to f (Err faults.Failed) answer at found is = said (answers.Bus reasons.GetFailed) answer is.says tt
  got slot to f (Err faults.Memory) answer at found is = absurd is

  fetched : (slot : VaSlot) (o : Option SlotAt) (free : Option ℕ) (told told' : Option (List Call)) (answer : FaultAnswer)
      → place past page ≡ Away slot → slot_here past slot ≡ o → FetchesPage cpu page slot o free d m told answer d' m' told' → Told answer
  fetched slot None free told told' answer at found is = absurd is
  fetched slot (Some to) None told told' answer at found is = said _ answer is.does.says tt
  fetched slot (Some to) (Some f) told told' answer at found is = got slot to (frame_at f) is.got answer at found is.does

  place_is : (x : PageState) → page_state d.states page ≡ x → place past page ≡ place_in x
  place_is x is = sym (r.shows.states page placed) ∙ ap place_in is

  resolved : (x : PageState) (told told' : Option (List Call)) (answer : FaultAnswer) → page_state d.states page ≡ x
      → IsResolved cpu page x d m told answer d' m' told' → Told answer
  resolved (states.Away slot) told told' answer is k =
      let at : place past page ≡ Away slot = place_is (states.Away slot) is in
      fetched slot (slot_here_in d slot) (least_free (state_of m).frames (state_of m).content) told told' answer at
      (sym (slot_here_is (drivers j) j d past r.shows slot (array_of (drivers j) j d past r.shows page slot r.sound at))) k
  resolved (states.Lost slot) told told' answer is k = said (answers.Bus reasons.PutFailed) answer k.does.says tt
  resolved (states.Here f) told told' answer is k = said _ answer k.does.says tt
  resolved states.Absent told told' answer is k = said _ answer k.does.says tt
  resolved (states.Leaving f) told told' answer is k = said _ answer k.does.says tt
  resolved (states.Loading f slot) told told' answer is k = said _ answer k.does.says tt

-- ---- no page is told as lost

bus_never : (key : List ℕ) (past : List Entry) (calls : List Call) (page : Page) (why : BusWhy) → IsSound past
    → StoreCalls key past (before (Bus page why) calls) → BusBy past page why → ComesByBus page why calls → IsHonest calls → ⊥
bus_never key past calls page reasons.PutFailed sound store by comes h = false≢true (sym (none_lost calls page h) ∙ comes)
bus_never key past calls page reasons.GetFailed sound store by comes h = get_failed page calls comes h
bus_never key past calls page reasons.NoRecord sound store by comes h =
    let put = was_put key past (before (Bus page reasons.NoRecord) calls) page by.0 sound store by.1 in
    got_nothing page calls comes h put.0 put.1
bus_never key past calls page reasons.Mac sound store by comes h = by
bus_never key past calls page reasons.Header sound store by comes h = by
bus_never key past calls page reasons.Slot sound store by comes h = by

-- ---- the start of a load

-- the row of a start is refused with an empty slot only where the slot holds no version
row_empty : (s : FrameSight) (page : LoadSight) (slot : SlotSight) → first_of_row (eldstart_row s page slot) ≡ Some why.SlotEmpty
    → (slot.version == 0) ≡ true
row_empty s page slot =
    by_tests (is_out_of_range s slot) (not page.is_known) page.secs.is_away page.secs.is_sealing (is_busy s || slot.is_busy)
    (is_valid s.content) (not (is_va slot.frame.content)) (slot.version == 0)
  where
    by_tests : (a b c d e f g h : Bool) → (if a then Some why.BadRange
        else if b then Some why.Absent
        else if c then Some why.Absent
        else if d then Some why.Conflict
        else if e then Some why.Conflict
        else if f then Some why.FrameBusy
        else if g then Some why.BadKind
        else if h then Some why.SlotEmpty
        else None) ≡ Some why.SlotEmpty → h ≡ true
    by_tests true b c d e f g h is = cc
    by_tests false true c d e f g h is = cc
    by_tests false false true d e f g h is = cc
    by_tests false false false true e f g h is = cc
    by_tests false false false false true f g h is = cc
    by_tests false false false false false true g h is = cc
    by_tests false false false false false false true h is = cc
    by_tests false false false false false false false true is = refl
    by_tests false false false false false false false false is = cc

-- a start that is told as one of an empty slot was refused so
empty_by : (page asked : Page) (refusal : Refusal) → start_fails page refusal ≡ Fails asked reasons.Slot → refusal ≡ why.SlotEmpty
empty_by page asked why.SlotEmpty is = refl
empty_by page asked refusal is = cc

never_loads : (n : ℕ) (page asked : Page) → Loads n page ≡ Fails asked reasons.Slot → ⊥
never_loads n page asked is = cc

above_zero : (n : ℕ) → 0 < n → n ≡ 0 → ⊥
above_zero n above is = omega (arith, above, is)

module _ (made : Making) (j : JobView) (past : List Entry) (d : Driver) (m m' : Parts) (r : Agrees made j past d m) (cpu : Cpu)
    (page : Page) (e : Entry) (is : IsLoadStart past (state_of m) cpu page e (state_of m')) where
  abbrev s : State
  s = state_of m

  its : IsFoundAt past is.slot is.to
  its = slot_stands made j past d m r is.slot is.to (array_of (drivers j) j d past r.shows page is.slot r.sound is.at) is.found

  within : nat_lt is.to.index 512 ≡ true
  within = ap (λ n. nat_lt n 512) its.index ∙ r.shows.slots.within page is.slot (ap (slot_at (open_start past)) is.at)

  held : is_va (s.content is.to.frame.0) ≡ true
  held = ap is_va (content_is r.follows.shape.columns is.to.frame.0 ∙ its.array)

  -- where the slots of version array pages have the versions that the entries say, it finds that of its page
  finds : HasAllVersions s past → version_at s is.to ≡ version_in past is.slot
  finds all =
      ap (λ b. if b then s.version_in is.to else 0) held
      ∙ all is.to.frame.0 is.slot.va (content_is r.follows.shape.columns is.to.frame.0 ∙ its.array) is.to.index
      (ltb-true is.to.index 512 within)
      ∙ ap (λ i. version_in past (slot_at_index is.slot.va i)) its.index

  tells : HasAllVersions s past → FindsVersion past e.event
  tells all = by_row (first_of_row (row_of s (actors.Cpu cpu) (EldStart is.frame page is.to))) is.step
    where
      by_row : (o : Option Refusal) → MatchOption o (IsDone s (actors.Cpu cpu) (EldStart is.frame page is.to) e (state_of m'))
          (λ refusal. (e ≡ refused_by (actors.Cpu cpu) (EldStart is.frame page is.to) refusal) × (state_of m' ≡ s))
          → FindsVersion past e.event
      by_row None k =
          subst (λ (x : Entry). FindsVersion past x.event) (sym k.0) (finds all ∙ ap (version_of past) (sym its.found))
      by_row (Some refusal) k = subst (λ (x : Entry). FindsVersion past x.event) (sym k.0) tt

  start_honest : (calls : List Call) → IsHonestEntry made past m e m' calls
  start_honest calls = record {
    back = λ book. step_is (λ (x : Entry). is_bus x.event ≡ false) s (state_of m') (actors.Cpu cpu) (EldStart is.frame page is.to) e
        (λ answer. refl) (λ refusal. refl) (λ k. k.0) is.step;
    finds = λ book. tells book.arrays;
    puts = λ book. step_is (λ (x : Entry). PutsArray made.key past x.event calls) s (state_of m') (actors.Cpu cpu)
        (EldStart is.frame page is.to) e (λ answer. tt) (λ refusal. tt) (λ k. k.0) is.step;
    arrays = λ book. is.carries.arrays made past r.follows book.arrays;
  }

  -- .. so it is not refused for an empty slot
  not_empty : HasAllVersions s past → last_of (e ∷ past) cpu.0 ≡ Fails page reasons.Slot → ⊥
  not_empty all told = by_row (first_of_row (row_of s (actors.Cpu cpu) (EldStart is.frame page is.to))) refl is.step
    where
      some : 0 < version_in past is.slot
      some = r.used.filled page is.slot (ap slot_outside is.at)

      none : first_of_row (row_of s (actors.Cpu cpu) (EldStart is.frame page is.to)) ≡ Some why.SlotEmpty → ⊥
      none row =
          above_zero (version_in past is.slot) some
          (sym (finds all) ∙ eqb-true (version_at s is.to) 0 (row_empty (sight s is.frame.0) (load_sight s page) (slot_sight s is.to) row))

      own_last : (x : Entry) → e ≡ x → x.actor ≡ actors.Cpu cpu → last_by x.event (open_start past) ≡ Fails page reasons.Slot
      own_last x same by =
          sym (ap (λ b. if b then last_by x.event (open_start past) else last_of past cpu.0)
          (ap (is_by cpu.0) by ∙ eq-eqb cpu.0 cpu.0 refl))
          ∙ subst (λ (y : Entry). last_of (y ∷ past) cpu.0 ≡ Fails page reasons.Slot) same told

      by_row : (o : Option Refusal) → first_of_row (row_of s (actors.Cpu cpu) (EldStart is.frame page is.to)) ≡ o
          → MatchOption o (IsDone s (actors.Cpu cpu) (EldStart is.frame page is.to) e (state_of m'))
          (λ refusal. (e ≡ refused_by (actors.Cpu cpu) (EldStart is.frame page is.to) refusal) × (state_of m' ≡ s)) → ⊥
      by_row None row k =
          never_loads is.frame.0 page page (own_last (did_by (actors.Cpu cpu) (EldStart is.frame page is.to)
          (Version (version_at s is.to))) k.0 refl)
      by_row (Some refusal) row k =
          none (row ∙ ap Some (empty_by page page refusal
          (own_last (refused_by (actors.Cpu cpu) (EldStart is.frame page is.to) refusal) k.0 refl)))

-- ---- fault steps

pub fault_honest : (made : Making) (j : JobView) (past : List Entry) (told told' : Option (List Call)) (d d' : Driver) (m m' : Parts)
    (t : Turns) (cpu : Cpu) (page : Page) (answer : FaultAnswer) → KeepsBook made j past told d m t → cpu.0 < length d.kept
    → IsPlaced d.states.counts page → IsResolved cpu page (page_state d.states page) d m told answer d' m' told'
    → OfAnswer cpu page answer (λ e. StaysHonest made past m e m' told')
fault_honest made j past told told' d d' m m' t cpu page answer k room placed is =
    by_answer answer (resolved made j past d d' m m' k.agrees cpu page placed (page_state d.states page) told told' answer refl is)
    (fault_told made j past told told' d d' m m' t cpu page answer k room placed k.agrees.shows.sized is).0
  where
    lost : (why : BusWhy) (o o' : Option (List Call)) → BusBy past page why → KeepsBook made j past o d m t
        → AreTold j past (bus_of cpu page why) o o' d d' → StaysHonest made past m (bus_of cpu page why) m' o'
    lost why None None by book is = tt
    lost why None (Some longer) by book is = absurd is
    lost why (Some calls) None by book is = absurd is
    lost why (Some calls) (Some longer) by book is = λ honest.
        absurd (bus_never j.key past longer page why k.agrees.sound
        (subst (StoreCalls j.key past) (sym is.comes.earlier) book.store.store) by is.comes.comes honest)

    by_answer : (a : FaultAnswer) → TellsOf past (state_of m) cpu page (state_of m') a
        → OfAnswer cpu page a (λ e. AreTold j past e told told' d d') → OfAnswer cpu page a (λ e. StaysHonest made past m e m' told')
    by_answer (answers.Started e work) start so =
        where_told made past m m' e told' (λ calls honest. start_honest made j past d m m' k.agrees cpu page e start calls)
    by_answer (answers.Slot e) start so =
        where_told made past m m' e told' (λ calls honest. start_honest made j past d m m' k.agrees cpu page e start calls)
    by_answer (answers.Bus why) by so = lost why told told' by k so
    by_answer (answers.Again why) start so = tt
    by_answer answers.Here start so = tt

-- no start is refused
pub start_never : (made : Making) (j : JobView) (past : List Entry) (told told' : Option (List Call)) (d d' : Driver) (m m' : Parts)
    (t : Turns) (cpu : Cpu) (page asked : Page) (answer : FaultAnswer) → KeepsBook made j past told d m t → cpu.0 < length d.kept
    → IsPlaced d.states.counts asked → IsResolved cpu asked (page_state d.states asked) d m told answer d' m' told'
    → IsRight j past cpu page asked answer d' → IsRefusedStart answer → IsNeverHonest told'
start_never made j past told told' d d' m m' t cpu page asked answer k room placed is right refused =
    by_answer answer (resolved made j past d d' m m' k.agrees cpu asked placed (page_state d.states asked) told told' answer refl is)
    (fault_told made j past told told' d d' m m' t cpu asked answer k room placed k.agrees.shows.sized is).0 right refused
  where
    by_told : (e : Entry) (o o' : Option (List Call)) → KeepsBook made j past o d m t → AreTold j past e o o' d d'
        → (HasAllVersions (state_of m) past → ⊥) → IsNeverHonest o'
    by_told e None None book is never = tt
    by_told e None (Some longer) book is never = absurd is
    by_told e (Some calls) None book is never = absurd is
    by_told e (Some calls) (Some longer) book is never = λ honest.
        never (book.honest (subst IsHonest is.comes.earlier (honest_before e.event longer honest))).arrays

    by_answer : (a : FaultAnswer) → TellsOf past (state_of m) cpu asked (state_of m') a
        → OfAnswer cpu asked a (λ e. AreTold j past e told told' d d') → IsRight j past cpu page asked a d' → IsRefusedStart a
        → IsNeverHonest told'
    by_answer (answers.Slot e) start so right refused =
        by_told e told told' k so (λ all. not_empty made j past d m m' k.agrees cpu asked e start all right.due.3)
    by_answer (answers.Started e work) start so right refused = absurd refused
    by_answer (answers.Bus why) start so right refused = absurd refused
    by_answer (answers.Again why) start so right refused = absurd refused
    by_answer answers.Here start so right refused = absurd refused
