-- The entry of a turn of a pass and the end of a write-out tell what is so of their records.
use Rattle.std.proofs.Common.{◌≡◌, ℕ, zero, suc, inl, inr, Bool, true, false, refl, sym}
use Rattle.std.proofs.Common.{◌∙◌, ap, subst, List, ◌∷◌, Option, Some, None, length}
use Rattle.std.specs.Option.{IsSomeAnd}
use Rattle.std.proofs.lemmas.Option.{same_Some}
use Rattle.sgx_types.specs.declared.names.Actor.TheVariants as actors
use Rattle.sgx_rules.specs.declared.entries.Entry.{Entry}
use Rattle.sgx_rules.specs.declared.entries.Event.{Event}
use Rattle.sgx_rules.specs.declared.entries.Action.TheVariants.{Block, EwbStart, Track}
use Rattle.sgx_rules.specs.declared.entries.Event.TheVariants.{Age, Did, Refused}
use Rattle.sgx_rules.specs.declared.entries.Look.{Look}
use Rattle.sgx_rules.specs.declared.entries.Look.TheVariants as looks
use Rattle.sgx_types.specs.declared.names.Frame.{Frame}
use Rattle.sgx_types.specs.declared.names.Page.{Page}
use Rattle.sgx_types.specs.declared.names.SlotAt.{SlotAt}
use Rattle.sgx_rules.specs.declared.refusals.Refusal.TheVariants as why
use Rattle.sgx_types.specs.Making.{Making}
use Rattle.sgx_types.specs.declared.record.Header.{Header}
use Rattle.sgx_rules.specs.PageBytes.{header_at}
use Rattle.sgx_types.specs.Sealed.{Sealed}
use Rattle.sgx_rules.specs.inner.Enclaves.{EnclavesAreFlat}
use Rattle.job_grammar.specs.Jobs.{JobView}
use Rattle.seal_record.specs.Cipher.{cipher, sealed, tag}
use Rattle.backing_store.specs.Calls.{Call, Put}
use Rattle.backing_store.specs.inner.Calls.{with_call}
use Rattle.driver_list.specs.inner.Places.{total}
use Rattle.machine_laws.specs.inner.Shape.{ShapeWithRules}
use Rattle.machine_laws.specs.inner.State.{State}
use Rattle.machine_laws.specs.inner.Steps.{IsStep, IsWrittenOut, header_in}
use Rattle.sgx_machine.specs.inner.Parts.{Parts, state_of}
use Rattle.driver_rules.specs.declared.waits.Why.TheVariants as waits
use Rattle.driver_tables.specs.declared.driver.Driver.{Driver}
use Rattle.due_tables.specs.declared.turns.Turns.{Turns}
use Rattle.history_rules.specs.Calls.{before}
use Rattle.history_rules.specs.Given.{gift}
use Rattle.history_rules.specs.Stored.{IsSealedRecord}
use Rattle.history_rules.specs.Stored.{TellsOfStore as TellsRecord}
use Rattle.run_calls.specs.inner.Comes.{Comes, Tells, TurnComes}
use Rattle.run_calls.proofs.PassLaws.{stored_tells, turn_tells}
use Rattle.driver_pass.specs.declared.stages.Aside.{Aside}
use Rattle.driver_pass.specs.declared.stages.Aside.TheVariants as asides
use Rattle.driver_pass.specs.declared.stages.Form.{Form}
use Rattle.driver_pass.specs.declared.stages.Form.TheVariants as forms
use Rattle.driver_pass.specs.declared.stages.Stage.{Stage}
use Rattle.driver_pass.specs.declared.stages.Stage.TheVariants as stages
use Rattle.driver_pass.specs.declared.stages.Taken.{Taken}
use Rattle.driver_pass.specs.inner.Dues.{due_in}
use Rattle.driver_pass.specs.inner.Keeping.{keepers_by}
use Rattle.driver_pass.specs.inner.Viewed.{PassView, sealing_in, taken_at}
use Rattle.driver_reclaim.specs.declared.turns.PassTurn.{PassTurn}
use Rattle.driver_reclaim.specs.declared.turns.PassTurn.TheVariants as turns
use Rattle.driver_reclaim.specs.inner.Answers.{by_reclaimer}
use Rattle.driver_reclaim.specs.inner.Asked.{look_told, told_by}
use Rattle.driver_reclaim.specs.inner.Going.{TurnGoes}
use Rattle.driver_reclaim.specs.inner.Looked.{told_look}
use Rattle.driver_reclaim.specs.inner.Ready.{CanStep, Ready}
use Rattle.driver_reclaim.specs.inner.Rests.{IsWait}
use Rattle.driver_reclaim.specs.inner.Stored.{IsStored, StoredSays}
use Rattle.driver_reclaim.specs.inner.Turning.{AsideSays, DueSays, FormSays, IsBegun, IsMadeTurn, IsScanned, IsTryTurn, StageSays}
use Rattle.driver_reclaim.specs.inner.Turning.{ThirdSays, turn_of, TurnSays, WithPage}
use Rattle.run_laws.specs.inner.Books.{AreTold, IsTold, KeepsBook}
use Rattle.run_laws.specs.inner.Turns.{OfEntry}
use Rattle.run_records.specs.inner.Builds.{is_building}
use Rattle.run_records.specs.inner.Honest.{StaysHonest}
use Rattle.run_records.specs.inner.Silent.{IsSilent, MakesNoEntry}
use Rattle.run_records.proofs.FlatSteps.{flat_other}
use Rattle.machine_laws.proofs.MoveEnds.{headers_agree}
use Rattle.run_records.proofs.QuietLaws.{carried_honest, IsQuiet}
use Rattle.run_records.proofs.ToldLaws.{step_is}

-- ---- the entries of turns

-- it tells nothing of a record, and a run over an honest store stays honest with it
record IsTurnEntry (e : Entry) : Type 0 where
  silent : IsSilent e
  quiet : IsQuiet e.event

-- a look is such an entry
look_entry : (page : Page) (look : Look) → IsTurnEntry (by_reclaimer (Age page look))
look_entry page look = record {
  silent = record { building = refl; tells = λ key past gifts calls. tt };
  quiet = record { back = refl; finds = λ past. tt; puts = λ key past calls. tt };
}

-- .. and so are a block, a track and the start of a write-out, done or refused
block_entry : (s t : State) (f : Frame) (e : Entry) → IsStep s actors.Reclaimer (Block f) e t → IsTurnEntry e
block_entry s t f e =
    step_is IsTurnEntry s t actors.Reclaimer (Block f) e (λ answer. record {
      silent = record { building = refl; tells = λ key past gifts calls. tt };
      quiet = record { back = refl; finds = λ past. tt; puts = λ key past calls. tt };
    }) (λ refusal. record {
      silent = record { building = refl; tells = λ key past gifts calls. tt };
      quiet = record { back = refl; finds = λ past. tt; puts = λ key past calls. tt };
    }) (λ k. k.0)

track_entry : (s t : State) (enclave : ℕ) (e : Entry) → IsStep s actors.Reclaimer (Track enclave) e t → IsTurnEntry e
track_entry s t enclave e =
    step_is IsTurnEntry s t actors.Reclaimer (Track enclave) e (λ answer. record {
      silent = record { building = refl; tells = λ key past gifts calls. tt };
      quiet = record { back = refl; finds = λ past. tt; puts = λ key past calls. tt };
    }) (λ refusal. record {
      silent = record { building = refl; tells = λ key past gifts calls. tt };
      quiet = record { back = refl; finds = λ past. tt; puts = λ key past calls. tt };
    }) (λ k. k.0)

start_entry : (s t : State) (f : Frame) (at : SlotAt) (e : Entry) → IsStep s actors.Reclaimer (EwbStart f at) e t → IsTurnEntry e
start_entry s t f at e =
    step_is IsTurnEntry s t actors.Reclaimer (EwbStart f at) e (λ answer. record {
      silent = record { building = refl; tells = λ key past gifts calls. tt };
      quiet = record { back = refl; finds = λ past. tt; puts = λ key past calls. tt };
    }) (λ refusal. record {
      silent = record { building = refl; tells = λ key past gifts calls. tt };
      quiet = record { back = refl; finds = λ past. tt; puts = λ key past calls. tt };
    }) (λ k. k.0)

-- of a turn that is known
said_turn : (said turn : PassTurn) → turn ≡ said → OfEntry said IsTurnEntry → OfEntry turn IsTurnEntry
said_turn said turn is h = subst (λ x. OfEntry x IsTurnEntry) (sym is) h

-- .. by its entry
entry_turn : (e : Entry) (event : Event) → IsTurnEntry e → OfEntry (turn_of e event) IsTurnEntry
entry_turn e (Did (EwbStart f slot) answer) h = h
entry_turn e (Refused action (why.NotTracked epoch older)) h = h
entry_turn e (Refused action (why.SlotOccupied version)) h = h
entry_turn e (Refused action refusal) h = h
entry_turn e event h = h

module _ (v v' : PassView) (d d' : Driver) (m m' : Parts) (turn : PassTurn) where
  -- a try starts a write-out or is refused, or there is no slot for it
  tried : (one : Taken) → IsTryTurn one v d (state_of m) turn v' d' (state_of m') → OfEntry turn IsTurnEntry
  tried one (inl is) =
      said_turn (turn_of is.entry is.entry.event) turn is.told
      (entry_turn is.entry is.entry.event (start_entry (state_of m) (state_of m') one.frame is.tried.at is.entry is.tried.step))
  tried one (inr is) = said_turn (turns.Again waits.NoSlot) turn is.1 tt

  third : (n : ℕ) (one : Taken) → ThirdSays n one v d (state_of m) turn v' d' (state_of m') → OfEntry turn IsTurnEntry
  third zero one is = tried one is
  third (suc n) one is = said_turn _ turn is tt

  -- the tries of a page in their order, with the track and the kicks between them
  formed : (form : Form) (one : Taken) → FormSays form one v d m turn v' d' m' → OfEntry turn IsTurnEntry
  formed forms.First one is = tried one is
  formed forms.Track one is =
      said_turn (turn_of is.0.entry is.0.entry.event) turn is.0.told
      (entry_turn is.0.entry is.0.entry.event (track_entry (state_of m) (state_of m') one.page.enclave is.0.entry is.0.step))
  formed forms.Second one is = tried one is
  formed (forms.Kick epoch false) one is = said_turn _ turn is.0.told tt
  formed (forms.Kick epoch true) one is = third (length (keepers_by m one.page.enclave epoch)) one is
  formed (forms.Third epoch) one is = third (length (keepers_by m one.page.enclave epoch)) one is
  formed (forms.Kicks epoch next) one is = absurd is
  formed forms.Sealing one is = absurd is

  scanned : IsScanned v d turn v' d' → OfEntry turn IsTurnEntry
  scanned (inl is) = said_turn _ turn is.told (look_entry is.page is.look)
  scanned (inr is) = said_turn (turns.Again waits.AllHeld) turn is.1 tt

  begun : IsBegun v d turn v' d' → OfEntry turn IsTurnEntry
  begun (inl is) = scanned is.1
  begun (inr is) = said_turn (turns.Again waits.AllHeld) turn is.1 tt

  -- what the pass gives
  staged : (stage : Stage) → StageSays stage v d m turn v' d' m' → OfEntry turn IsTurnEntry
  staged (stages.Idle false) is = said_turn _ turn is tt
  staged (stages.Idle true) is = begun is
  staged (stages.Scan left) is = scanned is
  staged (stages.Block next) is = by_page (taken_at v next) is
    where
      by_page : (o : Option Taken) → WithPage o (turn ≡ turns.Again waits.AllHeld)
          (λ one. IsMadeTurn (Block one.frame) v (state_of m) turn v' (state_of m') × (d' ≡ d)) → OfEntry turn IsTurnEntry
      by_page None k = said_turn _ turn k tt
      by_page (Some one) k =
          said_turn (turn_of k.0.entry k.0.entry.event) turn k.0.told
          (entry_turn k.0.entry k.0.entry.event (block_entry (state_of m) (state_of m') one.frame k.0.entry k.0.step))
  staged (stages.Tries next form) is = by_page (taken_at v next) is
    where
      by_page : (o : Option Taken) → WithPage o (turn ≡ turns.Again waits.AllHeld)
          (λ one. FormSays form one v d m turn v' d' m') → OfEntry turn IsTurnEntry
      by_page None k = said_turn _ turn k tt
      by_page (Some one) k = formed form one k

  -- a page that is due comes before
  due_turn : (o : Option Page) → DueSays o v d m turn v' d' m' → OfEntry turn IsTurnEntry
  due_turn None is = staged v.stage is
  due_turn (Some page) is = said_turn _ turn is.told (look_entry page is.look)

  aside_turn : (aside : Aside) → AsideSays aside v d m turn v' d' m' → OfEntry turn IsTurnEntry
  aside_turn asides.None is = due_turn (due_in d (state_of m) v.behind) is
  aside_turn (asides.ToGo one) is =
      said_turn (turn_of is.0.entry is.0.entry.event) turn is.0.told
      (entry_turn is.0.entry is.0.entry.event
      (start_entry (state_of m) (state_of m') one.frame is.0.started.at is.0.entry is.0.started.step))
  aside_turn (asides.Going one) is = absurd is

-- so is that of any turn
turn_entry : (v v' : PassView) (d d' : Driver) (m m' : Parts) (turn : PassTurn) → TurnSays v d m turn v' d' m' → OfEntry turn IsTurnEntry
turn_entry v v' d d' m m' turn says = aside_turn v v' d d' m m' turn v.aside says

-- .. it tells nothing of a record
turn_silent : (v v' : PassView) (d d' : Driver) (m m' : Parts) (turn : PassTurn) → TurnSays v d m turn v' d' m' → OfEntry turn IsSilent
turn_silent v v' d d' m m' turn says = by_turn turn (turn_entry v v' d d' m m' turn says)
  where
    by_turn : (x : PassTurn) → OfEntry x IsTurnEntry → OfEntry x IsSilent
    by_turn (turns.One e) h = h.silent
    by_turn (turns.Seal e) h = h.silent
    by_turn (turns.Spent e) h = h.silent
    by_turn (turns.Kicks bits) h = tt
    by_turn (turns.Again reason) h = tt

-- .. and leaves a run over an honest store honest
pub turn_honest : (made : Making) (past : List Entry) (told : Option (List Call)) (v v' : PassView) (d d' : Driver) (m m' : Parts)
    (turn : PassTurn) → ShapeWithRules made (state_of m) past → TurnSays v d m turn v' d' m'
    → TurnGoes (state_of m) turn (state_of m') → OfEntry turn (λ e. StaysHonest made past m e m' told)
turn_honest made past told v v' d d' m m' turn shape says goes = by_turn turn (turn_entry v v' d d' m m' turn says) goes
  where
    by_turn : (x : PassTurn) → OfEntry x IsTurnEntry → TurnGoes (state_of m) x (state_of m')
        → OfEntry x (λ e. StaysHonest made past m e m' told)
    by_turn (turns.One e) h go = carried_honest made past m m' e told h.quiet shape go
    by_turn (turns.Seal e) h go = carried_honest made past m m' e told h.quiet shape go
    by_turn (turns.Spent e) h go = carried_honest made past m m' e told h.quiet shape go
    by_turn (turns.Kicks bits) h go = tt
    by_turn (turns.Again reason) h go = tt

-- a store that tells nothing goes on so
look_none : (page : Page) (look : Look) → told_look page look None ≡ None
look_none page looks.Taken = refl
look_none page looks.NoRoom = refl
look_none page looks.Held = refl
look_none page looks.Young = refl

-- .. by the look of a turn
by_none : (o : Option (Page × Look)) → told_by o None ≡ None
by_none None = refl
by_none (Some x) = look_none x.0 x.1

-- what is so of each entry is so of that of a turn
of_each : (turn : PassTurn) (P : Entry → Type 0) → ((e : Entry) → P e) → OfEntry turn P
of_each (turns.One e) P h = h e
of_each (turns.Seal e) P h = h e
of_each (turns.Spent e) P h = h e
of_each turn P h = tt

-- an entry that tells nothing of a record comes with its call
entry_told : (j : JobView) (past : List Entry) (calls longer : List Call) (d d' : Driver) (e : Entry) → Comes e calls longer d d'
    → IsSilent e → IsTold j past e calls longer d d'
entry_told j past calls longer d d' e comes silent =
    record { comes = comes; tells = silent.tells j.key past (gift past (before e.event longer)) longer }

-- .. the one of a turn
turn_calls : (j : JobView) (past : List Entry) (calls longer : List Call) (d d' : Driver) (turn : PassTurn)
    → TurnComes turn calls longer d d' → OfEntry turn IsSilent → OfEntry turn (λ e. IsTold j past e calls longer d d')
turn_calls j past calls longer d d' (turns.One e) comes silent = entry_told j past calls longer d d' e comes silent
turn_calls j past calls longer d d' (turns.Seal e) comes silent = entry_told j past calls longer d d' e comes silent
turn_calls j past calls longer d d' (turns.Spent e) comes silent = entry_told j past calls longer d d' e comes silent
turn_calls j past calls longer d d' turn comes silent = tt

-- .. where the store tells its calls, and where it does not
pub turn_told : (j : JobView) (past : List Entry) (told told' : Option (List Call)) (v v' : PassView) (d d' : Driver) (m m' : Parts)
    (turn : PassTurn) → d.states.counts ≡ d.active.counts → length d.states.states ≡ total d.states.counts → CanStep v d m
    → TurnSays v d m turn v' d' m' → (IsWait turn → d' ≡ d) → told' ≡ told_by (look_told turn) told
    → OfEntry turn (λ e. AreTold j past e told told' d d')
turn_told j past None told' v v' d d' m m' turn counts sized can says stays is =
    subst (λ o. OfEntry turn (λ e. AreTold j past e None o d d')) (sym (is ∙ by_none (look_told turn)))
    (of_each turn (λ e. AreTold j past e None None d d') (λ e. tt))
turn_told j past (Some calls) told' v v' d d' m m' turn counts sized can says stays is =
    by_told told' (turn_tells calls v v' d d' m m' turn told' counts sized can says stays is)
  where
    by_told : (o : Option (List Call)) → Tells o (λ longer. TurnComes turn calls longer d d')
        → OfEntry turn (λ e. AreTold j past e (Some calls) o d d')
    by_told None comes = absurd comes
    by_told (Some longer) comes = turn_calls j past calls longer d d' turn comes (turn_silent v v' d d' m m' turn says)

-- a turn with no entry makes no call
no_look : (turn : PassTurn) → MakesNoEntry turn → look_told turn ≡ None
no_look (turns.One e) none = absurd none
no_look turn none = refl

pub turn_stays : (told : Option (List Call)) (turn : PassTurn) → MakesNoEntry turn → told_by (look_told turn) told ≡ told
turn_stays told turn none = ap (λ o. told_by o told) (no_look turn none)

-- flat memory goes on with the entry of a turn
pub turn_flat : (past : List Entry) (v v' : PassView) (d d' : Driver) (m m' : Parts) (turn : PassTurn) → TurnSays v d m turn v' d' m'
    → EnclavesAreFlat past → OfEntry turn (λ e. EnclavesAreFlat (e ∷ past))
turn_flat past v v' d d' m m' turn says seen = by_turn turn (turn_silent v v' d d' m m' turn says)
  where
    by_turn : (x : PassTurn) → OfEntry x IsSilent → OfEntry x (λ e. EnclavesAreFlat (e ∷ past))
    by_turn (turns.One e) silent = flat_other past e silent.building seen
    by_turn (turns.Seal e) silent = flat_other past e silent.building seen
    by_turn (turns.Spent e) silent = flat_other past e silent.building seen
    by_turn x silent = tt

-- ---- the end of a write-out

-- the page is out, and its record was put
record IsPutOut (s : State) (told told' : Option (List Call)) (e : Entry) (t : State) : Type 0 where
  frame : Frame
  page : Page
  rec : Sealed
  failed : Bool
  out : IsWrittenOut s actors.Reclaimer frame e rec t
  call : told' ≡ with_call (Put page rec failed) told

-- .. by what is told of the end of a write-out
put_out : (v : PassView) (s t : State) (d d' : Driver) (told told' : Option (List Call)) (faults faults' : ℕ) (e : Entry)
    → StoredSays v s d told faults e t d' told' faults' → IsPutOut s told told' e t
put_out v s t d d' told told' faults faults' e says = by_page (sealing_in v) says
  where
    by_page : (o : Option Taken) → IsSomeAnd o (λ one. IsStored one s d told faults e t d' told' faults') → IsPutOut s told told' e t
    by_page None k = absurd k
    by_page (Some one) k =
        record { frame = one.frame; page = one.page; rec = k.rec; failed = k.failed; out = k.out; call = k.call }

-- the header of a page in its frame is the one that flat memory gives it
pub header_held : (made : Making) (j : JobView) (past : List Entry) (told : Option (List Call)) (d : Driver) (m : Parts) (t : Turns)
    (g : Page) (header : Header) → KeepsBook made j past told d m t → header_in (state_of m) g ≡ Some header
    → header_at past g ≡ Some header
header_held made j past told d m t g header k is = sym (headers_agree (state_of m) past k.agrees.follows.shape.columns k.flat g) ∙ is

-- the record is sealed of its page
module _ (made : Making) (j : JobView) (past : List Entry) (told : Option (List Call)) (d : Driver) (m m' : Parts) (t : Turns) (e : Entry)
    (f : Frame) (rec : Sealed) (k : KeepsBook made j past told d m t) (keys : made.key ≡ j.key)
    (out : IsWrittenOut (state_of m) actors.Reclaimer f e rec (state_of m')) where
  abbrev s : State
  s = state_of m

  abbrev page : Page
  page = out.leaving.page

  abbrev version : ℕ
  version = out.leaving.start.version

  abbrev bytes : List ℕ
  bytes = out.leaving.bytes

  tagged : (sealed s.key version out.leaving.header bytes).tag ≡ tag j.key version out.leaving.header (cipher s.key version bytes)
  tagged =
      ap (λ key. tag key version out.leaving.header (cipher s.key version bytes))
      (ap (λ (x : Making). x.key) k.agrees.follows.shape.making ∙ keys)

  put_sealed : IsSealedRecord j.key past page version rec
  put_sealed = record {
    header =
        header_held made j past told d m t page out.leaving.header k out.leaving.headed
        ∙ ap Some (sym (ap (λ (x : Sealed). x.header) out.sealed));
    tagged = subst (λ (x : Sealed). x.tag ≡ tag j.key version x.header x.cipher) (sym out.sealed) tagged;
  }

-- .. which its entry tells
put_tells : (key : List ℕ) (past : List Entry) (gifts : ℕ → Option Sealed) (s t : State) (e : Entry) (f : Frame) (page : Page)
    (rec : Sealed) (failed : Bool) (calls longer : List Call) (out : IsWrittenOut s actors.Reclaimer f e rec t)
    → longer ≡ Put page rec failed ∷ calls → IsSealedRecord key past out.leaving.page out.leaving.start.version rec
    → TellsRecord key past gifts e.event longer
put_tells key past gifts s t e f page rec failed calls longer out is sealed =
    subst (λ c. TellsRecord key past gifts e.event c) (sym is)
    (subst (λ (x : Entry). TellsRecord key past gifts x.event (Put page rec failed ∷ calls)) (sym out.entry) sealed)

-- .. where the store tells its calls, and where it does not
pub out_told : (made : Making) (j : JobView) (past : List Entry) (told told' : Option (List Call)) (d d' : Driver) (m m' : Parts)
    (t : Turns) (v : PassView) (faults faults' : ℕ) (e : Entry) → KeepsBook made j past told d m t → made.key ≡ j.key
    → Ready made j past v d m → StoredSays v (state_of m) d told faults e (state_of m') d' told' faults' → AreTold j past e told told' d d'
out_told made j past None told' d d' m m' t v faults faults' e k keys ready says =
    let p = put_out v (state_of m) (state_of m') d d' None told' faults faults' e says in
    subst (λ o. AreTold j past e None o d d') (sym p.call) tt
out_told made j past (Some calls) told' d d' m m' t v faults faults' e k keys ready says =
    by_told told' p.call (stored_tells made j past calls v d d' m m' faults faults' e told' ready says)
  where
    p : IsPutOut (state_of m) (Some calls) told' e (state_of m')
    p = put_out v (state_of m) (state_of m') d d' (Some calls) told' faults faults' e says

    by_told : (o : Option (List Call)) → o ≡ Some (Put p.page p.rec p.failed ∷ calls) → Tells o (λ longer. Comes e calls longer d d')
        → AreTold j past e (Some calls) o d d'
    by_told None call comes = absurd comes
    by_told (Some longer) call comes = record {
      comes = comes;
      tells = put_tells j.key past (gift past (before e.event longer)) (state_of m) (state_of m') e p.frame p.page p.rec p.failed calls
          longer p.out (same_Some longer (Put p.page p.rec p.failed ∷ calls) call)
          (put_sealed made j past (Some calls) d m m' t e p.frame p.rec k keys p.out);
    }

-- flat memory goes on with the end of a write-out
pub out_flat : (past : List Entry) (v : PassView) (s t : State) (d d' : Driver) (told told' : Option (List Call)) (faults faults' : ℕ)
    (e : Entry) → StoredSays v s d told faults e t d' told' faults' → EnclavesAreFlat past → EnclavesAreFlat (e ∷ past)
out_flat past v s t d d' told told' faults faults' e says seen =
    let p = put_out v s t d d' told told' faults faults' e says in
    flat_other past e (ap (λ (x : Entry). is_building x.event) p.out.entry) seen
