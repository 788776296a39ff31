-- The entries of a fault step come with the calls that it made.
use Rattle.std.proofs.Common.{◌≡◌, ◌⊎◌, inl, inr, ℕ, ◌<◌, Bool, true, false, refl, sym, ◌∙◌}
use Rattle.std.proofs.Common.{ap, List, ◌∷◌, Option, Some, None, MatchOption, Result, Ok, Err, length, slice_set}
use Rattle.sgx_rules.specs.declared.entries.Action.TheVariants.{EldStart, Eld}
use Rattle.sgx_types.specs.declared.names.Actor.TheVariants as actors
use Rattle.sgx_rules.specs.declared.entries.Answer.{Answer}
use Rattle.sgx_rules.specs.declared.entries.BusWhy.{BusWhy}
use Rattle.sgx_rules.specs.declared.entries.BusWhy.TheVariants as reasons
use Rattle.sgx_rules.specs.declared.entries.Entry.{Entry}
use Rattle.sgx_rules.specs.declared.entries.Event.{Event}
use Rattle.sgx_rules.specs.declared.entries.Event.TheVariants.{Did, Refused, Bus}
use Rattle.sgx_types.specs.declared.names.Cpu.{Cpu}
use Rattle.sgx_types.specs.declared.names.Frame.{Frame}
use Rattle.sgx_types.specs.declared.names.Page.{Page}
use Rattle.sgx_types.specs.declared.names.SlotAt.{SlotAt}
use Rattle.sgx_types.specs.declared.names.VaSlot.{VaSlot}
use Rattle.sgx_rules.specs.declared.refusals.Refusal.{Refusal}
use Rattle.sgx_rules.specs.Processors.{is_by}
use Rattle.sgx_types.specs.Pages.{is_own_page}
use Rattle.sgx_types.specs.Sealed.{Sealed}
use Rattle.sgx_types.specs.Cases.{first_of_row}
use Rattle.machine_laws.specs.inner.State.{State, row_of}
use Rattle.machine_laws.specs.inner.Steps.{IsReloaded, IsStep, commit_row, did_by, refused_by}
use Rattle.sgx_machine.specs.inner.Parts.{Parts, state_of}
use Rattle.backing_store.specs.Calls.{Call, Failed, Given, Got, Nothing}
use Rattle.backing_store.specs.declared.backing.StoreFault.{StoreFault}
use Rattle.backing_store.specs.declared.backing.StoreFault.TheVariants as faults
use Rattle.driver_list.specs.inner.Keeping.{kept_at, keeping, record_kept}
use Rattle.driver_list.specs.inner.Places.{IsPlaced, total}
use Rattle.driver_list.specs.inner.States.{state_of as page_state, with_state}
use Rattle.driver_list.specs.declared.page_states.PageState.{PageState}
use Rattle.driver_list.specs.declared.page_states.PageState.TheVariants as states
use Rattle.driver_rules.specs.inner.Reclaims.{is_refused}
use Rattle.driver_tables.specs.declared.driver.Driver.{Driver}
use Rattle.driver_tables.specs.inner.Moves.{with_load}
use Rattle.driver_faults.specs.declared.answers.FaultAnswer.{FaultAnswer}
use Rattle.driver_faults.specs.declared.answers.Loaded.{Loaded}
use Rattle.driver_faults.specs.inner.Finishing.{CanFinish, ComesBack, IsFinished, bus_why}
use Rattle.driver_tables.specs.inner.Targets.{slot_here_in}
use Rattle.driver_faults.specs.inner.Resolving.{FetchesPage, IsGot, IsResolved, IsStarted}
use Rattle.history_rules.specs.Calls.{ComesByBus, ComesWith, before, is_lost}
use Rattle.sgx_rules.specs.declared.entries.Answer.TheVariants.{Moved}
use Rattle.sgx_rules.specs.declared.refusals.Refusal.TheVariants as why
use Rattle.sgx_rules.specs.Frames.{least_free}
use Rattle.sgx_types.specs.Pages.{frame_at}
use Rattle.backing_store.specs.inner.Calls.{told_got}
use Rattle.machine_laws.specs.inner.Steps.{IsDone, answer_of}
use Rattle.run_calls.specs.inner.Stores.{StoreMoves, TellsStore, is_lost_state, lost_by}
use Rattle.run_calls.specs.inner.Comes.{AnswerComes, Comes, EndComes, Tells, bus_of}
use Rattle.run_calls.proofs.TableLaws.{kept_other, kept_own, lost_same}

-- an entry that starts no load, and writes nothing out, leaves tables that stay
quiet_moves : (e : Entry) (calls : List Call) (d d' : Driver) → d' ≡ d
    → ((f : Frame) (page : Page) (slot : SlotAt) (answer : Answer) → e.event ≡ Did (EldStart f page slot) answer → ⊥)
    → ((g : Page) (b : Bool) → lost_by e.event calls g b ≡ b) → StoreMoves e calls d d'
quiet_moves e calls d d' same no_start no_put = rw same record {
  counts = refl;
  given = λ p f page slot answer mine is. absurd (no_start f page slot answer is);
  others = λ p other. refl;
  lost = λ g placed. sym (no_put g (is_lost_state (page_state d.states g)));
}

-- ---- a fault step

bus_moves : (cpu : Cpu) (page : Page) (why : BusWhy) (calls : List Call) (d : Driver) → StoreMoves (bus_of cpu page why) calls d d
bus_moves cpu page why calls d = quiet_moves (bus_of cpu page why) calls d d refl (λ f g slot answer is. cc) (λ g b. refl)

-- the start of a load, done or refused
record IsStartBy (cpu : Cpu) (f : Frame) (page : Page) (slot : SlotAt) (e : Entry) : Type 0 where
  answer : Answer
  is : e ≡ did_by (actors.Cpu cpu) (EldStart f page slot) answer

record IsRefusedBy (cpu : Cpu) (f : Frame) (page : Page) (slot : SlotAt) (e : Entry) : Type 0 where
  refusal : Refusal
  is : e ≡ refused_by (actors.Cpu cpu) (EldStart f page slot) refusal

start_entry : (s t : State) (cpu : Cpu) (f : Frame) (page : Page) (slot : SlotAt) (e : Entry)
    → IsStep s (actors.Cpu cpu) (EldStart f page slot) e t → IsStartBy cpu f page slot e ⊎ IsRefusedBy cpu f page slot e
start_entry s t cpu f page slot e = by_row (first_of_row (row_of s (actors.Cpu cpu) (EldStart f page slot)))
  where
    by_row : (o : Option Refusal) → MatchOption o (IsDone s (actors.Cpu cpu) (EldStart f page slot) e t)
        (λ refusal. (e ≡ refused_by (actors.Cpu cpu) (EldStart f page slot) refusal) × (t ≡ s))
        → IsStartBy cpu f page slot e ⊎ IsRefusedBy cpu f page slot e
    by_row None is =
        inl (record { answer = answer_of s (actors.Cpu cpu) (EldStart f page slot); is = is.0 })
    by_row (Some refusal) is = inr (record { refusal = refusal; is = is.0 })

module _ (key : List ℕ) (past : List Entry) (calls : List Call) (d : Driver) (m : Parts) (cpu : Cpu) (page : Page)
    (t : TellsStore key past calls d) (room : cpu.0 < length d.kept) (placed : IsPlaced d.states.counts page)
    (sized : length d.states.states ≡ total d.states.counts) where
  -- a page that is lost or not is so by the calls
  lost_is : (x : PageState) → page_state d.states page ≡ x → is_lost calls page ≡ is_lost_state x
  lost_is x at = sym (t.lost page placed) ∙ ap is_lost_state at

  load_moves : (f : Frame) (slot : VaSlot) (named : SlotAt) (rec : Sealed) (answer : Answer) → page_state d.states page ≡ states.Away slot
      → StoreMoves (did_by (actors.Cpu cpu) (EldStart f page named) answer) (Got page (Given rec) ∷ calls)
      d (with_load d cpu page slot f rec)
  load_moves f slot named rec answer at = record {
    counts = refl;
    given = λ p n g s a mine is. kept_own d.kept cpu (Some (keeping page rec)) p room mine;
    others = λ p other. kept_other d.kept cpu (Some (keeping page rec)) p other;
    lost = λ g here. lost_same d.states page g (states.Loading f slot) sized placed here (sym (ap is_lost_state at));
  }

  started : (f : Frame) (slot : VaSlot) (named : SlotAt) (rec : Sealed) (answer : FaultAnswer) (d' : Driver) (m' : Parts)
      → page_state d.states page ≡ states.Away slot → IsStarted cpu page slot named f rec d m answer d' m'
      → AnswerComes cpu page answer calls (Got page (Given rec) ∷ calls) d d'
  started f slot named rec answer d' m' at is =
      by_entry (start_entry (state_of m) (state_of m') cpu f page named is.entry is.step)
    where
      by_entry : IsStartBy cpu f page named is.entry ⊎ IsRefusedBy cpu f page named is.entry
          → AnswerComes cpu page answer calls (Got page (Given rec) ∷ calls) d d'
      by_entry (inl k) =
          let its = is.started (ap (λ (e : Entry). is_refused e.event) k.is) in
          rw (its.says, its.driver, k.is) record {
            comes = (refl, lost_is (states.Away slot) at);
            earlier = refl;
            moves = load_moves f slot named rec k.answer at;
          }
      by_entry (inr k) =
          let its = is.refused (ap (λ (e : Entry). is_refused e.event) k.is) in
          rw (its.0, its.1, k.is) (
            record {
              comes = (refl, lost_is (states.Away slot) at);
              earlier = refl;
              moves =
                  quiet_moves (refused_by (actors.Cpu cpu) (EldStart f page named) k.refusal) (Got page (Given rec) ∷ calls) d d refl
                  (λ n g s a no. cc) (λ g b. refl);
            },
            record { comes = tt; earlier = refl; moves = bus_moves cpu page reasons.Slot (Got page (Given rec) ∷ calls) d },
          )

  by_got : (f : Frame) (slot : VaSlot) (named : SlotAt) (got : Result (Option Sealed) StoreFault) (answer : FaultAnswer) (d' : Driver)
      (m' : Parts) → page_state d.states page ≡ states.Away slot → IsGot cpu page slot named f got d m answer d' m'
      → Tells (told_got page got (Some calls)) (λ longer. AnswerComes cpu page answer calls longer d d')
  by_got f slot named (Ok (Some rec)) answer d' m' at is = started f slot named rec answer d' m' at is
  by_got f slot named (Ok None) answer d' m' at is = rw (is.says, is.driver) record {
    comes = (refl, lost_is (states.Away slot) at);
    earlier = refl;
    moves = bus_moves cpu page reasons.NoRecord (Got page Nothing ∷ calls) d;
  }
  by_got f slot named (Err faults.Failed) answer d' m' at is = rw (is.says, is.driver) record {
    comes = (refl, lost_is (states.Away slot) at);
    earlier = refl;
    moves = bus_moves cpu page reasons.GetFailed (Got page Failed ∷ calls) d;
  }
  by_got f slot named (Err faults.Memory) answer d' m' at is = absurd is

  by_free : (slot : VaSlot) (named : Option SlotAt) (o : Option ℕ) (answer : FaultAnswer) (d' : Driver) (m' : Parts)
      (told : Option (List Call)) → page_state d.states page ≡ states.Away slot
      → FetchesPage cpu page slot named o d m (Some calls) answer d' m' told
      → Tells told (λ longer. AnswerComes cpu page answer calls longer d d')
  by_free slot None o answer d' m' told at is = absurd is
  by_free slot (Some named) None answer d' m' told at is =
      rw (is.calls, is.does.says, is.does.driver) record { calls_are = refl; tables = refl }
  by_free slot (Some named) (Some f) answer d' m' told at is =
      rw is.calls (by_got (frame_at f) slot named is.got answer d' m' at is.does)

  by_state : (x : PageState) (answer : FaultAnswer) (d' : Driver) (m' : Parts) (told : Option (List Call))
      → page_state d.states page ≡ x → IsResolved cpu page x d m (Some calls) answer d' m' told
      → Tells told (λ longer. AnswerComes cpu page answer calls longer d d')
  by_state (states.Away slot) answer d' m' told at is =
      by_free slot (slot_here_in d slot) (least_free (state_of m).frames (state_of m).content) answer d' m' told at is
  by_state (states.Lost slot) answer d' m' told at is = rw (is.calls, is.does.says, is.does.driver) record {
    comes = lost_is (states.Lost slot) at;
    earlier = refl;
    moves = bus_moves cpu page reasons.PutFailed calls d;
  }
  by_state (states.Here f) answer d' m' told at is =
      rw (is.calls, is.does.says, is.does.driver) record { calls_are = refl; tables = refl }
  by_state states.Absent answer d' m' told at is =
      rw (is.calls, is.does.says, is.does.driver) record { calls_are = refl; tables = refl }
  by_state (states.Leaving f) answer d' m' told at is =
      rw (is.calls, is.does.says, is.does.driver) record { calls_are = refl; tables = refl }
  by_state (states.Loading f slot) answer d' m' told at is =
      rw (is.calls, is.does.says, is.does.driver) record { calls_are = refl; tables = refl }

pub resolved_tells : (key : List ℕ) (past : List Entry) (calls : List Call) (d d' : Driver) (m m' : Parts) (cpu : Cpu) (page : Page)
    (answer : FaultAnswer) (told : Option (List Call)) → TellsStore key past calls d → cpu.0 < length d.kept
    → IsPlaced d.states.counts page → length d.states.states ≡ total d.states.counts
    → IsResolved cpu page (page_state d.states page) d m (Some calls) answer d' m' told
    → Tells told (λ longer. AnswerComes cpu page answer calls longer d d')
resolved_tells key past calls d d' m m' cpu page answer told t room placed sized is =
    by_state key past calls d m cpu page t room placed sized (page_state d.states page) answer d' m' told refl is

-- ---- the end of a load

-- why a record was refused no call tells
record IsFree (page : Page) (why : BusWhy) (calls : List Call) : Type 0 where
  comes : ComesByBus page why calls
  earlier : before (Bus page why) calls ≡ calls

bus_free : (page : Page) (ev : Event) (calls : List Call) → IsFree page (bus_why ev) calls
bus_free page (Refused action (why.BadHeader enclave address flags)) calls = record { comes = tt; earlier = refl }
bus_free page ev calls = record { comes = tt; earlier = refl }

-- the entry of the end
record IsEndEntry (cpu : Cpu) (f : Frame) (e : Entry) : Type 0 where
  actor_is : e.actor ≡ actors.Cpu cpu
  comes : (calls : List Call) → ComesWith e.event calls
  earlier : (calls : List Call) → before e.event calls ≡ calls
  no_start : (n : Frame) (page : Page) (slot : SlotAt) (answer : Answer) → e.event ≡ Did (EldStart n page slot) answer → ⊥
  no_put : (calls : List Call) (g : Page) (b : Bool) → lost_by e.event calls g b ≡ b

end_entry : (s t : State) (cpu : Cpu) (f : Frame) (rec : Sealed) (e : Entry) → IsReloaded s (actors.Cpu cpu) f rec e t → IsEndEntry cpu f e
end_entry s t cpu f rec e is = by_row _ _ (first_of_row (commit_row s f.0 is.coming rec)) is.row
  where
    by_row : (X : Type 0) (Y : Refusal → Type 0) (o : Option Refusal) → MatchOption o
        ((e ≡ did_by (actors.Cpu cpu) (Eld f) (Moved is.coming.page is.coming.start.version rec.tag)) × X)
        (λ refusal. (e ≡ refused_by (actors.Cpu cpu) (Eld f) refusal) × Y refusal) → IsEndEntry cpu f e
    by_row X Y None k = rw k.0 record {
      actor_is = refl;
      comes = λ calls. tt;
      earlier = λ calls. refl;
      no_start = λ n page slot answer no. cc;
      no_put = λ calls g b. refl;
    }
    by_row X Y (Some refusal) k = rw k.0 record {
      actor_is = refl;
      comes = λ calls. tt;
      earlier = λ calls. refl;
      no_start = λ n page slot answer no. cc;
      no_put = λ calls g b. refl;
    }

module _ (calls : List Call) (d d' : Driver) (m : Parts) (s t : State) (cpu : Cpu) (page : Page) (loaded : Loaded)
    (can : CanFinish cpu page d m) (sized : length d.states.states ≡ total d.states.counts)
    (is : IsFinished cpu page can.slot can.frame can.kept d s loaded d' t) where
  abbrev idle : Driver
  idle = record d { kept = slice_set d.kept cpu.0 None }

  its : IsEndEntry cpu can.frame is.entry
  its = end_entry s t cpu can.frame can.kept is.entry is.reloaded

  end_comes : (state : PageState) → is_lost_state state ≡ false → d'.states ≡ with_state d.states page state
      → d'.kept ≡ slice_set d.kept cpu.0 None → Comes is.entry calls calls d d'
  end_comes state found tables kept = record {
    comes = its.comes calls;
    earlier = its.earlier calls;
    moves = record {
      counts = ap (λ x. x.counts) tables;
      given = λ p f g slot answer mine no. absurd (its.no_start f g slot answer no);
      others = λ p other.
          ap (λ k. record_kept (kept_at k p)) kept
          ∙ kept_other d.kept cpu None p (ap (is_by p) (sym its.actor_is) ∙ other);
      lost = λ g here.
          ap (λ x. is_lost_state (page_state x g)) tables
          ∙ lost_same d.states page g state sized can.tables.placed here
          (found ∙ sym (ap is_lost_state can.tables.loading))
          ∙ sym (its.no_put calls g (is_lost_state (page_state d.states g)));
    };
  }

  by_refused : (b : Bool) → is_refused is.entry.event ≡ b → EndComes cpu page loaded calls d d'
  by_refused true refused =
      let k = is.ends.0 refused in
      let free = bus_free page is.entry.event calls in
      rw k.0 (
        end_comes (states.Away can.slot) refl (ap (λ x. x.states) k.1) (ap (λ x. x.kept) k.1),
        record { comes = free.comes; earlier = free.earlier; moves = bus_moves cpu page (bus_why is.entry.event) calls d' },
      )
  by_refused false done =
      let k = is.ends.1 done in rw k.0 (back (is_own_page page) refl k.1)
    where
      back : (b : Bool) → is_own_page page ≡ b → ComesBack idle page can.frame can.slot d' → Comes is.entry calls calls d d'
      back true own comes =
          let its_own = comes.0 own in
          end_comes (states.Here can.frame) refl (ap (λ (x : Driver). x.states) its_own.others) (ap (λ (x : Driver). x.kept) its_own.others)
      back false other comes =
          let aside = comes.1 other in
          end_comes (states.Here can.frame) refl (ap (λ (x : Driver). x.states) aside) (ap (λ (x : Driver). x.kept) aside)

  pub end_tells : EndComes cpu page loaded calls d d'
  end_tells = by_refused (is_refused is.entry.event) refl
