-- The entries that tell nothing of a record.
use Rattle.std.proofs.Common.{◌≡◌, ℕ, true, refl, sym, ◌∙◌, ap, subst, List, Option, Some, None, IfSome, MatchOption}
use Rattle.sgx_rules.specs.declared.entries.Action.{Action}
use Rattle.sgx_rules.specs.declared.entries.Action.TheVariants.{Ewb, EldStart, Eld}
use Rattle.sgx_types.specs.declared.names.Actor.{Actor}
use Rattle.sgx_rules.specs.declared.entries.Answer.{Answer}
use Rattle.sgx_rules.specs.declared.entries.Entry.{Entry}
use Rattle.sgx_rules.specs.declared.entries.Event.{Event}
use Rattle.sgx_rules.specs.declared.entries.Event.TheVariants.{Did, Refused, Kick}
use Rattle.sgx_types.specs.declared.names.Cpu.{Cpu}
use Rattle.sgx_types.specs.declared.names.Frame.{Frame}
use Rattle.sgx_types.specs.declared.names.Page.{Page}
use Rattle.sgx_types.specs.declared.names.SlotAt.{SlotAt}
use Rattle.sgx_rules.specs.declared.refusals.Refusal.{Refusal}
use Rattle.sgx_types.specs.Sealed.{Sealed}
use Rattle.sgx_types.specs.Cases.{first_of_row}
use Rattle.job_grammar.specs.Jobs.{JobView}
use Rattle.script_rules.specs.Script.{action_of}
use Rattle.backing_store.specs.Calls.{Call}
use Rattle.machine_laws.specs.inner.State.{State, row_of}
use Rattle.machine_laws.specs.inner.Steps.{IsDone, IsStep, answer_of, did_by, refused_by}
use Rattle.driver_tables.specs.declared.driver.Driver.{Driver}
use Rattle.history_rules.specs.Calls.{ComesWith, before}
use Rattle.history_rules.specs.Given.{gift}
use Rattle.history_rules.specs.Stored.{TellsOfStore}
use Rattle.run_calls.specs.inner.Stores.{StoreMoves}
use Rattle.run_laws.specs.inner.Books.{AreTold}
use Rattle.due_notes.specs.inner.Plain.{is_plain}
use Rattle.run_records.specs.inner.Silent.{IsSilent}

-- ---- entries that come with no call

-- it comes with no call, and tells nothing of a record
record IsMute (ev : Event) : Type 0 where
  comes : (calls : List Call) → ComesWith ev calls
  earlier : (calls : List Call) → before ev calls ≡ calls
  tells : (key : List ℕ) (past : List Entry) (gifts : ℕ → Option Sealed) (calls : List Call) → TellsOfStore key past gifts ev calls

-- an instruction that moves no page out or back and was done
did_mute : (action : Action) (answer : Answer) → is_plain action ≡ true → IsMute (Did action answer)
did_mute (Ewb f) answer h = cc
did_mute (EldStart f page slot) answer h = cc
did_mute (Eld f) answer h = cc
did_mute action answer h =
    record { comes = λ calls. tt; earlier = λ calls. refl; tells = λ key past gifts calls. tt }

-- .. or was refused
refused_mute : (action : Action) (refusal : Refusal) → is_plain action ≡ true → IsMute (Refused action refusal)
refused_mute (EldStart f page slot) refusal h = cc
refused_mute (Eld f) refusal h = cc
refused_mute action refusal h =
    record { comes = λ calls. tt; earlier = λ calls. refl; tells = λ key past gifts calls. tt }

-- an instruction that moves no page out or back, done or refused
plain_mute : (ev : Event) (action : Action) → action_of ev ≡ Some action → is_plain action ≡ true → IsMute ev
plain_mute (Did done answer) action is plain =
    let same : done ≡ action = cc in did_mute done answer (ap is_plain same ∙ plain)
plain_mute (Refused refused refusal) action is plain =
    let same : refused ≡ action = cc in refused_mute refused refusal (ap is_plain same ∙ plain)
plain_mute _ action is plain = cc

-- where the tables keep their records and their lost pages
mute_told : (j : JobView) (past : List Entry) (e : Entry) (told : Option (List Call)) (d d' : Driver) → IsMute e.event
    → IfSome told (λ calls. StoreMoves e calls d d') → AreTold j past e told told d d'
mute_told j past e None d d' mute moves = tt
mute_told j past e (Some calls) d d' mute moves = record {
  comes = record { comes = mute.comes calls; earlier = mute.earlier calls; moves = moves };
  tells = mute.tells j.key past (gift past (before e.event calls)) calls;
}

-- .. of an instruction that moves no page out or back
pub plain_told : (j : JobView) (past : List Entry) (e : Entry) (action : Action) (told : Option (List Call)) (d d' : Driver)
    → action_of e.event ≡ Some action → is_plain action ≡ true → IfSome told (λ calls. StoreMoves e calls d d')
    → AreTold j past e told told d d'
plain_told j past e action told d d' is plain moves = mute_told j past e told d d' (plain_mute e.event action is plain) moves

-- ---- kicks

-- a kick changes no table
kick_moves : (e : Entry) (cpu : Cpu) (calls : List Call) (d : Driver) → e.event ≡ Kick cpu → StoreMoves e calls d d
kick_moves e cpu calls d is = record {
  counts = refl;
  given = λ p f page slot answer mine no. cc;
  others = λ p other. refl;
  lost = λ g placed. rw is refl;
}

-- .. and comes with no call
pub kick_told : (j : JobView) (past : List Entry) (e : Entry) (cpu : Cpu) (told : Option (List Call)) (d : Driver) → e.event ≡ Kick cpu
    → AreTold j past e told told d d
kick_told j past e cpu told d is = mute_told j past e told d d (rw is kick_mute) (by_told told)
  where
    kick_mute : IsMute (Kick cpu)
    kick_mute = record { comes = λ calls. tt; earlier = λ calls. refl; tells = λ key past gifts calls. tt }

    by_told : (o : Option (List Call)) → IfSome o (λ calls. StoreMoves e calls d d)
    by_told None = tt
    by_told (Some calls) = kick_moves e cpu calls d is

-- ---- entries by steps

-- what is so of an instruction's entry, done or refused, is so of that of its step
pub step_is : (P : Entry → Type 0) (s t : State) (a : Actor) (action : Action) (e : Entry)
    → ((answer : Answer) → P (did_by a action answer)) → ((refusal : Refusal) → P (refused_by a action refusal))
    → (IsDone s a action e t → e ≡ did_by a action (answer_of s a action)) → IsStep s a action e t → P e
step_is P s t a action e done refused did = by_row (first_of_row (row_of s a action))
  where
    by_row : (o : Option Refusal) → MatchOption o (IsDone s a action e t)
        (λ refusal. (e ≡ refused_by a action refusal) × (t ≡ s)) → P e
    by_row None is = subst P (sym (did is)) (done (answer_of s a action))
    by_row (Some refusal) is = subst P (sym is.0) (refused refusal)

-- ---- the starts of loads

-- the start of a load tells nothing of a record
pub load_silent : (s t : State) (a : Actor) (f : Frame) (page : Page) (slot : SlotAt) (e : Entry)
    → IsStep s a (EldStart f page slot) e t → IsSilent e
load_silent s t a f page slot e =
    step_is IsSilent s t a (EldStart f page slot) e (λ answer. record { building = refl; tells = λ key past gifts calls. tt })
    (λ refusal. record { building = refl; tells = λ key past gifts calls. tt }) (λ k. k.0)
