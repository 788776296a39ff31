-- An entry that makes no record carries the standing on as its own clause says, and so does the end of a write-out with the record that it
-- puts.
use Rattle.std.specs.Option.{IsSomeAnd}
use Rattle.std.specs.Prelude.{IfSome}
use Rattle.std.proofs.Common.{◌≡◌, inl, inr, ℕ, Bool, true, false, refl, sym, ◌∙◌, ap, subst, List, [], ◌∷◌, ◌++◌}
use Rattle.std.proofs.Common.{Option, Some, None, slice_get}
use Rattle.std.proofs.lemmas.List.{append-nil}
use Rattle.sgx_rules.specs.declared.entries.Action.{Action}
use Rattle.sgx_rules.specs.declared.entries.Action.TheVariants.{Ewb}
use Rattle.sgx_types.specs.declared.names.Actor.{Actor}
use Rattle.sgx_rules.specs.declared.entries.Answer.{Answer}
use Rattle.sgx_rules.specs.declared.entries.Answer.TheVariants.{Moved}
use Rattle.sgx_rules.specs.declared.entries.Entry.{Entry}
use Rattle.sgx_rules.specs.declared.entries.Event.{Event}
use Rattle.sgx_rules.specs.declared.entries.Event.TheVariants.{Did, Refused, Age, Kick, Bus}
use Rattle.sgx_types.specs.declared.names.Frame.{Frame}
use Rattle.sgx_types.specs.declared.names.Page.{Page}
use Rattle.sgx_types.specs.Making.{Making}
use Rattle.sgx_types.specs.Sealed.{Sealed}
use Rattle.job_grammar.specs.Jobs.{JobView}
use Rattle.seal_record.specs.Records.{Made}
use Rattle.backing_store.specs.Calls.{Call, Put}
use Rattle.backing_store.specs.inner.Calls.{with_call}
use Rattle.machine_laws.specs.inner.Histories.{StandsWithAllRules, given_out}
use Rattle.machine_laws.specs.inner.Notes.{IsNote}
use Rattle.machine_laws.specs.inner.State.{State}
use Rattle.machine_laws.specs.inner.Steps.{IsStep}
use Rattle.sgx_machine.specs.inner.Parts.{Parts, state_of}
use Rattle.driver_tables.specs.inner.Carried.{Carries}
use Rattle.driver_tables.specs.declared.driver.Driver.{Driver}
use Rattle.driver_pass.specs.declared.stages.Taken.{Taken}
use Rattle.driver_pass.specs.inner.Viewed.{PassView, sealing_in}
use Rattle.driver_reclaim.specs.inner.Stored.{IsStored, StoredSays}
use Rattle.history_rules.specs.Calls.{before}
use Rattle.history_rules.specs.Given.{made_in, made_more}
use Rattle.run_laws.specs.inner.Books.{CarriesBytes}
use Rattle.due_notes.specs.inner.Plain.{is_plain}
use Rattle.due_notes.proofs.EntryLaws.{IsEntryOf, entry_by}
use Rattle.run_records.specs.inner.Records.{StaysWith, writes_out}

-- ---- entries that make no record

-- no record is made by an entry that is no done write-out
none_made : (event : Event) (calls : List Call) → writes_out event ≡ false → made_more event calls ≡ []
none_made (Did (Ewb f) answer) calls h = cc
none_made event calls h = refl

-- .. so as many are made in all
made_same : (past : List Entry) (e : Entry) (longer : List Call) → writes_out e.event ≡ false
    → made_in past (before e.event longer) ≡ made_in (e ∷ past) longer
made_same past e longer quiet =
    sym (ap (λ more. made_in past (before e.event longer) ++ more) (none_made e.event longer quiet)
    ∙ append-nil (made_in past (before e.event longer)))

-- .. and it is enough that the standing goes on with the records that there were
pub same_bytes : (made : Making) (j : JobView) (past : List Entry) (m m' : Parts) (e : Entry) (longer : List Call)
    → writes_out e.event ≡ false
    → ((records : List Made) → StandsWithAllRules made (state_of m) past records → StandsWithAllRules made (state_of m') (e ∷ past) records)
    → CarriesBytes made j past m e m' longer
same_bytes made j past m m' e longer quiet goes unforged stands =
    subst (λ records. StandsWithAllRules made (state_of m') (e ∷ past) records) (made_same past e longer quiet)
    (goes (made_in past (before e.event longer)) stands)

pub step_bytes : (made : Making) (j : JobView) (past : List Entry) (m m' : Parts) (e : Entry) (longer : List Call)
    → Carries (state_of m) e (state_of m') → writes_out e.event ≡ false → CarriesBytes made j past m e m' longer
step_bytes made j past m m' e longer carries quiet = same_bytes made j past m m' e longer quiet (carries.history made past)

-- ---- instructions

did_quiet : (action : Action) (answer : Answer) → is_plain action ≡ true → writes_out (Did action answer) ≡ false
did_quiet (Ewb f) answer plain = cc
did_quiet action answer plain = refl

-- an instruction that moves no page out or back is no write-out, done or refused
plain_quiet : (s t : State) (actor : Actor) (action : Action) (e : Entry) → is_plain action ≡ true → IsStep s actor action e t
    → writes_out e.event ≡ false
plain_quiet s t actor action e plain is = by_entry (entry_by s t actor action e is)
  where
    by_entry : IsEntryOf s actor action e → writes_out e.event ≡ false
    by_entry (inl k) = rw k.is (did_quiet action k.answer plain)
    by_entry (inr k) = rw k.is refl

pub plain_bytes : (made : Making) (j : JobView) (past : List Entry) (m m' : Parts) (actor : Actor) (action : Action) (e : Entry)
    (longer : List Call) → is_plain action ≡ true → IsStep (state_of m) actor action e (state_of m')
    → Carries (state_of m) e (state_of m') → CarriesBytes made j past m e m' longer
plain_bytes made j past m m' actor action e longer plain is carries =
    step_bytes made j past m m' e longer carries (plain_quiet (state_of m) (state_of m') actor action e plain is)

-- ---- entries of no instruction

note_quiet : (event : Event) → IsNote event → writes_out event ≡ false
note_quiet (Did action answer) note = absurd note
note_quiet (Refused action refusal) note = refl
note_quiet (Age page look) note = refl
note_quiet (Kick cpu) note = refl
note_quiet (Bus page why) note = refl

pub note_bytes : (made : Making) (j : JobView) (past : List Entry) (m : Parts) (e : Entry) (longer : List Call) → IsNote e.event
    → StaysWith (state_of m) e → CarriesBytes made j past m e m longer
note_bytes made j past m e longer note stays = same_bytes made j past m m e longer (note_quiet e.event note) (stays made past)

-- ---- the end of a write-out

-- by the put that it makes, which is the store's last call: the record that was put is the one that the machine gave out
put_bytes : (made : Making) (j : JobView) (past : List Entry) (m m' : Parts) (e : Entry) (f : Frame) (g page : Page) (version : ℕ)
    (rec : Sealed) (failed : Bool) (calls : List Call) → e.event ≡ Did (Ewb f) (Moved page version rec.tag)
    → ((records : List Made) → StandsWithAllRules made (state_of m) past records
    → StandsWithAllRules made (state_of m') (e ∷ past) (records ++ given_out e.event rec))
    → CarriesBytes made j past m e m' (Put g rec failed ∷ calls)
put_bytes made j past m m' e f g page version rec failed calls is goes unforged stands =
    subst (λ more. StandsWithAllRules made (state_of m') (e ∷ past) (made_in past (before e.event (Put g rec failed ∷ calls)) ++ more)) same
    (goes (made_in past (before e.event (Put g rec failed ∷ calls))) stands)
  where
    same : given_out e.event rec ≡ made_more e.event (Put g rec failed ∷ calls)
    same = ap (λ event. given_out event rec) is ∙ sym (ap (λ event. made_more event (Put g rec failed ∷ calls)) is)

pub stored_bytes : (made : Making) (j : JobView) (past : List Entry) (d d' : Driver) (m m' : Parts) (v : PassView)
    (told told' : Option (List Call)) (faults faults' : ℕ) (e : Entry)
    → StoredSays v (state_of m) d told faults e (state_of m') d' told' faults'
    → IfSome told' (CarriesBytes made j past m e m')
stored_bytes made j past d d' m m' v told told' faults faults' e says = by_page (sealing_in v) says
  where
    by_told : (one : Taken) → (k : IsStored one (state_of m) d told faults e (state_of m') d' told' faults') → (t : Option (List Call))
        → IfSome (with_call (Put one.page k.rec k.failed) t) (CarriesBytes made j past m e m')
    by_told one k None = tt
    by_told one k (Some calls) =
        put_bytes made j past m m' e one.frame one.page k.out.leaving.page k.out.leaving.start.version k.rec k.failed calls
        (ap (λ (x : Entry). x.event) k.out.entry) (k.history made past)

    by_page : (o : Option Taken)
        → IsSomeAnd o (λ one. IsStored one (state_of m) d told faults e (state_of m') d' told' faults')
        → IfSome told' (CarriesBytes made j past m e m')
    by_page None k = absurd k
    by_page (Some one) k = subst (λ t. IfSome t (CarriesBytes made j past m e m')) (sym k.call) (by_told one k told)
