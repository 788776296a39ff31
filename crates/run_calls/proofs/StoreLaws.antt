-- Entries, calls and tables that agree go on to.
use Rattle.std.proofs.Common.{◌≡◌, ℕ, ◌==◌, Bool, true, false, if◌then◌else◌, refl, sym, ◌∙◌, ap, subst, List, []}
use Rattle.std.proofs.Common.{◌∷◌, Option, Some}
use Rattle.std.proofs.lemmas.Bool.{eqb-true, eq-eqb, false≢true}
use Rattle.sgx_rules.specs.declared.entries.Action.TheVariants.{Ewb, EldStart, Eld}
use Rattle.sgx_rules.specs.declared.entries.Answer.{Answer}
use Rattle.sgx_rules.specs.declared.entries.Answer.TheVariants.{Moved}
use Rattle.sgx_rules.specs.declared.entries.BusWhy.TheVariants as reasons
use Rattle.sgx_rules.specs.declared.entries.Entry.{Entry}
use Rattle.sgx_rules.specs.declared.entries.Event.{Event}
use Rattle.sgx_rules.specs.declared.entries.Event.TheVariants.{Did, Refused, Age, Bus}
use Rattle.sgx_rules.specs.declared.entries.Look.TheVariants as looks
use Rattle.sgx_types.specs.declared.names.Frame.{Frame}
use Rattle.sgx_types.specs.declared.names.Page.{Page}
use Rattle.sgx_types.specs.declared.names.SlotAt.{SlotAt}
use Rattle.sgx_types.specs.declared.names.VaSlot.{VaSlot}
use Rattle.sgx_rules.specs.declared.refusals.Refusal.{Refusal}
use Rattle.sgx_rules.specs.declared.refusals.Refusal.TheVariants as why
use Rattle.sgx_types.specs.Pages.{same_page}
use Rattle.sgx_rules.specs.Frames.{Free, content}
use Rattle.sgx_rules.specs.Processors.{is_by}
use Rattle.sgx_types.specs.Sealed.{Sealed}
use Rattle.sgx_rules.specs.Starts.{Start, open_start}
use Rattle.backing_store.specs.Calls.{Call, Got, Put, Room}
use Rattle.driver_list.specs.inner.Keeping.{kept_at, record_kept}
use Rattle.driver_list.specs.inner.Places.{IsPlaced}
use Rattle.driver_list.specs.inner.States.{state_of}
use Rattle.driver_rules.specs.Turns.{fails_with, last_by, last_of, load_of, Loads, start_fails}
use Rattle.driver_laws.specs.inner.Kinds.{CanMove}
use Rattle.driver_laws.specs.inner.Loads.{IsEndedBy, LoadsAreTheirs, TheirRule, load_ended}
use Rattle.driver_laws.specs.inner.Sound.{IsSound}
use Rattle.driver_laws.proofs.EndLaws.{ended_by}
use Rattle.driver_laws.proofs.LoadLaws.{loading_place}
use Rattle.driver_tables.specs.inner.Counts.{job_counts}
use Rattle.driver_tables.specs.declared.driver.Driver.{Driver}
use Rattle.driver_tables.specs.inner.Tables.{IsNew}
use Rattle.driver_tables.proofs.FirstLaws.{all_same}
use Rattle.driver_list.specs.inner.Places.{place_of, total}
use Rattle.driver_list.specs.declared.page_states.PageState.TheVariants.{Absent}
use Rattle.job_grammar.specs.Jobs.{JobView}
use Rattle.driver_rules.specs.Places.{Loading, place}
use Rattle.history_rules.specs.Calls.{ComesWith, IsFailed, IsGiven, IsNothing, IsPut, IsRoom, before, is_lost, without_last}
use Rattle.history_rules.specs.Given.{gift, gift_after}
use Rattle.history_rules.specs.Stored.{TellsOfStore}
use Rattle.history_rules.proofs.HonestLaws.{free_no_load}
use Rattle.run_calls.specs.inner.Stores.{StoreMoves, TellsStore, is_lost_state, lost_by}

-- ---- records that are kept

-- who has a load to end behind its own entry has started it by that
record IsStart (ev : Event) (n : ℕ) : Type 0 where
  frame : Frame
  page : Page
  slot : SlotAt
  answer : Answer
  is : ev ≡ Did (EldStart frame page slot) answer
  into : frame.0 ≡ n

loads_no : (o : Option Page) (refusal : Refusal) (n : ℕ) (g : Page) → fails_with o refusal ≡ Loads n g → ⊥
loads_no (Some page) (why.MacFail given computed) n g k = cc
loads_no (Some page) (why.BadHeader enclave address flags) n g k = cc
loads_no o refusal n g k = cc

fails_no : (page : Page) (refusal : Refusal) (n : ℕ) (g : Page) → start_fails page refusal ≡ Loads n g → ⊥
fails_no page why.SlotEmpty n g k = cc
fails_no page refusal n g k = cc

start_is : (ev : Event) (opened : ℕ → Option Start) (n : ℕ) (g : Page) → last_by ev opened ≡ Loads n g → IsStart ev n
start_is (Did (EldStart f page slot) answer) opened n g k =
    record { frame = f; page = page; slot = slot; answer = answer; is = refl; into = cc }
start_is (Refused (EldStart f page slot) refusal) opened n g k = absurd (fails_no page refusal n g k)
start_is (Refused (Eld f) refusal) opened n g k = absurd (loads_no (load_of (opened f.0)) refusal n g k)
start_is (Bus page reason) opened n g k = cc
start_is ev opened n g k = cc

-- another one's entry leaves the gift of a load that is still to be ended
gift_stays : (past : List Entry) (e : Entry) (calls : List Call) (p n : ℕ) (g : Page) → IsSound past → CanMove past e.event
    → LoadsAreTheirs past → TheirRule past e.actor e.event → is_by p e.actor ≡ false → last_of past p ≡ Loads n g
    → gift_after e.event calls n (gift past (before e.event calls) n) ≡ gift past (before e.event calls) n
gift_stays past e calls p n g s can theirs rule other last = by_event e.event can (λ f. ended_by past e.actor e.event f rule)
  where
    place_is : (slot : VaSlot) × (place past g ≡ Loading n slot)
    place_is = loading_place past n g s (theirs.started p n g last)

    by_frame : (b : Bool) (x y : Option Sealed) → b ≡ false → (if b then x else y) ≡ y
    by_frame b x y h = rw h refl

    -- a load that ends is not of this frame
    apart : (f : ℕ) → IsEndedBy past e.actor f → (b : Bool) → (f == n) ≡ b → b ≡ false
    apart f ended true is =
        let its : last_of past ended.cpu.0 ≡ Loads n ended.page = ended.last ∙ ap (λ m. Loads m ended.page) (eqb-true f n is) in
        let same : ended.cpu.0 ≡ p = theirs.alone ended.cpu.0 p n ended.page g its last in
        absurd (false≢true (sym other ∙ ap (is_by p) ended.actor_is ∙ eq-eqb ended.cpu.0 p same))
    apart f ended false is = refl

    fresh : (f : ℕ) → content past f ≡ Free → (b : Bool) → (f == n) ≡ b → b ≡ false
    fresh f free true is =
        absurd (free_no_load past n g place_is.0 s (subst (λ m. content past m ≡ Free) (eqb-true f n is) free) place_is.1)
    fresh f free false is = refl

    by_event : (ev : Event) → CanMove past ev → ((f : ℕ) → load_ended ev ≡ Some f → IsEndedBy past e.actor f)
        → gift_after ev calls n (gift past (before ev calls) n) ≡ gift past (before ev calls) n
    by_event (Did (EldStart f page slot) answer) c ends = by_frame (f.0 == n) _ _ (fresh f.0 c.0 (f.0 == n) refl)
    by_event (Did (Eld f) answer) c ends = by_frame (f.0 == n) _ _ (apart f.0 (ends f.0 refl) (f.0 == n) refl)
    by_event (Refused (Eld f) refusal) c ends = by_frame (f.0 == n) _ _ (apart f.0 (ends f.0 refl) (f.0 == n) refl)
    by_event ev c ends = refl

-- ---- pages that are lost

room_lost : (page : Page) (failed : Bool) (calls : List Call) (g : Page) → IsRoom page failed calls
    → is_lost calls g ≡ is_lost (without_last calls) g
room_lost page failed [] g c = absurd c
room_lost page failed (Room h b ∷ calls) g c = refl
room_lost page failed (Put h rec b ∷ calls) g c = absurd c
room_lost page failed (Got h gave ∷ calls) g c = absurd c

given_lost : (page : Page) (calls : List Call) (g : Page) → IsGiven page calls → is_lost calls g ≡ is_lost (without_last calls) g
given_lost page [] g c = absurd c
given_lost page (Room h b ∷ calls) g c = absurd c
given_lost page (Put h rec b ∷ calls) g c = absurd c
given_lost page (Got h gave ∷ calls) g c = refl

failed_lost : (page : Page) (calls : List Call) (g : Page) → IsFailed page calls → is_lost calls g ≡ is_lost (without_last calls) g
failed_lost page [] g c = absurd c
failed_lost page (Room h b ∷ calls) g c = absurd c
failed_lost page (Put h rec b ∷ calls) g c = absurd c
failed_lost page (Got h gave ∷ calls) g c = refl

nothing_lost : (page : Page) (calls : List Call) (g : Page) → IsNothing page calls → is_lost calls g ≡ is_lost (without_last calls) g
nothing_lost page [] g c = absurd c
nothing_lost page (Room h b ∷ calls) g c = absurd c
nothing_lost page (Put h rec b ∷ calls) g c = absurd c
nothing_lost page (Got h gave ∷ calls) g c = refl

put_lost : (page : Page) (version : ℕ) (tag : List ℕ) (f : Frame) (calls : List Call) (g : Page) → IsPut (Moved page version tag) calls
    → is_lost calls g ≡ lost_by (Did (Ewb f) (Moved page version tag)) calls g (is_lost (without_last calls) g)
put_lost page version tag f [] g c = absurd c
put_lost page version tag f (Room h b ∷ calls) g c = absurd c
put_lost page version tag f (Put h rec b ∷ calls) g c = ap (λ x. if same_page x g then b else is_lost calls g) c.0
put_lost page version tag f (Got h gave ∷ calls) g c = absurd c

lost_is : (ev : Event) (calls : List Call) (g : Page) → ComesWith ev calls
    → is_lost calls g ≡ lost_by ev calls g (is_lost (before ev calls) g)
lost_is (Age page looks.NoRoom) calls g c = room_lost page true calls g c
lost_is (Age page looks.Taken) calls g c = room_lost page false calls g c
lost_is (Did (Ewb f) (Moved page version tag)) calls g c = put_lost page version tag f calls g c
lost_is (Did (Ewb f) answer) calls g c = absurd c
lost_is (Did (EldStart f page slot) answer) calls g c = given_lost page calls g c
lost_is (Refused (EldStart f page slot) refusal) calls g c = given_lost page calls g c
lost_is (Bus page reasons.GetFailed) calls g c = failed_lost page calls g c
lost_is (Bus page reasons.NoRecord) calls g c = nothing_lost page calls g c
lost_is ev calls g c = refl

-- ---- one entry more

pub tells_more : (key : List ℕ) (past : List Entry) (e : Entry) (calls : List Call) (d d' : Driver) → IsSound past → CanMove past e.event
    → LoadsAreTheirs past → TheirRule past e.actor e.event → ComesWith e.event calls
    → TellsOfStore key past (gift past (before e.event calls)) e.event calls → StoreMoves e calls d d'
    → TellsStore key past (before e.event calls) d → TellsStore key (e ∷ past) calls d'
tells_more key past e calls d d' s can theirs rule comes tells moves was = record {
  store = record { calls_are = (comes, was.store.calls_are); records = (tells, was.store.records) };
  gifts = λ p n page. by_actor p n page (is_by p e.actor) refl;
  lost = λ g placed.
      (let old : IsPlaced d.states.counts g = subst (λ counts. IsPlaced counts g) moves.counts placed in
      moves.lost g old ∙ ap (lost_by e.event calls g) (was.lost g old) ∙ sym (lost_is e.event calls g comes));
}
  where
    by_actor : (p n : ℕ) (page : Page) (b : Bool) → is_by p e.actor ≡ b
        → (if b then last_by e.event (open_start past) else last_of past p) ≡ Loads n page
        → record_kept (kept_at d'.kept p) ≡ gift_after e.event calls n (gift past (before e.event calls) n)
    by_actor p n page true is k =
        let start = start_is e.event (open_start past) n page k in
        moves.given p start.frame start.page start.slot start.answer is start.is
        ∙ rw start.is (rw (eq-eqb start.frame.0 n start.into) refl)
    by_actor p n page false is k =
        moves.others p is ∙ was.gifts p n page k ∙ sym (gift_stays past e calls p n page s can theirs rule is k)

-- before the first entry
pub tells_first : (key : List ℕ) (j : JobView) (d : Driver) → IsNew j d → TellsStore key [] [] d
tells_first key j d new = record {
  store = record { calls_are = refl; records = tt };
  gifts = λ p n page k. cc;
  lost = λ g placed.
      ap (λ s. is_lost_state (state_of s g)) new.states
      ∙ ap is_lost_state (all_same (total (job_counts j)) Absent (place_of (job_counts j) g));
}
