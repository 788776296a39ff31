-- An epoch or a version is refused only where it is used up.
use Rattle.std.proofs.Common.{◌≡◌, ◌==◌, ◌^◌, inl, inr, ℕ, Bool, true, false, if◌then◌else◌, refl, sym, subst}
use Rattle.std.proofs.Common.{List, [], ◌∷◌, Option, Some, None, MatchOption, is_some}
use Rattle.std.proofs.lemmas.Bool.{eqb-true, false≢true}
use Rattle.sgx_rules.specs.declared.entries.Action.{Action}
use Rattle.sgx_rules.specs.declared.entries.Action.TheVariants.{Add, Block, EwbStart, Fill, Init, Track}
use Rattle.sgx_types.specs.declared.names.Actor.{Actor}
use Rattle.sgx_types.specs.declared.names.Actor.TheVariants as actors
use Rattle.sgx_rules.specs.declared.entries.Answer.TheVariants as answers
use Rattle.sgx_rules.specs.declared.entries.Entry.{Entry}
use Rattle.sgx_rules.specs.declared.entries.Event.{Event}
use Rattle.sgx_rules.specs.declared.entries.Event.TheVariants.{Did, Refused}
use Rattle.sgx_rules.specs.declared.refusals.Refusal.{Refusal}
use Rattle.sgx_rules.specs.declared.refusals.Refusal.TheVariants as why
use Rattle.sgx_types.specs.Pages.{is_own_page, page_at}
use Rattle.sgx_types.specs.declared.names.Page.{Page}
use Rattle.sgx_types.specs.declared.names.SlotAt.{SlotAt}
use Rattle.sgx_types.specs.declared.names.TheConstants.{LAST_EPOCH}
use Rattle.sgx_rules.specs.Epochs.{epoch, epoch_in}
use Rattle.sgx_rules.specs.Eviction.{is_drained, kept_back}
use Rattle.sgx_rules.specs.Flat.{enclave_sight_of}
use Rattle.sgx_rules.specs.Slots.{next_version}
use Rattle.sgx_types.specs.Cases.{Case, first_of_row}
use Rattle.sgx_rules.specs.Table.{EnclaveSight, Row, add_row, fill_row, init_row}
use Rattle.job_grammar.specs.Jobs.{JobView}
use Rattle.script_rules.specs.Machines.{machine_of}
use Rattle.sgx_types.specs.Pages.{frame_at}
use Rattle.driver_slots.specs.inner.Keeper.{Keeper}
use Rattle.machine_laws.specs.inner.State.{State, row_of, seat_enclave, secs_sight, sight}
use Rattle.machine_laws.specs.inner.Steps.{IsDone, IsStep, refused_by}
use Rattle.driver_rules.specs.Dues.{Due, KicksAll, LooksAt, Makes, TriesOut, Waits}
use Rattle.driver_rules.specs.Stops.{is_last_refusal, spends}
use Rattle.driver_rules.specs.inner.Reclaims.{is_refused}
use Rattle.driver_reclaim.specs.declared.turns.PassTurn.{PassTurn}
use Rattle.driver_reclaim.specs.declared.turns.PassTurn.TheVariants as turns
use Rattle.driver_reclaim.specs.inner.Answers.{IsTryOut, IsTurn, by_reclaimer, start_turn, track_turn, try_turn}
use Rattle.run_laws.specs.inner.Turns.{OfEntry}
use Rattle.due_notes.proofs.EntryLaws.{IsEntryOf, entry_by, is_init}
use Rattle.due_notes.specs.inner.Plain.{is_plain}
use Rattle.driver_rules.specs.Spent.{IsUsedUp}

-- ---- rows that tell of no last number

abbrev is_calm : Row → Bool
is_calm [] = true
is_calm (c ∷ cases) = if is_last_refusal c.why then false else is_calm cases

into_some : (a b : Refusal) → Some a ≡ Some b → a ≡ b
into_some a b is = cc

calm_holds : (c : Case Refusal) (rest : Option Refusal) (r : Refusal) (x : Bool) → is_last_refusal c.why ≡ false
    → (rest ≡ Some r → is_last_refusal r ≡ false) → (if x then Some c.why else rest) ≡ Some r → is_last_refusal r ≡ false
calm_holds c rest r true same other at = subst (λ w. is_last_refusal w ≡ false) (into_some c.why r at) same
calm_holds c rest r false same other at = other at

calm_more : (b : Bool) (cases : Row) → (if b then false else is_calm cases) ≡ true → (b ≡ false) × (is_calm cases ≡ true)
calm_more true cases h = absurd (false≢true h)
calm_more false cases h = (refl, h)

calm_first : (cases : Row) (r : Refusal) → is_calm cases ≡ true → first_of_row cases ≡ Some r → is_last_refusal r ≡ false
calm_first [] r h is = cc
calm_first (c ∷ cases) r h is =
    let both = calm_more (is_last_refusal c.why) cases h in
    calm_holds c (first_of_row cases) r c.holds both.0 (calm_first cases r both.1) is

-- those of all instructions but `track` and the start of EWB
abbrev draws : Action → Bool
draws (Track enclave) = true
draws (EwbStart f slot) = true
draws action = false

calm_row : (s : State) (a : Actor) (action : Action) → draws action ≡ false → is_calm (row_of s a action) ≡ true
calm_row s a (Track enclave) h = absurd (false≢true (sym h))
calm_row s a (EwbStart f slot) h = absurd (false≢true (sym h))
calm_row s a (Add enclave number f kind perm init) h = by_enclave (enclave_sight_of (s.enclaves enclave))
  where
    by_enclave : (o : Option EnclaveSight)
        → is_calm (add_row number kind perm init o (secs_sight s enclave) (is_some (s.added (page_at enclave number))) (sight s f.0)) ≡ true
    by_enclave None = refl
    by_enclave (Some x) = refl
calm_row s a (Init enclave expect) h = by_enclave (enclave_sight_of (s.enclaves enclave))
  where
    by_enclave : (o : Option EnclaveSight) → is_calm (init_row o (secs_sight s enclave)) ≡ true
    by_enclave None = refl
    by_enclave (Some x) = refl
calm_row s (actors.Cpu p) (Fill number f) h = by_seat (seat_enclave (s.inside p.0))
  where
    by_seat : (o : Option ℕ) → is_calm (fill_row number o (sight s f.0)) ≡ true
    by_seat None = refl
    by_seat (Some x) = refl
calm_row s (actors.Cpu p) action h = refl
calm_row s actors.Builder action h = refl
calm_row s actors.Reclaimer action h = refl

-- ---- the entry of a step

other_calm : (s t : State) (a : Actor) (action : Action) (e : Entry) → is_init action ≡ false → draws action ≡ false
    → IsStep s a action e t → spends e.event ≡ false
other_calm s t a action e other calm is = by_entry (entry_by s t a action e is)
  where
    by_entry : IsEntryOf s a action e → spends e.event ≡ false
    by_entry (inl k) = rw k.is refl
    by_entry (inr k) = rw k.is (calm_first (row_of s a action) k.refusal (calm_row s a action calm) (k.row other))

init_calm : (s t : State) (a : Actor) (enclave : ℕ) (expect : Option (List ℕ)) (e : Entry) → IsStep s a (Init enclave expect) e t
    → spends e.event ≡ false
init_calm s t a enclave expect e = by_row (first_of_row (row_of s a (Init enclave expect))) refl
  where
    by_row : (o : Option Refusal) → first_of_row (row_of s a (Init enclave expect)) ≡ o
        → MatchOption o (IsDone s a (Init enclave expect) e t) (λ refusal. (e ≡ refused_by a (Init enclave expect) refusal) × (t ≡ s))
        → spends e.event ≡ false
    by_row None at k = elim k.judged [
      | inl x ↦ rw x.1 refl
      | inr x ↦ rw x.1 refl
    ]
    by_row (Some refusal) at k =
        rw k.0 (calm_first (row_of s a (Init enclave expect)) refusal (calm_row s a (Init enclave expect) refl) at)

pub step_calm : (s t : State) (a : Actor) (action : Action) (e : Entry) → draws action ≡ false → IsStep s a action e t
    → spends e.event ≡ false
step_calm s t a (Init enclave expect) e calm is = init_calm s t a enclave expect e is
step_calm s t a action e calm is = other_calm s t a action e refl calm is

-- a plain instruction draws no number
pub plain_draws : (action : Action) → is_plain action ≡ true → draws action ≡ false
plain_draws (Track enclave) h = absurd (false≢true h)
plain_draws (EwbStart f slot) h = absurd (false≢true h)
plain_draws action h = refl

-- ---- other entries

pub done_calm : (event : Event) → is_refused event ≡ false → spends event ≡ false
done_calm (Refused action refusal) h = absurd (false≢true (sym h))
done_calm event h = refl

pub used_calm : (j : JobView) (past : List Entry) (event : Event) → spends event ≡ false → IsUsedUp j past event
used_calm j past (Refused (Track enclave) why.EpochSpent) h = absurd (false≢true (sym h))
used_calm j past (Refused (EwbStart f slot) why.VersionSpent) h = absurd (false≢true (sym h))
used_calm j past event h = h

-- ---- the reclaimer's turns

module _ (j : JobView) (past : List Entry) (slots : Keeper) (turn : PassTurn) where
  said : (to : PassTurn) → turn ≡ to → OfEntry to (λ e. IsUsedUp j past e.event) → OfEntry turn (λ e. IsUsedUp j past e.event)
  said to is = subst (λ t. OfEntry t (λ e. IsUsedUp j past e.event)) (sym is)

  track_used : (enclave : ℕ) → OfEntry (track_turn j.start_epoch past enclave) (λ e. IsUsedUp j past e.event)
  track_used enclave = by_last (epoch j.start_epoch past enclave == LAST_EPOCH) refl
    where
      by_last : (b : Bool) → (epoch j.start_epoch past enclave == LAST_EPOCH) ≡ b
          → OfEntry (if b then turns.Spent (by_reclaimer (Refused (Track enclave) why.EpochSpent))
          else turns.One (by_reclaimer (Did (Track enclave) answers.Plain))) (λ e. IsUsedUp j past e.event)
      by_last true is = eqb-true (epoch j.start_epoch past enclave) LAST_EPOCH is
      by_last false is = refl

  start_used : (f : ℕ) (at : SlotAt) → OfEntry (start_turn (machine_of j) past f at) (λ e. IsUsedUp j past e.event)
  start_used f at = by_last (next_version j.start_version past == 2 ^ 64) refl
    where
      by_last : (b : Bool) → (next_version j.start_version past == 2 ^ 64) ≡ b
          → OfEntry (if b then turns.Spent (by_reclaimer (Refused (EwbStart (frame_at f) at) why.VersionSpent))
          else turns.Seal (by_reclaimer (Did (EwbStart (frame_at f) at) (answers.Version (next_version j.start_version past)))))
          (λ e. IsUsedUp j past e.event)
      by_last true is = eqb-true (next_version j.start_version past) (2 ^ 64) is
      by_last false is = refl

  try_used : (f : ℕ) (at : SlotAt) (version : ℕ) → OfEntry (try_turn (machine_of j) past f at version) (λ e. IsUsedUp j past e.event)
  try_used f at version = by_drain (is_drained past f) (version == 0)
    where
      by_drain : (b v : Bool) → OfEntry (if b
          then (if v then start_turn (machine_of j) past f at
          else turns.One (by_reclaimer (Refused (EwbStart (frame_at f) at) (why.SlotOccupied version))))
          else turns.One (by_reclaimer (Refused (EwbStart (frame_at f) at)
          (why.NotTracked (epoch_in j.start_epoch past f) (kept_back past f))))) (λ e. IsUsedUp j past e.event)
      by_drain true true = start_used f at
      by_drain true false = refl
      by_drain false v = refl

  out_used : (g : Page) (f : ℕ) (own : Bool) → IsTryOut (machine_of j) j past slots g f own turn
      → OfEntry turn (λ e. IsUsedUp j past e.event)
  out_used g f true (inl k) = said _ k.told (try_used f k.at k.version)
  out_used g f true (inr k) = said _ k.1 tt
  out_used g f false k = said _ k.told (start_used f k.at)

  pub turn_used : (due : Due) → IsTurn (machine_of j) j past slots due turn → OfEntry turn (λ e. IsUsedUp j past e.event)
  turn_used (Waits reason) k = said _ k tt
  turn_used (LooksAt page held young) k = said _ k.told refl
  turn_used (Makes (Block f)) k = said _ k refl
  turn_used (Makes (Track enclave)) k = said _ k (track_used enclave)
  turn_used (TriesOut g f) k = out_used g f (is_own_page g) k
  turn_used (KicksAll ps) k = said _ k tt
  turn_used due k = absurd k
