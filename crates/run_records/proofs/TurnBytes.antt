-- The entry of a turn of a pass, and that of an instruction, is no done write-out, so it carries the standing on by its own clause.
use Rattle.std.proofs.Common.{◌≡◌, ◌==◌, ◌^◌, inl, inr, ℕ, Bool, true, false, if◌then◌else◌, refl, sym, subst, List}
use Rattle.sgx_rules.specs.declared.entries.Action.TheVariants.{Block, Track, EwbStart}
use Rattle.sgx_rules.specs.declared.entries.Answer.TheVariants as answers
use Rattle.sgx_rules.specs.declared.entries.Entry.{Entry}
use Rattle.sgx_rules.specs.declared.entries.Event.TheVariants.{Did, Refused}
use Rattle.sgx_types.specs.declared.names.SlotAt.{SlotAt}
use Rattle.sgx_types.specs.declared.names.Page.{Page}
use Rattle.sgx_types.specs.Pages.{is_own_page}
use Rattle.sgx_types.specs.declared.names.TheConstants.{LAST_EPOCH}
use Rattle.sgx_rules.specs.declared.refusals.Refusal.TheVariants as why
use Rattle.sgx_rules.specs.Epochs.{epoch, epoch_in}
use Rattle.sgx_rules.specs.Eviction.{is_drained, kept_back}
use Rattle.sgx_types.specs.Making.{Making}
use Rattle.sgx_rules.specs.Slots.{next_version}
use Rattle.job_grammar.specs.Jobs.{JobView}
use Rattle.backing_store.specs.Calls.{Call}
use Rattle.sgx_machine.specs.inner.Parts.{Parts, state_of}
use Rattle.driver_slots.specs.inner.Keeper.{Keeper}
use Rattle.sgx_types.specs.Pages.{frame_at}
use Rattle.driver_rules.specs.Dues.{Due, KicksAll, LooksAt, Makes, TriesOut, Waits}
use Rattle.driver_reclaim.specs.declared.turns.PassTurn.{PassTurn}
use Rattle.driver_reclaim.specs.declared.turns.PassTurn.TheVariants as turns
use Rattle.driver_reclaim.specs.inner.Answers.{by_reclaimer, IsTryOut, IsTurn, start_turn, track_turn, try_turn}
use Rattle.driver_reclaim.specs.inner.Going.{TurnGoes}
use Rattle.run_laws.specs.inner.Books.{CarriesBytes}
use Rattle.run_laws.specs.inner.Turns.{OfEntry}
use Rattle.run_records.specs.inner.Records.{writes_out}
use Rattle.run_records.proofs.StepBytes.{step_bytes}

-- ---- which entry a turn made

module _ (made : Making) (j : JobView) (past : List Entry) (slots : Keeper) (turn : PassTurn) where
  abbrev Quiet : PassTurn → Type 0
  Quiet t = OfEntry t (λ e. writes_out e.event ≡ false)

  told : (to : PassTurn) → turn ≡ to → Quiet to → Quiet turn
  told to is quiet = subst Quiet (sym is) quiet

  track_quiet : (enclave : ℕ) → Quiet (track_turn made.first_epoch past enclave)
  track_quiet enclave = by_last (epoch made.first_epoch past enclave == LAST_EPOCH)
    where
      by_last : (b : Bool) → Quiet (if b then turns.Spent (by_reclaimer (Refused (Track enclave) why.EpochSpent))
          else turns.One (by_reclaimer (Did (Track enclave) answers.Plain)))
      by_last true = refl
      by_last false = refl

  start_quiet : (f : ℕ) (at : SlotAt) → Quiet (start_turn made past f at)
  start_quiet f at = by_spent (next_version made.first_version past == 2 ^ 64)
    where
      by_spent : (v : Bool) → Quiet (if v then turns.Spent (by_reclaimer (Refused (EwbStart (frame_at f) at) why.VersionSpent))
          else turns.Seal
          (by_reclaimer (Did (EwbStart (frame_at f) at) (answers.Version (next_version made.first_version past)))))
      by_spent true = refl
      by_spent false = refl

  try_quiet : (f : ℕ) (at : SlotAt) (version : ℕ) → Quiet (try_turn made past f at version)
  try_quiet f at version = by_drain (is_drained past f) (version == 0)
    where
      by_drain : (b v : Bool) → Quiet (if b
          then (if v then start_turn made past f at
          else turns.One (by_reclaimer (Refused (EwbStart (frame_at f) at) (why.SlotOccupied version))))
          else turns.One (by_reclaimer (Refused (EwbStart (frame_at f) at)
          (why.NotTracked (epoch_in made.first_epoch past f) (kept_back past f)))))
      by_drain true true = start_quiet f at
      by_drain true false = refl
      by_drain false v = refl

  out_quiet : (g : Page) (f : ℕ) (b : Bool) → IsTryOut made j past slots g f b turn → Quiet turn
  out_quiet g f true (inl k) = told _ k.told (try_quiet f k.at k.version)
  out_quiet g f true (inr k) = told _ k.1 tt
  out_quiet g f false k = told _ k.told (start_quiet f k.at)

  turn_quiet : (due : Due) → IsTurn made j past slots due turn → Quiet turn
  turn_quiet (Waits reason) k = told _ k tt
  turn_quiet (LooksAt page held young) k = told _ k.told refl
  turn_quiet (Makes (Block f)) k = told _ k refl
  turn_quiet (Makes (Track enclave)) k = told _ k (track_quiet enclave)
  turn_quiet (TriesOut g f) k = out_quiet g f (is_own_page g) k
  turn_quiet (KicksAll ps) k = told _ k tt
  turn_quiet due k = absurd k

-- ---- the entry carries the standing on

pub turn_bytes : (made : Making) (j : JobView) (past : List Entry) (m m' : Parts) (slots : Keeper) (due : Due) (turn : PassTurn)
    → IsTurn made j past slots due turn → TurnGoes (state_of m) turn (state_of m')
    → OfEntry turn (λ e. (longer : List Call) → CarriesBytes made j past m e m' longer)
turn_bytes made j past m m' slots due turn is = by_turn turn (turn_quiet made j past slots turn due is)
  where
    by_turn : (t : PassTurn) → OfEntry t (λ e. writes_out e.event ≡ false) → TurnGoes (state_of m) t (state_of m')
        → OfEntry t (λ e. (longer : List Call) → CarriesBytes made j past m e m' longer)
    by_turn (turns.One e) quiet goes = λ longer. step_bytes made j past m m' e longer goes quiet
    by_turn (turns.Seal e) quiet goes = λ longer. step_bytes made j past m m' e longer goes quiet
    by_turn (turns.Spent e) quiet goes = λ longer. step_bytes made j past m m' e longer goes quiet
    by_turn (turns.Kicks bits) quiet goes = tt
    by_turn (turns.Again reason) quiet goes = tt
