-- When a turn is what the reclaimer does next.
use Rattle.std.specs.Prelude.{ℕ, zero, suc, ◌≡◌, ◌==◌, ◌+◌, ◌*◌, ◌^◌, ◌⊎◌, Bool, true, false}
use Rattle.std.specs.Prelude.{if◌then◌else◌, List, Some}
use Rattle.std.specs.List.{list_any}
use Rattle.sgx_rules.specs.declared.entries.Entry.{Entry}
use Rattle.sgx_rules.specs.declared.entries.Event.{Event}
use Rattle.sgx_rules.specs.declared.entries.Event.TheVariants.{Did, Refused, Age}
use Rattle.sgx_rules.specs.declared.entries.Look.{Look}
use Rattle.sgx_types.specs.declared.names.Actor.TheVariants as actors
use Rattle.sgx_rules.specs.declared.entries.Action.TheVariants.{Block, Track, EwbStart}
use Rattle.sgx_rules.specs.declared.entries.Answer.TheVariants as answers
use Rattle.sgx_types.specs.declared.names.Page.{Page}
use Rattle.sgx_types.specs.declared.names.SlotAt.{SlotAt}
use Rattle.sgx_types.specs.declared.names.VaSlot.{VaSlot}
use Rattle.sgx_types.specs.declared.names.TheConstants.{LAST_EPOCH}
use Rattle.sgx_types.specs.Pages.{is_own_page}
use Rattle.sgx_rules.specs.declared.refusals.Refusal.TheVariants as why
use Rattle.sgx_rules.specs.Epochs.{epoch, epoch_in}
use Rattle.sgx_rules.specs.Eviction.{is_drained, kept_back}
use Rattle.sgx_rules.specs.Frames.{content}
use Rattle.sgx_rules.specs.Starts.{slot_found}
use Rattle.sgx_types.specs.Making.{Making}
use Rattle.sgx_rules.specs.Slots.{next_version}
use Rattle.driver_slots.specs.inner.Keeper.{AllOut, IsLeast, Keeper, is_ours, is_out}
use Rattle.job_grammar.specs.Jobs.{JobView}
use Rattle.sgx_types.specs.Pages.{frame_at}
use Rattle.driver_rules.specs.Dues.{Due, KicksAll, LooksAt, Makes, TriesOut, Waits, is_look}
use Rattle.driver_rules.specs.inner.Slotted.{fixed_slot}
use Rattle.driver_rules.specs.declared.waits.Why.TheVariants as waits
use Rattle.driver_reclaim.specs.declared.turns.PassTurn.{PassTurn}
use Rattle.driver_reclaim.specs.declared.turns.PassTurn.TheVariants as turns

abbrev pub by_reclaimer : Event → Entry
by_reclaimer event = record { actor = actors.Reclaimer; event = event }

-- one bit for each of so many processors from a number on that pass
abbrev pub bits_from : (ℕ → Bool) → ℕ → ℕ → ℕ
bits_from test p zero = 0
bits_from test p (suc count) = (if test p then 1 else 0) + 2 * bits_from test (p + 1) count

-- one bit for each of these processors, the lowest for processor 0
abbrev pub bits_of : List ℕ → ℕ
bits_of ps = bits_from (λ p. list_any (λ q. q == p) ps) 0 16

-- a look at a page, which tells of it what is so
pub record AnswersLook (page : Page) (held young : Bool) (turn : PassTurn) : Type 0 where
  pub look : Look
  pub right : is_look held young look ≡ true
  pub told : turn ≡ turns.One (by_reclaimer (Age page look))

-- a track, or the last epoch
abbrev pub track_turn : ℕ → List Entry → ℕ → PassTurn
track_turn first past enclave =
    if epoch first past enclave == LAST_EPOCH then turns.Spent (by_reclaimer (Refused (Track enclave) why.EpochSpent))
    else turns.One (by_reclaimer (Did (Track enclave) answers.Plain))

-- a write-out of a frame starts into a slot, unless the last version was drawn
abbrev pub start_turn : Making → List Entry → ℕ → SlotAt → PassTurn
start_turn made past f at =
    if next_version made.first_version past == 2 ^ 64
    then turns.Spent (by_reclaimer (Refused (EwbStart (frame_at f) at) why.VersionSpent))
    else turns.Seal (by_reclaimer (Did (EwbStart (frame_at f) at) (answers.Version (next_version made.first_version past))))

-- a try: it starts where the page is drained, unless the slot holds a version, as one that a forged record brought back may
abbrev pub try_turn : Making → List Entry → ℕ → SlotAt → ℕ → PassTurn
try_turn made past f at version =
    if is_drained past f
    then (if version == 0 then start_turn made past f at
    else turns.One (by_reclaimer (Refused (EwbStart (frame_at f) at) (why.SlotOccupied version))))
    else turns.One
    (by_reclaimer (Refused (EwbStart (frame_at f) at) (why.NotTracked (epoch_in made.first_epoch past f) (kept_back past f))))

-- .. into the least slot that is not out
pub record AnswersTry (made : Making) (past : List Entry) (slots : Keeper) (f : ℕ) (turn : PassTurn) : Type 0 where
  pub slot : VaSlot
  pub ours : is_ours slots slot ≡ true
  pub free : is_out slots slot ≡ false
  pub least : IsLeast slots slot
  pub at : SlotAt
  pub named : slot_found (content past) at ≡ Some slot
  pub version : ℕ
  pub told : turn ≡ try_turn made past f at version

-- a SECS or version array page goes out into its own slot
pub record IsStart (made : Making) (j : JobView) (past : List Entry) (g : Page) (f : ℕ) (turn : PassTurn) : Type 0 where
  pub at : SlotAt
  pub named : slot_found (content past) at ≡ Some (fixed_slot j g)
  pub told : turn ≡ start_turn made past f at

abbrev pub IsTryOut : Making → JobView → List Entry → Keeper → Page → ℕ → Bool → PassTurn → Type 0
IsTryOut made j past slots g f true turn = AnswersTry made past slots f turn ⊎ (AllOut slots × (turn ≡ turns.Again waits.NoSlot))
IsTryOut made j past slots g f false turn = IsStart made j past g f turn

-- the turn is what is due
abbrev pub IsTurn : Making → JobView → List Entry → Keeper → Due → PassTurn → Type 0
IsTurn made j past slots (Waits why) turn = turn ≡ turns.Again why
IsTurn made j past slots (LooksAt page held young) turn = AnswersLook page held young turn
IsTurn made j past slots (Makes (Block f)) turn = turn ≡ turns.One (by_reclaimer (Did (Block f) answers.Plain))
IsTurn made j past slots (Makes (Track enclave)) turn = turn ≡ track_turn made.first_epoch past enclave
IsTurn made j past slots (TriesOut g f) turn = IsTryOut made j past slots g f (is_own_page g) turn
IsTurn made j past slots (KicksAll ps) turn = turn ≡ turns.Kicks (bits_of ps)
IsTurn made j past slots _ turn = ⊥
