-- What the entry of a turn keeps.
use Rattle.std.specs.Prelude.{ℕ, List}
use Rattle.sgx_types.specs.declared.names.Actor.TheVariants as actors
use Rattle.sgx_rules.specs.declared.entries.Entry.{Entry}
use Rattle.sgx_rules.specs.declared.entries.Event.{Event}
use Rattle.job_grammar.specs.Jobs.{JobView}
use Rattle.driver_rules.specs.Ages.{FormOf, KeptAgeRule}
use Rattle.driver_rules.specs.Passes.{pass}
use Rattle.driver_rules.specs.inner.Slotted.{SlotTells}
use Rattle.driver_laws.specs.inner.Kinds.{CanMove}
use Rattle.driver_laws.specs.inner.Tracks.{TryTells}
use Rattle.driver_pass.specs.inner.Standing.{TellsEpoch}
use Rattle.driver_reclaim.specs.declared.turns.PassTurn.{PassTurn}
use Rattle.driver_reclaim.specs.declared.turns.PassTurn.TheVariants as turns
use Rattle.driver_reclaim.specs.inner.Answers.{by_reclaimer}

-- an event of the reclaimer by the rules Age and Kick, which can move its page, tells of a try what is so, and names a slot as the driver
-- does
pub record KeepsReclaim (first : ℕ) (j : JobView) (past : List Entry) (event : Event) : Type 0 where
  pub age : KeptAgeRule j past (by_reclaimer event)
  pub form : FormOf past (pass j past) actors.Reclaimer event
  pub can : CanMove past event
  pub tells : TryTells past event
  pub epoch : TellsEpoch first past event
  pub slot : SlotTells j past event

abbrev pub TurnKeeps : ℕ → JobView → List Entry → PassTurn → Type 0
TurnKeeps first j past (turns.One e) = KeepsReclaim first j past e.event
TurnKeeps first j past (turns.Seal e) = KeepsReclaim first j past e.event
TurnKeeps first j past (turns.Spent e) = KeepsReclaim first j past e.event
TurnKeeps first j past _ = Unit {0}
