-- What the entry of a turn carries on.
use Rattle.std.specs.Prelude.{◌≡◌}
use Rattle.machine_laws.specs.inner.State.{State}
use Rattle.driver_tables.specs.inner.Carried.{Carries}
use Rattle.driver_reclaim.specs.declared.turns.PassTurn.{PassTurn}
use Rattle.driver_reclaim.specs.declared.turns.PassTurn.TheVariants as turns

-- by the entry of a turn. A turn of kicks leaves the machine as it was, and so does one that waits
abbrev pub TurnGoes : State → PassTurn → State → Type 0
TurnGoes s (turns.One e) t = Carries s e t
TurnGoes s (turns.Seal e) t = Carries s e t
TurnGoes s (turns.Spent e) t = Carries s e t
TurnGoes s _ t = t ≡ s
