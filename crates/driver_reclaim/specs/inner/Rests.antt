-- Which turns wait.
use Rattle.driver_reclaim.specs.declared.turns.PassTurn.{PassTurn}
use Rattle.driver_reclaim.specs.declared.turns.PassTurn.TheVariants as turns

-- a turn that waits
abbrev pub IsWait : PassTurn → Type 0
IsWait (turns.Again why) = Unit {0}
IsWait _ = ⊥
