-- The entry of a turn of a pass.
use Rattle.sgx_rules.specs.declared.entries.Entry.{Entry}
use Rattle.driver_reclaim.specs.declared.turns.PassTurn.{PassTurn}
use Rattle.driver_reclaim.specs.declared.turns.PassTurn.TheVariants as turns

-- a fact of the one entry that a turn made, if it made one
abbrev pub OfEntry : PassTurn → (Entry → Type 0) → Type 0
OfEntry (turns.One e) says = says e
OfEntry (turns.Seal e) says = says e
OfEntry (turns.Spent e) says = says e
OfEntry turn says = Unit {0}
