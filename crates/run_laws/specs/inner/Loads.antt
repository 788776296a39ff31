-- The entries of a fault step.
use Rattle.std.specs.Prelude.{List, ◌∷◌}
use Rattle.sgx_rules.specs.declared.entries.Entry.{Entry}
use Rattle.sgx_types.specs.declared.names.Cpu.{Cpu}
use Rattle.sgx_types.specs.declared.names.Page.{Page}
use Rattle.sgx_types.specs.Making.{Making}
use Rattle.machine_laws.specs.inner.Shape.{FitsApart, ShapeWithRules}
use Rattle.sgx_machine.specs.inner.Parts.{Parts, state_of}
use Rattle.run_calls.specs.inner.Comes.{bus_of}
use Rattle.driver_faults.specs.declared.answers.FaultAnswer.{FaultAnswer}
use Rattle.driver_faults.specs.declared.answers.FaultAnswer.TheVariants as answers
use Rattle.driver_faults.specs.declared.answers.Loaded.{Loaded}
use Rattle.driver_faults.specs.declared.answers.Loaded.TheVariants as ends

-- a fact of the entry of an answer, if it has one
abbrev pub OfAnswer : Cpu → Page → FaultAnswer → (Entry → Type 0) → Type 0
OfAnswer cpu page (answers.Started e work) says = says e
OfAnswer cpu page (answers.Slot e) says = says e
OfAnswer cpu page (answers.Bus why) says = says (bus_of cpu page why)
OfAnswer cpu page answer says = Unit {0}

-- the machine goes on with an entry of no instruction
pub record GoesOnWith (made : Making) (past : List Entry) (e : Entry) (m : Parts) : Type 0 where
  pub shape : ShapeWithRules made (state_of m) (e ∷ past)
  pub fits : FitsApart made.frames (e ∷ past)

-- the entry by which a load ended
abbrev pub entry_in : Loaded → Entry
entry_in (ends.Here e) = e
entry_in (ends.Bus e why) = e
