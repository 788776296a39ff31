-- Entries that tell nothing of a record and build no enclave, and answers without an entry.
use Rattle.std.specs.Prelude.{ℕ, ◌≡◌, false, List, Option}
use Rattle.sgx_rules.specs.declared.entries.BusWhy.TheVariants as reasons
use Rattle.sgx_rules.specs.declared.entries.Entry.{Entry}
use Rattle.sgx_types.specs.declared.names.Cpu.{Cpu}
use Rattle.sgx_types.specs.declared.names.Page.{Page}
use Rattle.sgx_types.specs.Sealed.{Sealed}
use Rattle.backing_store.specs.Calls.{Call}
use Rattle.history_rules.specs.Stored.{TellsOfStore}
use Rattle.run_calls.specs.inner.Comes.{bus_of}
use Rattle.driver_faults.specs.declared.answers.FaultAnswer.{FaultAnswer}
use Rattle.driver_faults.specs.declared.answers.FaultAnswer.TheVariants as answers
use Rattle.driver_faults.specs.declared.answers.Loaded.{Loaded}
use Rattle.driver_faults.specs.declared.answers.Loaded.TheVariants as ends
use Rattle.driver_reclaim.specs.declared.turns.PassTurn.{PassTurn}
use Rattle.driver_reclaim.specs.declared.turns.PassTurn.TheVariants as turns
use Rattle.run_records.specs.inner.Builds.{is_building}

-- it tells nothing of a record, and builds no enclave
pub record IsSilent (e : Entry) : Type 0 where
  pub building : is_building e.event ≡ false
  pub tells : (key : List ℕ) (past : List Entry) (gifts : ℕ → Option Sealed) (calls : List Call) → TellsOfStore key past gifts e.event calls

-- the answer of a fault step has no entry
abbrev pub HasNoEntry : FaultAnswer → Type 0
HasNoEntry (answers.Started e work) = ⊥
HasNoEntry (answers.Slot e) = ⊥
HasNoEntry (answers.Bus why) = ⊥
HasNoEntry answer = Unit {0}

-- a fact of the refused start of a load, and of the bus behind it
abbrev pub OfSlot : Cpu → Page → FaultAnswer → (Entry → Entry → Type 0) → Type 0
OfSlot cpu page (answers.Slot e) says = says e (bus_of cpu page reasons.Slot)
OfSlot cpu page answer says = Unit {0}

-- a turn of a pass has no entry of the reclaimer
abbrev pub MakesNoEntry : PassTurn → Type 0
MakesNoEntry (turns.One e) = ⊥
MakesNoEntry (turns.Seal e) = ⊥
MakesNoEntry (turns.Spent e) = ⊥
MakesNoEntry turn = Unit {0}

-- a fact of the entry by which a load was refused, and of the bus behind it
abbrev pub OfBus : Cpu → Page → Loaded → (Entry → Entry → Type 0) → Type 0
OfBus cpu page (ends.Here e) says = Unit {0}
OfBus cpu page (ends.Bus e why) says = says e (bus_of cpu page why)
