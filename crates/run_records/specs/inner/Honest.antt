-- Entries over an honest store.
use Rattle.std.specs.Prelude.{List, Option, IfSome}
use Rattle.sgx_rules.specs.declared.entries.Entry.{Entry}
use Rattle.sgx_types.specs.Making.{Making}
use Rattle.backing_store.specs.Calls.{Call}
use Rattle.driver_faults.specs.declared.answers.FaultAnswer.{FaultAnswer}
use Rattle.driver_faults.specs.declared.answers.FaultAnswer.TheVariants as answers
use Rattle.sgx_machine.specs.inner.Parts.{Parts}
use Rattle.run_laws.specs.inner.Books.{IsHonestEntry}
use Rattle.history_rules.specs.Honest.{IsHonest}

-- where the store tells its calls, and they are those of an honest one, the book goes on to be honest with the entry
abbrev pub StaysHonest : Making → List Entry → Parts → Entry → Parts → Option (List Call) → Type 0
StaysHonest made past m e m' told = IfSome told (λ calls. IsHonest calls → IsHonestEntry made past m e m' calls)

-- .. and no such store told its calls
abbrev pub IsNeverHonest : Option (List Call) → Type 0
IsNeverHonest told = IfSome told (λ calls. IsHonest calls → ⊥)

-- a start of a load that was refused
abbrev pub IsRefusedStart : FaultAnswer → Type 0
IsRefusedStart (answers.Slot e) = Unit {0}
IsRefusedStart answer = ⊥
