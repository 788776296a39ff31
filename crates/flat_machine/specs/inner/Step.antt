-- One instruction of flat memory: its reply and the memory after it, exactly by its row.
use Rattle.std.specs.Prelude.{◌≡◌, ◌<◌, Bool, true, List, Option, Some, None, if◌then◌else◌}
use Rattle.sgx_types.specs.declared.names.Actor.{Actor}
use Rattle.sgx_types.specs.declared.names.Actor.TheVariants.{Cpu}
use Rattle.sgx_rules.specs.declared.entries.Action.{Action}
use Rattle.sgx_rules.specs.declared.entries.Action.TheVariants as actions
use Rattle.sgx_rules.specs.declared.entries.Answer.{Answer}
use Rattle.sgx_rules.specs.declared.refusals.Refusal.{Refusal}
use Rattle.sgx_rules.specs.declared.entries.AccessOp.{AccessOp}
use Rattle.sgx_rules.specs.declared.entries.AccessOp.TheVariants as accesses
use Rattle.sgx_types.specs.declared.names.Perm.{Perm}
use Rattle.sgx_types.specs.declared.names.TheConstants.{PROCESSORS}
use Rattle.sgx_types.specs.Cases.{first_of_row}
use Rattle.sgx_rules.specs.Table.{Row, allows_read, allows_update, allows_write}
use Rattle.sgx_rules.specs.Flat.{FlatMemory, is_processors, flat_cpu_row, flat_build_row, accepts, flat_answer, memory_after}
use Rattle.flat_machine.specs.declared.reply.FlatReply.{FlatReply}
use Rattle.flat_machine.specs.declared.reply.FlatReply.TheVariants.{Did, Refused}

-- a processor from 0 to 15
abbrev pub IsProcessor : Actor → Type 0
IsProcessor (Cpu p) = p.0 < PROCESSORS
IsProcessor _ = ⊥

-- an instruction of a processor is one of a processor from 0 to 15
abbrev pub IsItsActor : Actor → Action → Type 0
IsItsActor actor action = is_processors action ≡ true → IsProcessor actor

-- the instructions that may need memory
abbrev pub MayNeedMemory : Action → Type 0
MayNeedMemory (actions.Create enclave f base size) = Unit {0}
MayNeedMemory (actions.Add enclave number f kind perm init) = Unit {0}
MayNeedMemory _ = ⊥

-- the row of an instruction
abbrev pub flat_row : FlatMemory → Actor → Action → Row
flat_row m actor action = if is_processors action then by_cpu actor else flat_build_row m action
  where
    by_cpu : Actor → Row
    by_cpu (Cpu p) = flat_cpu_row m p.0 action
    by_cpu _ = flat_build_row m action

-- refused by a case that holds, else done with an answer
abbrev pub replied : Option Refusal → Answer → FlatReply
replied None answer = Did answer
replied (Some why) answer = Refused why

-- what flat memory replies
abbrev pub reply_of : FlatMemory → Actor → Action → FlatReply
reply_of m actor action = replied (first_of_row (flat_row m actor action)) (flat_answer m actor action)

-- an instruction that flat memory does not take changes nothing
abbrev pub step_of : FlatMemory → Actor → Action → FlatMemory
step_of m actor action = if accepts m actor action then memory_after actor action m else m

-- .. by the first case of its row that holds
abbrev pub taken : Option Refusal → FlatMemory → FlatMemory → FlatMemory
taken None after m = after
taken (Some why) after m = m

-- the permissions that a processor reaches a page with allow an access
abbrev pub allowed_by : AccessOp → Option Perm → Bool
allowed_by accesses.Load perm = allows_read perm
allowed_by accesses.Store perm = allows_write perm
allowed_by accesses.Xadd perm = allows_update perm
