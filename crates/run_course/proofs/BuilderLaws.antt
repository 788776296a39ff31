-- The turns of the builder.
use Rattle.std.proofs.Common.{Result, Ok, Err, IfOk, subst, ◌≡◌, refl, sym}
use Rattle.sgx_rules.specs.declared.entries.Action.{Action}
use Rattle.sgx_types.specs.declared.names.Actor.TheVariants as actors
use Rattle.sgx_types.specs.declared.names.Memory.{Memory}
use Rattle.driver_rules.specs.Dues.{Makes}
use Rattle.driver_rules.specs.Turns.{builder_due}
use Rattle.run_course.specs.declared.course.Course.{Course}
use Rattle.run_course.specs.declared.turn.Turn.{Turn}
use Rattle.run_course.specs.declared.turn.Turn.TheVariants as turns
use Rattle.run_course.specs.inner.Courses.{Grows, past_of}
use Rattle.run_course.specs.inner.Turns.{CanInstruct, CanTurn, IsBuilderTurn}

-- an instruction was done for it
pub builder_made : (c new : Course) (action : Action) (r : Result Turn Memory) → (CanTurn c → builder_due c.job (past_of c) ≡ Makes action)
    → IfOk r (λ turn. turn ≡ turns.Did 1)
    → IfOk r (λ turn. (can : CanInstruct c actors.Builder action) → Grows c actors.Builder 1 new can.told can.spare)
    → IfOk r (λ turn. (can : CanTurn c) → IsBuilderTurn c turn new can.told can.spare)
builder_made c new action (Ok turn) due one more = λ can.
    subst (λ t. IsBuilderTurn c t new can.told can.spare) (sym one)
    (refl, more (record { told = can.told; spare = can.spare; keeps = can.keeps; due = due can }))
builder_made c new action (Err memory) due one more = tt
