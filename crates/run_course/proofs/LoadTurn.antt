-- A processor's turn that makes an instruction.
use Rattle.std.proofs.Common.{◌≡◌, ℕ, zero, false, ◌++◌, All, List, [], ◌∷◌, Option, length, refl, subst, sym, arith}
use Rattle.std.specs.Prelude.{IfOk, OnErr, Result, Ok, Err}
use Rattle.backing_store.specs.Calls.{Call}
use Rattle.job_grammar.specs.Jobs.{JobView}
use Rattle.driver_rules.specs.Dues.{IsNext, Makes}
use Rattle.driver_rules.specs.Scripts.{ScriptRule}
use Rattle.sgx_rules.specs.Rules.{Along}
use Rattle.sgx_rules.specs.declared.entries.Action.{Action}
use Rattle.sgx_rules.specs.declared.entries.Entry.{Entry}
use Rattle.sgx_rules.specs.declared.entries.Event.{Event}
use Rattle.sgx_rules.specs.declared.entries.Event.TheVariants.{Did, Refused, Age, Kick, Bus}
use Rattle.sgx_types.specs.declared.names.Actor.TheVariants as actors
use Rattle.sgx_types.specs.declared.names.Cpu.{Cpu}
use Rattle.sgx_types.specs.declared.names.Memory.{Memory}
use Rattle.run_course.specs.declared.course.Course.{Course}
use Rattle.run_course.specs.declared.turn.Turn.{Turn}
use Rattle.run_course.specs.declared.turn.Turn.TheVariants as turns
use Rattle.driver_rules.specs.inner.Stops.{started}
use Rattle.run_course.specs.inner.Courses.{Grows, IsSame, KeepsCourse, past_of}
use Rattle.run_course.specs.inner.Turns.{CanInstruct, IsCpuTurn, RunsBy, RunsMany}
use Rattle.run_course.proofs.SameLaws.{same_keeps}

-- an instruction is the only entry of its turn
runs_by : (action : Action) (event : Event) → IsNext (Makes action) event → RunsBy 1 event
runs_by action (Did a answer) h = refl
runs_by action (Refused a refusal) h = refl
runs_by action (Age page look) h = refl
runs_by action (Kick cpu) h = refl
runs_by action (Bus page reason) h = cc

runs_one : (c new : Course) (cpu : Cpu) (action : Action) (told : Option (List Call)) (spare : ℕ) → CanInstruct c (actors.Cpu cpu) action
    → Grows c (actors.Cpu cpu) 1 new told spare → RunsMany 1 (past_of new)
runs_one c new cpu action told spare can g = by_entries g.entries g.count g.actors g.past
  where
    next : (e : Entry) → e.actor ≡ actors.Cpu cpu → ScriptRule c.job (past_of c) e → IsNext (Makes action) e.event
    next e by rule =
        let own = subst (λ a. ScriptRule c.job (past_of c) (record { actor = a; event = e.event })) by rule in
        subst (λ due. IsNext due e.event) can.due.1 own.next.1

    by_entries : (es : List Entry) → length es ≡ 1 → All (λ (e : Entry). e.actor ≡ actors.Cpu cpu) es → past_of new ≡ es ++ past_of c
        → RunsMany 1 (past_of new)
    by_entries [] one actors past = cc
    by_entries (e ∷ []) one actors past =
        subst (RunsMany 1) (sym past)
        (runs_by action e.event (next e (actors zero e (omega arith))
        (subst (Along (ScriptRule c.job)) past (subst (λ (j : JobView). Along (ScriptRule j) (past_of new)) g.job g.keeps.book.script)).0))
    by_entries (e ∷ e' ∷ es) one actors past = absurd (omega (arith, one))

-- its answer is one entry
pub made_turn : (c new : Course) (cpu : Cpu) (action : Action) (r : Result Turn Memory) (can : CanInstruct c (actors.Cpu cpu) action)
    → IfOk r (λ turn. turn ≡ turns.Did 1)
    → IfOk r (λ turn. (k : CanInstruct c (actors.Cpu cpu) action) → Grows c (actors.Cpu cpu) 1 new k.told k.spare)
    → IfOk r (λ turn. CanInstruct c (actors.Cpu cpu) action → started (past_of new) (actors.Cpu cpu) ≡ false)
    → IfOk r (λ turn. IsCpuTurn c cpu turn new can.told can.spare)
made_turn c new cpu action (Ok turn) can one grows quiet =
    subst (λ t. IsCpuTurn c cpu t new can.told can.spare) (sym one)
    (runs_one c new cpu action can.told can.spare can (grows can), quiet can, grows can)
made_turn c new cpu action (Err memory) can one grows quiet = tt

-- .. and what holds before it holds behind it
pub made_keeps : (c new : Course) (cpu : Cpu) (action : Action) (r : Result Turn Memory) (can : CanInstruct c (actors.Cpu cpu) action)
    → IfOk r (λ turn. (k : CanInstruct c (actors.Cpu cpu) action) → Grows c (actors.Cpu cpu) 1 new k.told k.spare)
    → OnErr r (IsSame c new) → KeepsCourse new can.told can.spare
made_keeps c new cpu action (Ok turn) can grows same = (grows can).keeps
made_keeps c new cpu action (Err memory) can grows same = same_keeps c new can.told can.spare same can.keeps
