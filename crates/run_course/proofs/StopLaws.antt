-- A book that is not stopped answers no turn and no commit as stopped.
use Rattle.std.proofs.Common.{◌≡◌, Bool, true, false, if◌then◌else◌, Result, Ok, Err, IfOk, refl, sym, ◌∙◌}
use Rattle.std.proofs.lemmas.Bool.{false≢true}
use Rattle.sgx_types.specs.declared.names.Cpu.{Cpu}
use Rattle.sgx_types.specs.declared.names.Memory.{Memory}
use Rattle.run_course.specs.declared.turn.Turn.{Turn}
use Rattle.run_course.specs.declared.turn.Turn.TheVariants as turns
use Rattle.run_course.specs.inner.Views.{BookView, IsBuild, IsLoadEnd, IsOutEnd, IsReclaim, IsRun, is_stopped, tells_stop}

-- where neither of two is so, the first is not
pub first_false : (x y : Bool) → (if x then true else y) ≡ false → x ≡ false
first_false true y h = absurd (false≢true (sym h))
first_false false y h = refl

module _ (old new : BookView) (going : is_stopped old ≡ false) where
  going_by : (turn : Turn) → (turn ≡ turns.Stopped → is_stopped old ≡ true) → tells_stop turn ≡ is_stopped old
  going_by (turns.Did n) h = sym going
  going_by (turns.Seal work) h = sym going
  going_by (turns.Unseal work) h = sym going
  going_by (turns.Again why) h = sym going
  going_by turns.Finished h = sym going
  going_by turns.Stopped h = absurd (false≢true (sym going ∙ h refl))

  build_stops : (turn : Turn) → IsBuild old turn new → turn ≡ turns.Stopped → is_stopped old ≡ true
  build_stops turn is same = (rw same at is).0

  run_stops : (cpu : Cpu) (turn : Turn) → IsRun old cpu turn new → turn ≡ turns.Stopped → is_stopped old ≡ true
  run_stops cpu turn is same = (rw same at is).0

  reclaim_stops : (turn : Turn) → IsReclaim old turn new → turn ≡ turns.Stopped → is_stopped old ≡ true
  reclaim_stops turn is same = (rw same at is).0

  load_stops : (cpu : Cpu) (turn : Turn) → IsLoadEnd old cpu turn new → turn ≡ turns.Stopped → is_stopped old ≡ true
  load_stops cpu turn is same = (rw same at is).0

  out_stops : (turn : Turn) → IsOutEnd old turn new → turn ≡ turns.Stopped → is_stopped old ≡ true
  out_stops turn is same = (rw same at is).0

  pub build_goes : (r : Result Turn Memory) → IfOk r (λ turn. IsBuild old turn new) → IfOk r (λ turn. tells_stop turn ≡ is_stopped old)
  build_goes (Ok turn) is = going_by turn (build_stops turn is)
  build_goes (Err memory) is = tt

  pub run_goes : (cpu : Cpu) (r : Result Turn Memory) → IfOk r (λ turn. IsRun old cpu turn new)
      → IfOk r (λ turn. tells_stop turn ≡ is_stopped old)
  run_goes cpu (Ok turn) is = going_by turn (run_stops cpu turn is)
  run_goes cpu (Err memory) is = tt

  pub reclaim_goes : (r : Result Turn Memory) → IfOk r (λ turn. IsReclaim old turn new)
      → IfOk r (λ turn. tells_stop turn ≡ is_stopped old)
  reclaim_goes (Ok turn) is = going_by turn (reclaim_stops turn is)
  reclaim_goes (Err memory) is = tt

  pub load_goes : (cpu : Cpu) (turn : Turn) → IsLoadEnd old cpu turn new → tells_stop turn ≡ is_stopped old
  load_goes cpu turn is = going_by turn (load_stops cpu turn is)

  pub out_goes : (turn : Turn) → IsOutEnd old turn new → tells_stop turn ≡ is_stopped old
  out_goes turn is = going_by turn (out_stops turn is)
