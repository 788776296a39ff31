-- The end of a load is that of the page's frame, slot and record.
use Rattle.std.proofs.Common.{◌≡◌, Option, None, Some, sym, ap, subst, ◌∙◌}
use Rattle.sgx_types.specs.declared.names.Cpu.{Cpu}
use Rattle.sgx_types.specs.declared.names.Frame.{Frame}
use Rattle.sgx_types.specs.declared.names.Page.{Page}
use Rattle.sgx_types.specs.declared.names.VaSlot.{VaSlot}
use Rattle.sgx_types.specs.Sealed.{Sealed}
use Rattle.driver_list.specs.inner.Keeping.{kept_at, record_kept}
use Rattle.driver_list.specs.inner.States.{state_of as page_state}
use Rattle.driver_list.specs.declared.page_states.PageState.{PageState}
use Rattle.driver_list.specs.declared.page_states.PageState.TheVariants.{Loading}
use Rattle.machine_laws.specs.inner.State.{State}
use Rattle.sgx_machine.specs.inner.Parts.{Parts}
use Rattle.driver_tables.specs.declared.driver.Driver.{Driver}
use Rattle.driver_faults.specs.declared.answers.Loaded.{Loaded}
use Rattle.driver_faults.specs.inner.Finishing.{CanFinish, IsFinished}

abbrev frame_or : Frame → PageState → Frame
frame_or other (Loading frame slot) = frame
frame_or other state = other

abbrev slot_or : VaSlot → PageState → VaSlot
slot_or other (Loading frame slot) = slot
slot_or other state = other

abbrev record_or : Sealed → Option Sealed → Sealed
record_or other None = other
record_or other (Some rec) = rec

pub finished_as : (cpu : Cpu) (page : Page) (d d' : Driver) (m : Parts) (s t : State) (loaded : Loaded) (can : CanFinish cpu page d m)
    (frame : Frame) (slot : VaSlot) (rec : Sealed) → page_state d.states page ≡ Loading frame slot
    → record_kept (kept_at d.kept cpu.0) ≡ Some rec → IsFinished cpu page slot frame rec d s loaded d' t
    → IsFinished cpu page can.slot can.frame can.kept d s loaded d' t
finished_as cpu page d d' m s t loaded can frame slot rec loading copy is =
    subst (λ r. IsFinished cpu page can.slot can.frame r d s loaded d' t) (ap (record_or rec) (sym copy ∙ ap record_kept can.copy))
    (subst (λ f. IsFinished cpu page can.slot f rec d s loaded d' t) (ap (frame_or frame) same)
    (subst (λ x. IsFinished cpu page x frame rec d s loaded d' t) (ap (slot_or slot) same) is))
  where
    same : Loading frame slot ≡ Loading can.frame can.slot
    same = sym loading ∙ can.tables.loading
