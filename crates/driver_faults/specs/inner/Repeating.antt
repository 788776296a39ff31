-- The work of a load that has started.
use Rattle.std.specs.Prelude.{◌≡◌, true, None, Some, Option}
use Rattle.sgx_types.specs.declared.names.Cpu.{Cpu}
use Rattle.sgx_types.specs.declared.names.Frame.{Frame}
use Rattle.sgx_types.specs.declared.names.Page.{Page}
use Rattle.sgx_types.specs.declared.names.VaSlot.{VaSlot}
use Rattle.sgx_rules.specs.Table.{is_loading}
use Rattle.std.specs.Global.{Box}
use Rattle.seal_record.specs.declared.unseal.UnsealWork.{UnsealWork}
use Rattle.sgx_machine.specs.inner.Parts.{Parts, state_of}
use Rattle.driver_list.specs.inner.Keeping.{Kept, kept_at}
use Rattle.driver_list.specs.inner.Places.{IsPlaced}
use Rattle.driver_list.specs.inner.States.{state_of as page_state}
use Rattle.driver_list.specs.declared.page_states.PageState.TheVariants.{Loading}
use Rattle.driver_tables.specs.declared.driver.Driver.{Driver}
use Rattle.driver_faults.specs.inner.Resolving.{IsToOpen}

-- a page is loading into a frame, which waits for it
pub record WaitsFor (d : Driver) (m : Parts) (page : Page) : Type 0 where
  pub placed : IsPlaced d.states.counts page
  pub frame : Frame
  pub slot : VaSlot
  pub loading : page_state d.states page ≡ Loading frame slot
  pub waits : is_loading ((state_of m).content frame.0) ≡ true

-- the kept record is to be opened for the frame into which its page is loading
pub record IsWorkOf (d : Driver) (m : Parts) (kept : Kept) (work : UnsealWork) : Type 0 where
  pub frame : Frame
  pub slot : VaSlot
  pub loading : page_state d.states kept.page ≡ Loading frame slot
  pub opens : IsToOpen (state_of m) frame.0 kept.sealed work

abbrev pub IsWorkFor : Driver → Parts → Option Kept → Option (Box UnsealWork) → Type 0
IsWorkFor d m None None = Unit {0}
IsWorkFor d m (Some kept) (Some work) = IsWorkOf d m kept work.value
IsWorkFor d m _ _ = ⊥

abbrev pub IsAgain : Cpu → Driver → Parts → Option (Box UnsealWork) → Type 0
IsAgain cpu d m work = IsWorkFor d m (kept_at d.kept cpu.0) work
