-- Starts of write-outs.
use Rattle.std.specs.Prelude.{◌+◌, ◌<◌, ◌^◌, ◌≡◌, Bool, true, false, Some}
use Rattle.sgx_rules.specs.declared.entries.Entry.{Entry}
use Rattle.sgx_rules.specs.declared.entries.Event.{Event}
use Rattle.sgx_rules.specs.declared.entries.Event.TheVariants.{Refused}
use Rattle.sgx_types.specs.declared.names.Actor.TheVariants as actors
use Rattle.sgx_rules.specs.declared.entries.Action.TheVariants.{EwbStart}
use Rattle.sgx_rules.specs.declared.refusals.Refusal.TheVariants as why
use Rattle.sgx_types.specs.declared.names.Frame.{Frame}
use Rattle.sgx_types.specs.declared.names.SlotAt.{SlotAt}
use Rattle.sgx_types.specs.declared.names.VaSlot.{VaSlot}
use Rattle.sgx_types.specs.Pages.{is_va_page, va_page}
use Rattle.driver_list.specs.inner.Places.{IsPlaced}
use Rattle.driver_slots.specs.inner.Keeper.{IsLeast, Keeper, is_ours, is_out, Takes}
use Rattle.machine_laws.specs.inner.State.{State}
use Rattle.machine_laws.specs.inner.Steps.{IsStep}
use Rattle.driver_laws.specs.inner.Keeps.{IsSameOut}
use Rattle.driver_tables.specs.declared.driver.Driver.{Driver}
use Rattle.driver_tables.specs.inner.Targets.{fixed_in, slot_here_in}
use Rattle.driver_pass.specs.declared.stages.Taken.{Taken}

-- the slot is out behind the try: it was taken, or the driver keeps it out since it held a version
abbrev pub keeps_slot : Event → Bool
keeps_slot (Refused action (why.SlotOccupied version)) = true
keeps_slot (Refused action refusal) = false
keeps_slot _ = true

abbrev pub SlotsAfter : Keeper → VaSlot → Bool → Keeper → Type 0
SlotsAfter old slot true new = Takes old slot new
SlotsAfter old slot false new = IsSameOut old new

-- a try of a TCS or REG page, into the least slot that is not out
pub record IsTried (s : State) (old : Driver) (frame : Frame) (e : Entry) (new : Driver) (t : State) : Type 0 where
  pub slot : VaSlot
  pub ours : is_ours old.slots slot ≡ true
  pub free : is_out old.slots slot ≡ false
  pub least : IsLeast old.slots slot
  pub at : SlotAt
  pub named : slot_here_in old slot ≡ Some at
  pub step : IsStep s actors.Reclaimer (EwbStart frame at) e t
  pub slots : SlotsAfter old.slots slot (keeps_slot e.event) new.slots
  pub others : new ≡ record old { slots = new.slots }

-- the start of a SECS or a version array page, into its own slot
pub record IsTriedStart (s : State) (d : Driver) (one : Taken) (e : Entry) (t : State) : Type 0 where
  pub at : SlotAt
  pub named : slot_here_in d (fixed_in d one.page) ≡ Some at
  pub step : IsStep s actors.Reclaimer (EwbStart one.frame at) e t

-- .. which asks that version array page 0 is here
pub record StartsAside (d : Driver) (one : Taken) : Type 0 where
  pub few : is_va_page one.page ≡ true → d.enclaves + one.page.number < 2 ^ 16
  pub placed : IsPlaced d.states.counts (va_page 0)
  pub at : SlotAt
  pub here : slot_here_in d (fixed_in d one.page) ≡ Some at
