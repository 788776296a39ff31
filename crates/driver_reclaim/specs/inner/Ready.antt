-- What a turn of the reclaimer asks of the entries, the machine and the driver's tables.
use Rattle.std.specs.Prelude.{◌≡◌, ◌<◌, ◌≤◌, true, false, List, Some}
use Rattle.sgx_rules.specs.declared.entries.Entry.{Entry}
use Rattle.sgx_types.specs.declared.names.Page.{Page}
use Rattle.sgx_types.specs.declared.names.SlotAt.{SlotAt}
use Rattle.sgx_types.specs.declared.names.VaSlot.{VaSlot}
use Rattle.sgx_types.specs.Making.{Making}
use Rattle.sgx_rules.specs.Frames.{vas_made}
use Rattle.sgx_types.specs.Pages.{va_page}
use Rattle.job_grammar.specs.Jobs.{JobView}
use Rattle.driver_list.specs.inner.Holds.{is_held as is_held_by}
use Rattle.driver_list.specs.inner.Places.{IsPlaced}
use Rattle.driver_slots.specs.inner.Keeper.{is_ours, is_out}
use Rattle.sgx_machine.specs.inner.Parts.{Parts, state_of}
use Rattle.driver_rules.specs.Holds.{is_held}
use Rattle.driver_rules.specs.Passes.{aside, IsToGo}
use Rattle.driver_tables.specs.declared.driver.Driver.{Driver}
use Rattle.driver_tables.specs.inner.Targets.{slot_here_in}
use Rattle.driver_tables.specs.inner.Agrees.{Agrees}
use Rattle.driver_pass.specs.declared.stages.Aside.{Aside}
use Rattle.driver_pass.specs.declared.stages.Aside.TheVariants as asides
use Rattle.driver_pass.specs.inner.Dues.{CanBeDue, due_in}
use Rattle.driver_pass.specs.inner.Standing.{StandsAt}
use Rattle.driver_pass.specs.inner.Viewed.{is_amid, is_sealing, PassView}
use Rattle.driver_reclaim.specs.inner.Tried.{StartsAside}

-- the page of each slot that is not out is here
pub record HasFreeSlots (d : Driver) : Type 0 where
  pub placed : (s : VaSlot) → is_ours d.slots s ≡ true → is_out d.slots s ≡ false → IsPlaced d.states.counts (va_page s.va)
  pub here : (s : VaSlot) → is_ours d.slots s ≡ true → is_out d.slots s ≡ false → (at : SlotAt) × (slot_here_in d s ≡ Some at)

-- a page that was taken beside the passes can go out
abbrev pub CanGo : Driver → Aside → Type 0
CanGo d (asides.ToGo t) = StartsAside d t
CanGo d _ = Unit {0}

pub record CanStep (v : PassView) (d : Driver) (m : Parts) : Type 0 where
  -- no write-out is open, and no kicks are left of which some were made
  pub idle : is_sealing v ≡ false
  pub whole : is_amid v ≡ false
  pub due : CanBeDue d (state_of m) v.behind
  pub placed : (page : Page) → due_in d (state_of m) v.behind ≡ Some page → IsPlaced d.states.counts page
  pub aside : CanGo d v.aside
  pub slots : HasFreeSlots d

-- a page that was taken beside the passes goes out into a slot of the first version array page, which was made
abbrev pub HasFirst : List Entry → Type 0
HasFirst past = (g : Page) → aside past ≡ IsToGo g → 0 < vas_made past

-- tables and machine agree on some entries, for which the pass stands
pub record Ready (made : Making) (j : JobView) (past : List Entry) (v : PassView) (d : Driver) (m : Parts) : Type 0 where
  pub agrees : Agrees made j past d m
  pub held : (g : Page) → is_held_by d.active.own g ≡ is_held j past g
  pub stands : StandsAt made.first_epoch j past v
  pub whole : is_amid v ≡ false
  -- a page that was taken beside the passes has its slot in a page that was made
  pub first : HasFirst past
  -- a pass looks at no more pages than it has room for
  pub short : j.marks.scan ≤ 64
