-- Whether an event is what is due, by what driver, machine and tables show.
use Rattle.std.specs.Prelude.{ℕ, ◌≡◌, Bool, true, false, Option, Some, None, length, map}
use Rattle.sgx_rules.specs.declared.entries.Action.{Action}
use Rattle.sgx_rules.specs.declared.entries.Action.TheVariants.{Eld}
use Rattle.sgx_rules.specs.declared.entries.Event.{Event}
use Rattle.sgx_types.specs.declared.names.Page.{Page}
use Rattle.sgx_types.specs.declared.names.SlotAt.{SlotAt}
use Rattle.sgx_types.specs.declared.names.VaSlot.{VaSlot}
use Rattle.sgx_types.specs.Pages.{is_own_page, secs_page, va_page}
use Rattle.script_rules.specs.Script.{action_of}
use Rattle.driver_list.specs.declared.page_states.PageState.{PageState}
use Rattle.driver_list.specs.declared.page_states.PageState.TheVariants as states
use Rattle.driver_list.specs.inner.Places.{IsPlaced}
use Rattle.driver_list.specs.inner.States.{state_of as page_state}
use Rattle.driver_rules.specs.Dues.{Asks, Fetch, WaitsFor, load_by}
use Rattle.driver_rules.specs.inner.Decided.{is_action, is_fetch, is_stop}
use Rattle.driver_tables.specs.declared.driver.Driver.{Driver}
use Rattle.driver_tables.specs.inner.Targets.{slot_here_in, target_in}
use Rattle.due_tables.specs.declared.dues.BuilderDue.{BuilderDue}
use Rattle.due_tables.specs.declared.dues.BuilderDue.TheVariants as builders
use Rattle.due_tables.specs.declared.dues.CpuDue.{CpuDue}
use Rattle.due_tables.specs.declared.dues.CpuDue.TheVariants.{Ends, Finished, Makes, Needs, Reports, Stopped, Waits}
use Rattle.due_tables.specs.declared.turns.Turns.{Turns}
use Rattle.due_tables.specs.inner.Due.{made_by}
use Rattle.due_tables.specs.inner.TcsTurns.{has_place, rows}

-- ---- a page that is needed

-- the slot of a page that is outside, also of one whose last put failed
abbrev pub slot_by : PageState → Option VaSlot
slot_by (states.Away slot) = Some slot
slot_by (states.Lost slot) = Some slot
slot_by state = None

abbrev pub slot_if : Bool → PageState → Option VaSlot
slot_if true state = slot_by state
slot_if false state = None

-- .. A page that has no place in the driver's tables is not outside
abbrev pub slot_seen : Driver → Turns → Page → Option VaSlot
slot_seen d t g = slot_if (has_place t.tcs g) (page_state d.states g)

-- the first step for a page that is brought back, by its slot and the least free frame
abbrev pub step_for : Driver → Option ℕ → Page → Option VaSlot → Fetch
step_for d free target None = WaitsFor target
step_for d free target (Some slot) = Asks target (slot_here_in d slot) free

-- .. for the page that has to be back first
abbrev pub fetch_from : Driver → Option ℕ → Page → Option VaSlot → Option Fetch
fetch_from d free g None = None
fetch_from d free g (Some slot) =
    let target = target_in d g slot in
    Some (step_for d free target (slot_by (page_state d.states target)))

-- .. where the page that is needed is outside
abbrev pub fetch_seen : Driver → Turns → Option ℕ → Page → Option Fetch
fetch_seen d t free g = fetch_from d free g (slot_seen d t g)

abbrev pub fetch_by : Page → Option Fetch → Event → Bool
fetch_by g None event = false
fetch_by g (Some fetch) event = is_fetch g fetch event

-- this loads the page by its slot into the frame
abbrev pub loads_by : Page → Option SlotAt → Option ℕ → Action → Bool
loads_by g slot None action = false
loads_by g slot (Some f) action = is_action (load_by g slot f) action

-- the tables have the places of all that has to be back before a page
pub record CanFetch (d : Driver) (t : Turns) : Type 0 where
  pub rows : map length t.tcs ≡ rows d.states.counts
  pub secs : (g : Page) (slot : VaSlot) → IsPlaced d.states.counts g → slot_by (page_state d.states g) ≡ Some slot → is_own_page g ≡ true
      → IsPlaced d.states.counts (secs_page g.enclave)
  pub array : (g : Page) (slot : VaSlot) → IsPlaced d.states.counts g → slot_by (page_state d.states g) ≡ Some slot
      → IsPlaced d.states.counts (va_page slot.va)

-- ---- what is due

-- by the steps for the pages that are outside
abbrev pub next_by : (Page → Option Fetch) → CpuDue → Event → Bool
next_by steps Stopped event = false
next_by steps Finished event = false
next_by steps (Waits why) event = false
next_by steps (Ends f) event = is_action (action_of event) (Eld f)
next_by steps (Makes step) event = is_action (action_of event) (made_by step)
next_by steps (Reports why page) event = is_stop page why event
next_by steps (Needs page) event = fetch_by page (steps page) event

-- .. by what is due to the builder
abbrev pub built_by : BuilderDue → Event → Bool
built_by (builders.Makes action) event = is_action (action_of event) action
built_by _ event = false
