-- Which page is brought back first for one that is outside, and which slots pages have, by the driver's tables.
use Rattle.std.specs.Prelude.{ℕ, ◌+◌, ◌-◌, ◌==◌, if◌then◌else◌, Bool, true, false, Option, Some, None}
use Rattle.sgx_types.specs.declared.names.Page.{Page}
use Rattle.sgx_types.specs.declared.names.SlotAt.{SlotAt}
use Rattle.sgx_types.specs.declared.names.VaSlot.{VaSlot}
use Rattle.sgx_types.specs.Pages.{is_own_page, is_va_page, secs_page, va_page}
use Rattle.driver_list.specs.declared.page_states.PageState.{PageState}
use Rattle.driver_list.specs.declared.page_states.PageState.TheVariants.{Here}
use Rattle.driver_list.specs.inner.States.{StateTable, state_of}
use Rattle.driver_tables.specs.declared.driver.Driver.{Driver}

abbrev pub is_here_state : PageState → Bool
is_here_state (Here f) = true
is_here_state state = false

-- the page is here
abbrev pub is_here_in : StateTable → Page → Bool
is_here_in states g = is_here_state (state_of states g)

-- for a page that is away in this slot
abbrev pub target_in : Driver → Page → VaSlot → Page
target_in d g slot =
    if is_own_page g
    then (if is_here_in d.states (secs_page g.enclave) then (if is_here_in d.states (va_page slot.va) then g else va_page slot.va)
    else secs_page g.enclave)
    else g

abbrev pub slot_in_state : ℕ → PageState → Option SlotAt
slot_in_state index (Here f) = Some (record { frame = f; index = index })
slot_in_state index state = None

-- a slot by the frame in which its version array page is, None where that is not here
abbrev pub slot_here_in : Driver → VaSlot → Option SlotAt
slot_here_in d slot = slot_in_state slot.index (state_of d.states (va_page slot.va))

-- the slot of a SECS, and of a version array page
abbrev pub fixed_in : Driver → Page → VaSlot
fixed_in d g =
    if is_va_page g then record { va = 0; index = d.enclaves + g.number } else record { va = 0; index = g.enclave - 1 }

-- the first slot of a version array page that is for TCS and REG pages
abbrev pub first_in : Driver → ℕ → ℕ
first_in d va = if va == 0 then d.enclaves + d.va_pages else 0
