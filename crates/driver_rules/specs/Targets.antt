-- Which page is brought back first for a page that is outside: its SECS, and then the version array page of its slot.
use Rattle.std.specs.Prelude.{ℕ, if◌then◌else◌, List, Option, Some, None}
use Rattle.sgx_rules.specs.declared.entries.Entry.{Entry}
use Rattle.sgx_types.specs.declared.names.Frame.{Frame}
use Rattle.sgx_types.specs.declared.names.Page.{Page}
use Rattle.sgx_types.specs.declared.names.SlotAt.{SlotAt}
use Rattle.sgx_types.specs.declared.names.VaSlot.{VaSlot}
use Rattle.sgx_types.specs.Pages.{is_own_page, secs_page, va_page}
use Rattle.sgx_types.specs.Pages.{frame_at}
use Rattle.driver_rules.specs.Places.{Away, frame_here, is_here, Place, place}

-- of a TCS or REG page that is outside
abbrev pub target_from : List Entry → Page → VaSlot → Page
target_from past g slot =
    if is_here (place past (secs_page g.enclave)) then (if is_here (place past (va_page slot.va)) then g else va_page slot.va)
    else secs_page g.enclave

abbrev pub target_by : List Entry → Page → Place → Page
target_by past g (Away slot) = if is_own_page g then target_from past g slot else g
target_by past g _ = g

-- ---- the slot as an instruction names it

abbrev pub at_frame : ℕ → Option ℕ → Option SlotAt
at_frame index None = None
at_frame index (Some f) = Some (record { frame = frame_at f; index = index })

-- a slot by the frame in which its version array page is, None where that is not here
abbrev pub slot_here : List Entry → VaSlot → Option SlotAt
slot_here past slot = at_frame slot.index (frame_here (place past (va_page slot.va)))
