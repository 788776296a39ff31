-- Pages and slots by their names: when two are the same, and what the names of pages say.
use Rattle.std.specs.Prelude.{ℕ, ◌==◌, ◌&&◌, not, Bool, false}
use Rattle.sgx_types.specs.declared.names.Frame.{Frame}
use Rattle.sgx_types.specs.declared.names.Page.{Page}
use Rattle.sgx_types.specs.declared.names.Perm.{Perm}
use Rattle.sgx_types.specs.declared.names.TheConstants.{SECS_NUMBER}
use Rattle.sgx_types.specs.declared.names.VaSlot.{VaSlot}

-- no permission, which a TCS, SECS or VA page has
abbrev pub no_perm : Perm
no_perm = record { r = false; w = false; x = false }

abbrev pub frame_at : ℕ → Frame
frame_at n = record { 0 = n }

abbrev pub same_page : Page → Page → Bool
same_page a b = (a.enclave == b.enclave) && (a.number == b.number)

abbrev pub page_at : ℕ → ℕ → Page
page_at enclave number = record { enclave = enclave; number = number }

-- ---- a version array page is of enclave 0, an enclave's SECS has the last number, and the others are the TCS and REG pages

abbrev pub va_page : ℕ → Page
va_page number = page_at 0 number

abbrev pub secs_page : ℕ → Page
secs_page enclave = page_at enclave SECS_NUMBER

abbrev pub is_va_page : Page → Bool
is_va_page g = g.enclave == 0

abbrev pub is_secs_page : Page → Bool
is_secs_page g = not (is_va_page g) && (g.number == SECS_NUMBER)

-- a TCS or REG page, if any
abbrev pub is_own_page : Page → Bool
is_own_page g = not (is_va_page g) && not (g.number == SECS_NUMBER)

-- ---- slots

abbrev pub same_slot : VaSlot → VaSlot → Bool
same_slot a b = (a.va == b.va) && (a.index == b.index)
