-- What is kept while a trace is gone along: by which enclaves processors are inside, and pages of any offset.
use Rattle.std.specs.Prelude.{ℕ, ◌≡◌, ◌<◌, ◌==◌, ◌&&◌, Bool, List, Option, Some, None, slice_index_or}
use Rattle.sgx_rules.specs.declared.entries.Entry.{Entry}
use Rattle.sgx_types.specs.declared.names.Page.{Page}
use Rattle.sgx_types.specs.Pages.{page_at}
use Rattle.sgx_rules.specs.Processors.{Move, Enters, Leaves, Keeps, Stay, stay}
use Rattle.command_least.specs.declared.accesses.Access.{Access}

-- the page of an access
abbrev pub page_of : Access → Page
page_of access = page_at access.enclave access.number

abbrev pub same_access : Access → Access → Bool
same_access a b = (a.enclave == b.enclave) && (a.number == b.number)

abbrev pub enclave_of : Option Stay → Option ℕ
enclave_of None = None
enclave_of (Some s) = Some s.seat.enclave

abbrev pub enclave_after : Move → Option ℕ → Option ℕ
enclave_after (Enters seat) before = Some seat.enclave
enclave_after Leaves before = None
enclave_after Keeps before = before

-- by place, the enclave that each processor is inside
abbrev pub AreInside : List Entry → List (Option ℕ) → Type 0
AreInside past inside = (p : ℕ) (d : Option ℕ) → p < 256 → slice_index_or inside p d ≡ enclave_of (stay past p)
