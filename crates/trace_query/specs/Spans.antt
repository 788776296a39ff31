-- Which processors cache a page, and whether one does, or is inside an enclave.
use Rattle.std.specs.Prelude.{ℕ, zero, suc, ◌==◌, ◌&&◌, ◌||◌, Bool, false, if◌then◌else◌, List, [], ◌∷◌, ◌++◌, Option, Some, None}
use Rattle.sgx_rules.specs.declared.entries.Entry.{Entry}
use Rattle.sgx_rules.specs.Processors.{Stay, stay, translations, holds_number}
use Rattle.sgx_types.specs.declared.names.Cpu.{Cpu}
use Rattle.sgx_types.specs.declared.names.Page.{Page}

abbrev pub is_inside : Option Stay → ℕ → Bool
is_inside None enclave = false
is_inside (Some here) enclave = here.seat.enclave == enclave

-- a processor caches a page: it is inside the page's enclave, and holds the page's number
abbrev pub caches : List Entry → ℕ → Page → Bool
caches past p g = is_inside (stay past p) g.enclave && holds_number (translations past p) g.number

-- the processors before number k that cache a page, rising
abbrev pub cachers_before : ℕ → List Entry → Page → List Cpu
cachers_before zero past g = []
cachers_before (suc p) past g = cachers_before p past g ++ (if caches past p g then record { 0 = p } ∷ [] else [])

-- the processors from 0 to 255 that cache a page, rising
abbrev pub cachers : List Entry → Page → List Cpu
cachers past g = cachers_before 256 past g

-- this is so of one of the numbers below k
abbrev pub is_any_below : ℕ → (ℕ → Bool) → Bool
is_any_below zero is = false
is_any_below (suc p) is = is_any_below p is || is p

-- a processor is inside an enclave
unfoldable pub is_entered : List Entry → ℕ → Bool
is_entered past enclave = is_any_below 256 (λ p. is_inside (stay past p) enclave)

-- a processor caches a page
unfoldable pub is_cached : List Entry → Page → Bool
is_cached past g = is_any_below 256 (λ p. caches past p g)
