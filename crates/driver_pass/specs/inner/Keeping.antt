-- Which processors keep a page back, by how they stand.
use Rattle.std.specs.Prelude.{ℕ, zero, suc, ◌+◌, ◌==◌, ◌&&◌, Bool, false, if◌then◌else◌, List, [], ◌∷◌, ◌++◌}
use Rattle.std.specs.Prelude.{Option, None, Some, length}
use Rattle.std.specs.Prelude.{nat_lt}
use Rattle.cached_translations.specs.declared.processor.Mode.{Mode}
use Rattle.cached_translations.specs.declared.processor.Mode.TheVariants.{Inside, Outside}
use Rattle.sgx_machine.specs.inner.Parts.{Parts, cpu_at}

-- inside the enclave, with a noted epoch below this one
abbrev pub is_older : Mode → ℕ → ℕ → Bool
is_older Outside enclave epoch = false
is_older (Inside other tcs tf sf noted) enclave epoch = (other == enclave) && nat_lt noted epoch

-- those of so many processors from a number on that pass a test, rising
abbrev pub passing_from : (ℕ → Bool) → ℕ → ℕ → List ℕ
passing_from test p zero = []
passing_from test p (suc count) = (if test p then p ∷ [] else []) ++ passing_from test (p + 1) count

-- the processors that are inside an enclave since before its epoch began
abbrev pub keepers_by : Parts → ℕ → ℕ → List ℕ
keepers_by m enclave epoch = passing_from (λ p. is_older (cpu_at m p).mode enclave epoch) 0 (length m.cpus)

abbrev pub first_of : List ℕ → Option ℕ
first_of [] = None
first_of (p ∷ ps) = Some p
