-- How a processor stands.
use Rattle.std.specs.Prelude.{ℕ, Bool, true, false, Option, Some, None}
use Rattle.cached_translations.specs.declared.processor.Mode.{Mode}
use Rattle.cached_translations.specs.declared.processor.Mode.TheVariants.{Outside, Inside}

-- the processor is inside an enclave
abbrev pub is_inside : Mode → Bool
is_inside Outside = false
is_inside (Inside enclave tcs tcs_frame ssa_frame epoch) = true

-- the enclave that it is inside, None where it is outside
abbrev pub enclave_inside : Mode → Option ℕ
enclave_inside Outside = None
enclave_inside (Inside enclave tcs tcs_frame ssa_frame epoch) = Some enclave
