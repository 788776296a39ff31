-- Whom a pass kicks, by the epochs that processors noted.
use Rattle.std.specs.Prelude.{ℕ, zero, suc, ◌+◌, if◌then◌else◌, List, [], ◌∷◌, ◌++◌}
use Rattle.std.specs.Prelude.{nat_le}
use Rattle.sgx_rules.specs.declared.entries.Entry.{Entry}
use Rattle.sgx_rules.specs.inner.ByEpochs.{notes}
use Rattle.sgx_rules.specs.inner.Epochs.{noted}
use Rattle.sgx_rules.specs.Processors.{stay}

-- those of so many processors from a number on that are inside the enclave and noted an epoch at or below a block's: how a processor
-- can tell them
abbrev pub noting_from : ℕ → List Entry → ℕ → ℕ → ℕ → ℕ → List ℕ
noting_from first past enclave b p zero = []
noting_from first past enclave b p (suc count) =
    (if notes enclave (λ m. nat_le m b) (noted first past p) (stay past p) then p ∷ [] else []) ++ noting_from first past enclave b
    (p + 1) count

abbrev pub processors_noting : ℕ → List Entry → ℕ → ℕ → List ℕ
processors_noting first past enclave b = noting_from first past enclave b 0 16
