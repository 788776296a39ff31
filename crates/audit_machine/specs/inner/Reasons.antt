-- Why the end of a load was refused, as a machine is asked for it.
use Rattle.std.specs.Prelude.{ℕ, ◌==◌, if◌then◌else◌, not, Bool, false, bytes_eq}
use Rattle.sgx_rules.specs.declared.refusals.Refusal.{Refusal}
use Rattle.sgx_rules.specs.declared.refusals.Refusal.TheVariants as why
use Rattle.sgx_types.specs.declared.record.Header.{Header}
use Rattle.seal_record.specs.inner.Row.{same_header}

-- a reason for which a record can be refused, where its header was to be this one
abbrev pub is_unfit : Header → Refusal → Bool
is_unfit own (why.MacFail given computed) = not (bytes_eq given computed)
is_unfit own (why.BadHeader enclave address flags) =
    not (same_header own (record { enclave = enclave; address = address; flags = flags }))
is_unfit own _ = false

-- an enclave's number that is not this one
abbrev pub other_number : ℕ → ℕ
other_number n = if n == 0 then 1 else 0
