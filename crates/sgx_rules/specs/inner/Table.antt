-- Why an instruction was refused, by what it answered.
use Rattle.std.specs.Prelude.{Option, Some, None, Result, Ok, Err}
use Rattle.sgx_rules.specs.declared.refusals.Refusal.{Refusal}

-- why an instruction was refused, None where it was done
abbrev pub refusal_in : {T : Type 0} → Result T Refusal → Option Refusal
refusal_in (Ok x) = None
refusal_in (Err refusal) = Some refusal
