-- The rule of the measurement: what `init` answers, by the entries before it, which stand newest first.
use Rattle.std.specs.Prelude.{ℕ, ◌≡◌, ◌≢◌, List, Option, Some, None}
use Rattle.sgx_rules.specs.declared.entries.Entry.{Entry}
use Rattle.sgx_rules.specs.declared.entries.Event.{Event}
use Rattle.sgx_rules.specs.declared.entries.Event.TheVariants.{Did, Refused}
use Rattle.sgx_rules.specs.declared.entries.Action.TheVariants.{Init}
use Rattle.sgx_rules.specs.declared.entries.Answer.TheVariants.{Hash}
use Rattle.sgx_rules.specs.declared.refusals.Refusal.TheVariants.{BadMeasure}
use Rattle.sgx_types.specs.declared.names.Page.{Page}
use Rattle.sgx_rules.specs.Frames.{content, page_of}
use Rattle.sgx_rules.specs.Flat.{flat_bytes}
use Rattle.measure_log.specs.Log.{log_of}
use Rattle.measure_log.specs.Measure.{measurement_of}

-- the page in a frame
abbrev pub page_in_frame : List Entry → ℕ → Option Page
page_in_frame past frame = page_of (content past frame)

-- the measurement log of an enclave
abbrev pub log : List Entry → ℕ → List ℕ
log = log_of page_in_frame flat_bytes

-- the SHA-256 of that log
abbrev pub measurement : List Entry → ℕ → List ℕ
measurement past enclave = measurement_of (log past enclave)

-- no digest is expected, or this one is
abbrev pub IsExpected : Option (List ℕ) → List ℕ → Type 0
IsExpected None digest = Unit {0}
IsExpected (Some wanted) digest = wanted ≡ digest

-- a digest is expected, and it is another than this one
abbrev pub IsOther : Option (List ℕ) → List ℕ → Type 0
IsOther None digest = ⊥
IsOther (Some wanted) digest = wanted ≢ digest

-- a done `init` answers its enclave's measurement, which is the expected one where one is expected; an `init` that is
-- refused for its measurement names it, and another one was expected
abbrev pub MeasureRule : List Entry → Entry → Type 0
MeasureRule past e = by_event e.event
  where
    by_event : Event → Type 0
    by_event (Did (Init enclave expect) answer) = (answer ≡ Hash (measurement past enclave)) × IsExpected expect (measurement past enclave)
    by_event (Refused (Init enclave expect) (BadMeasure made)) =
        (made ≡ measurement past enclave) × IsOther expect (measurement past enclave)
    by_event _ = Unit {0}
