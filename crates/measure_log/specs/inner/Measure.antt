-- What a running measurement holds, takes in and finishes to.
use Rattle.std.specs.Prelude.{ℕ, ◌≡◌, List, ◌++◌}
use Rattle.sha2.specs.Hashers.{Holds256}
use Rattle.measure_log.specs.declared.measure.Measure.{Measure}
use Rattle.measure_log.specs.Measure.{measurement_of}

-- the measurement has taken in this log
abbrev pub HoldsLog : Measure → List ℕ → Type 0
HoldsLog measure log = Holds256 measure.hasher log

-- a measurement takes in a block more: whatever log it held, it holds that log with the block behind it
abbrev pub TakesIn : Measure → List ℕ → Measure → Type 0
TakesIn before block after = (log : List ℕ) → HoldsLog before log → HoldsLog after (log ++ block)

-- a measurement finishes to this digest: whatever log it holds, the digest is the measurement of that log
abbrev pub FinishesTo : Measure → List ℕ → Type 0
FinishesTo measure digest = (log : List ℕ) → HoldsLog measure log → digest ≡ measurement_of log
