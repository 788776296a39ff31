-- What contracts see of a running measurement: the log that it holds.
use Rattle.std.specs.Prelude.{ℕ, List}
use Rattle.sha2.specs.Sha256.{sha256}

-- the measurement of a log
abbrev pub measurement_of : List ℕ → List ℕ
measurement_of log = sha256 log
