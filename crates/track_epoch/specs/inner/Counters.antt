-- The tracking of an enclave as two counts.
use Rattle.std.specs.Prelude.{ℕ, ◌+◌, ◌-◌, ◌≤◌, List, ◌++◌, replicate}
use Rattle.track_epoch.specs.declared.track.Track.TheInside.{Inside}
use Rattle.sgx_types.specs.declared.names.TheConstants.{LAST_EPOCH, PROCESSORS}
use Rattle.track_epoch.specs.inner.Tracking.{Tracking}

-- the older ones noted the epoch before, the newer ones this epoch
abbrev pub noted_by : ℕ → ℕ → ℕ → List ℕ
noted_by epoch older newer = replicate older (epoch - 1) ++ replicate newer epoch

abbrev pub tracking_of : Inside → Tracking
tracking_of c = record { epoch = c.epoch; noted = noted_by c.epoch c.older c.newer }

pub record IsCounters (c : Inside) : Type 0 where
  pub positive : 1 ≤ c.epoch
  pub limited : c.epoch ≤ LAST_EPOCH
  pub few : c.older + c.newer ≤ PROCESSORS
