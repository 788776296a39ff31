-- The tracks of the enclaves, which are numbered from 1.
use Rattle.std.specs.Prelude.{ℕ, ◌-◌, ◌==◌, if◌then◌else◌, List, Option, None, slice_get, slice_set}
use Rattle.std.specs.Borrow.{Lends, MutBor, Fml}
use Rattle.track_epoch.specs.contracts.track.Track.{the_row as track_row}
use Rattle.track_epoch.specs.contracts.tracks.Tracks.{the_row}
use Rattle.track_epoch.specs.inner.Tracking.{Tracking}

-- the track of an enclave, None where there is no enclave of that number
abbrev pub track_of : List Tracking → ℕ → Option Tracking
track_of tracks enclave = if enclave == 0 then None else slice_get tracks (enclave - 1)

-- the tracks with another one for an enclave
abbrev pub with_track : List Tracking → ℕ → Tracking → List Tracking
with_track tracks enclave t = slice_set tracks (enclave - 1) t

-- what is last written through r is the enclave's track, and the others stay
abbrev pub LendsTrack : MutBor (List Tracking) → ℕ → MutBor Tracking → Fml
LendsTrack tracks enclave r = Lends the_row track_row tracks r (with_track tracks.now enclave)
