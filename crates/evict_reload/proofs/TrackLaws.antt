-- A refused track leaves the tracks.
use Rattle.std.proofs.Common.{◌≡◌, ℕ, ◌≤◌, List, Some, Result, Ok, Err, OnErr, ap, ◌∙◌}
use Rattle.sgx_rules.specs.declared.refusals.Refusal.{Refusal}
use Rattle.track_epoch.specs.inner.Tracking.{Tracking}
use Rattle.track_epoch.specs.inner.Tracks.{track_of, with_track}
use Rattle.track_epoch.proofs.TracksLaws.{with_track-track_of}

pub kept_on_refusal : (tracks : List Tracking) (enclave : ℕ) (old new : Tracking) (result : Result ℕ Refusal) → 1 ≤ enclave
    → track_of tracks enclave ≡ Some old → OnErr result (new ≡ old) → OnErr result (with_track tracks enclave new ≡ tracks)
kept_on_refusal tracks enclave old new (Ok epoch) first here same = tt
kept_on_refusal tracks enclave old new (Err refusal) first here same =
    ap (with_track tracks enclave) same ∙ with_track-track_of tracks enclave old first here
