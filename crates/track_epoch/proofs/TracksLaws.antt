-- What a write to one enclave's track leaves.
use Rattle.std.proofs.Common.{◌≡◌, ◌≢◌, ℕ, ◌-◌, ◌<◌, ◌≤◌, suc, zero, cond, eqb, List, [], ◌∷◌, Some}
use Rattle.std.proofs.Common.{length, set, length-set, refl, ap, ◌⊎◌, inl, inr, arith}
use Rattle.std.specs.Prelude.{slice_get}
use Rattle.std.proofs.lemmas.Bool.{eq-eqb, ne_eqb, cases_eq}
use Rattle.track_epoch.specs.inner.Tracking.{Tracking}
use Rattle.track_epoch.specs.inner.Tracks.{track_of, with_track}

slice_get-set_same : (tracks : List Tracking) (i : ℕ) (t : Tracking) → i < length tracks → slice_get (set tracks i t) i ≡ Some t
slice_get-set_same [] i t low = absurd (omega arith)
slice_get-set_same (x ∷ tracks) zero t low = refl
slice_get-set_same (x ∷ tracks) (suc i) t low = slice_get-set_same tracks i t (omega arith)

slice_get-set_other : (tracks : List Tracking) (i j : ℕ) (t : Tracking) → i ≢ j → slice_get (set tracks i t) j ≡ slice_get tracks j
slice_get-set_other [] i j t differ = refl
slice_get-set_other (x ∷ tracks) zero zero t differ = absurd (differ refl)
slice_get-set_other (x ∷ tracks) zero (suc j) t differ = refl
slice_get-set_other (x ∷ tracks) (suc i) zero t differ = refl
slice_get-set_other (x ∷ tracks) (suc i) (suc j) t differ = slice_get-set_other tracks i j t (λ same. differ (ap suc same))

set-slice_get : (tracks : List Tracking) (i : ℕ) (t : Tracking) → slice_get tracks i ≡ Some t → set tracks i t ≡ tracks
set-slice_get [] i t here = refl
set-slice_get (x ∷ tracks) zero t here = cc
set-slice_get (x ∷ tracks) (suc i) t here = ap (λ rest. x ∷ rest) (set-slice_get tracks i t here)

pub length-with_track : (tracks : List Tracking) (enclave : ℕ) (t : Tracking) → length (with_track tracks enclave t) ≡ length tracks
length-with_track tracks enclave t = length-set tracks (enclave - 1) t

-- the enclave has the new track, and each other its own
pub track_of-with_track : (tracks : List Tracking) (enclave other : ℕ) (t : Tracking) → 1 ≤ enclave → enclave ≤ length tracks
    → track_of (with_track tracks enclave t) other ≡ cond (eqb enclave other) (Some t) (track_of tracks other)
track_of-with_track tracks enclave other t first last = by_cases (cases_eq other 0) (cases_eq enclave other)
  where
    by_cases : (other ≡ 0) ⊎ (other ≢ 0) → (enclave ≡ other) ⊎ (enclave ≢ other)
        → track_of (with_track tracks enclave t) other ≡ cond (eqb enclave other) (Some t) (track_of tracks other)
    by_cases (inl none) either = rw (eq-eqb other 0 none, ne_eqb enclave other (λ same. omega arith)) refl
    by_cases (inr some) (inl same) =
        rw (ne_eqb other 0 some, eq-eqb enclave other same, ← same) (slice_get-set_same tracks (enclave - 1) t (omega arith))
    by_cases (inr some) (inr differ) =
        rw (ne_eqb other 0 some, ne_eqb enclave other differ)
        (slice_get-set_other tracks (enclave - 1) (other - 1) t (λ same. differ (omega arith)))

-- writing an enclave's own track back changes nothing
pub with_track-track_of : (tracks : List Tracking) (enclave : ℕ) (t : Tracking) → 1 ≤ enclave → track_of tracks enclave ≡ Some t
    → with_track tracks enclave t ≡ tracks
with_track-track_of tracks enclave t first is = set-slice_get tracks (enclave - 1) t (rw (ne_eqb enclave 0 (λ same. omega arith)) at is)
