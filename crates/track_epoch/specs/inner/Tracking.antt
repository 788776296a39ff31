-- The tracking of an enclave: its epoch, and the epochs that the processors inside it noted when they entered.
use Rattle.std.specs.Prelude.{ℕ, ◌+◌, ◌<◌, ◌≤◌, ◌==◌, if◌then◌else◌, List, [], ◌∷◌, ◌++◌, Result, Ok}
use Rattle.std.specs.Prelude.{Err, All, count_by, length, nat_lt, nat_le}
use Rattle.std.specs.List.Sorted.{IsNonDecreasing}
use Rattle.sgx_rules.specs.declared.refusals.Refusal.{Refusal}
use Rattle.sgx_rules.specs.declared.refusals.Refusal.TheVariants.{PrevTrk, EpochSpent}
use Rattle.sgx_types.specs.declared.names.TheConstants.{LAST_EPOCH, PROCESSORS}

-- the epoch of an enclave, and one noted epoch for each processor inside, in rising order
pub record Tracking : Type 0 where
  pub epoch : ℕ
  pub noted : List ℕ

-- no processor is inside
abbrev pub starting_at : ℕ → Tracking
starting_at epoch = record { epoch = epoch; noted = [] }

-- one processor more is inside, and has noted the epoch
abbrev pub entered : Tracking → Tracking
entered t = record t { noted = t.noted ++ t.epoch ∷ [] }

-- the list with one x fewer, and unchanged where it has none
abbrev pub without : List ℕ → ℕ → List ℕ
without [] x = []
without (y ∷ ys) x = if y == x then ys else y ∷ without ys x

-- one processor that noted an epoch is inside no more
abbrev pub left : Tracking → ℕ → Tracking
left t epoch = record t { noted = without t.noted epoch }

-- a new epoch has begun
abbrev pub tracked : Tracking → Tracking
tracked t = record t { epoch = t.epoch + 1 }

-- how many processors inside have an older epoch
abbrev pub number_older : Tracking → ℕ
number_older t = count_by (λ n. nat_lt n t.epoch) t.noted

-- how many others are inside
abbrev pub number_newer : Tracking → ℕ
number_newer t = count_by (λ n. nat_le t.epoch n) t.noted

-- how many processors inside have an epoch at or below one
abbrev pub number_up_to : Tracking → ℕ → ℕ
number_up_to t block = count_by (λ n. nat_le n block) t.noted

-- a track is refused while an older processor is inside, and then at the last epoch; else it answers the new epoch
abbrev pub track_answer : Tracking → Result ℕ Refusal
track_answer t =
    if nat_lt 0 (number_older t) then Err (PrevTrk (number_older t))
    else if t.epoch == LAST_EPOCH then Err EpochSpent
    else Ok (t.epoch + 1)

-- an epoch has begun since a block, and each processor inside has entered in one that began since
pub record IsDrained (t : Tracking) (block : ℕ) : Type 0 where
  pub began : block < t.epoch
  pub entered_since : All (λ n. block < n) t.noted

-- n is the epoch or the one before it
abbrev pub IsRecent : ℕ → ℕ → Type 0
IsRecent epoch n = (n ≤ epoch) × (epoch ≤ n + 1)

-- what is true of every track
pub record IsTracking (t : Tracking) : Type 0 where
  pub positive : 1 ≤ t.epoch
  pub limited : t.epoch ≤ LAST_EPOCH
  pub few : length t.noted ≤ PROCESSORS
  pub rising : IsNonDecreasing t.noted
  pub recent : All (IsRecent t.epoch) t.noted
