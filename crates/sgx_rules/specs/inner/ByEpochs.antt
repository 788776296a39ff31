-- The same questions as by places, answered by the epochs that were noted at entries and at blocks, as a processor can answer
-- them. The law is that both answers agree.
use Rattle.std.specs.Prelude.{ℕ, ◌≡◌, ◌==◌, ◌&&◌, Bool, false, List, Option, Some, None, nat_lt, nat_le}
use Rattle.sgx_rules.specs.declared.entries.Entry.{Entry}
use Rattle.sgx_types.specs.Counts.{count_below}
use Rattle.sgx_rules.specs.Frames.{content, enclave_in}
use Rattle.sgx_rules.specs.Processors.{Stay, stay}
use Rattle.sgx_rules.specs.Epochs.{epoch, older_at}
use Rattle.sgx_rules.specs.inner.Epochs.{noted, block_epoch}
use Rattle.sgx_rules.specs.Eviction.{block_place, track_behind, kept_back, is_drained}

-- inside the enclave, having noted an epoch that passes
abbrev pub notes : ℕ → (ℕ → Bool) → ℕ → Option Stay → Bool
notes enclave test m None = false
notes enclave test m (Some s) = (s.seat.enclave == enclave) && test m

-- how many processors are inside an enclave with such an epoch
abbrev pub number_noting : ℕ → List Entry → ℕ → (ℕ → Bool) → ℕ
number_noting first past enclave test = count_below (λ p. notes enclave test (noted first past p) (stay past p)) 16

-- .. with one at or below a block's
abbrev pub number_up_to : ℕ → List Entry → ℕ → ℕ → ℕ
number_up_to first past enclave b = number_noting first past enclave (λ m. nat_le m b)

abbrev pub up_to_block : ℕ → List Entry → Option ℕ → Option ℕ → ℕ
up_to_block first past (Some enclave) (Some b) = number_up_to first past enclave b
up_to_block first past _ _ = 0

-- how many processors keep the page in a frame back
abbrev pub kept_back_by_epochs : ℕ → List Entry → ℕ → ℕ
kept_back_by_epochs first past n = up_to_block first past (enclave_in (content past n)) (block_epoch first past n)

abbrev pub passed_block : ℕ → List Entry → Option ℕ → Option ℕ → Bool
passed_block first past (Some enclave) (Some b) = nat_lt b (epoch first past enclave) && (number_up_to first past enclave b == 0)
passed_block first past _ _ = false

-- the enclave's epoch is above the block's, and no processor inside has one at or below it
abbrev pub is_drained_by_epochs : ℕ → List Entry → ℕ → Bool
is_drained_by_epochs first past n = passed_block first past (enclave_in (content past n)) (block_epoch first past n)

-- the place of a block of an enclave's page, its epoch, and the place of the first track behind it
pub record IsTrackedBlock (first : ℕ) (past : List Entry) (n enclave b k : ℕ) : Type 0 where
  pub place : ℕ
  pub page : enclave_in (content past n) ≡ Some enclave
  pub blocked : block_place past n ≡ Some place
  pub epoch : block_epoch first past n ≡ Some b
  pub tracked : track_behind past enclave place ≡ Some k

pub record EpochsTellPlaces (first : ℕ) (past : List Entry) : Type 0 where
  -- a processor inside entered before the first track behind a block exactly where its noted epoch is at most the block's
  pub entered : (n enclave b k p : ℕ) (s : Stay) → IsTrackedBlock first past n enclave b k → stay past p ≡ Some s → s.seat.enclave ≡ enclave
      → nat_lt s.entered k ≡ nat_le (noted first past p) b
  -- as many keep a page back
  pub kept_back : (n : ℕ) → kept_back past n ≡ kept_back_by_epochs first past n
  -- it is drained at the same places
  pub drained : (n : ℕ) → is_drained past n ≡ is_drained_by_epochs first past n
  -- as many are older than the last track
  pub older : (enclave : ℕ) → older_at past enclave ≡ number_noting first past enclave (λ m. nat_lt m (epoch first past enclave))
