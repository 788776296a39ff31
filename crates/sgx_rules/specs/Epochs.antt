-- Tracking by the entries before a place: the epoch of each enclave, the epochs that were noted at an entry and at a block,
-- and how many processors inside are older than the enclave's last track. A place is the number of entries before it.
use Rattle.std.specs.Prelude.{ℕ, ◌==◌, ◌+◌, ◌&&◌, Bool, false, if◌then◌else◌, List, [], ◌∷◌, Option, Some}
use Rattle.std.specs.Prelude.{None, length, nat_lt}
use Rattle.sgx_rules.specs.declared.entries.Entry.{Entry}
use Rattle.sgx_rules.specs.declared.entries.Event.{Event}
use Rattle.sgx_rules.specs.declared.entries.Event.TheVariants.{Did}
use Rattle.sgx_rules.specs.declared.entries.Action.TheVariants.{Track}
use Rattle.sgx_types.specs.Counts.{count_below}
use Rattle.sgx_rules.specs.Frames.{content, enclave_in}
use Rattle.sgx_rules.specs.Processors.{Stay, stay}

abbrev pub is_track : Event → ℕ → Bool
is_track (Did (Track enclave) answer) n = enclave == n
is_track _ n = false

-- the epoch of an enclave: the first one, and one more for each track
abbrev pub epoch : ℕ → List Entry → ℕ → ℕ
epoch first [] enclave = first
epoch first (e ∷ past) enclave = if is_track e.event enclave then epoch first past enclave + 1 else epoch first past enclave

abbrev pub epoch_of : (ℕ → ℕ) → Option ℕ → ℕ
epoch_of epochs None = 0
epoch_of epochs (Some enclave) = epochs enclave

-- the epoch of the enclave whose page a frame holds
abbrev pub epoch_in : ℕ → List Entry → ℕ → ℕ
epoch_in first past n = epoch_of (epoch first past) (enclave_in (content past n))

-- ---- how many processors are inside, and since when

-- the place of the last track of an enclave
abbrev pub last_track : List Entry → ℕ → Option ℕ
last_track [] enclave = None
last_track (e ∷ past) enclave = if is_track e.event enclave then Some (length past) else last_track past enclave

abbrev pub is_before : Option ℕ → ℕ → Bool
is_before None entered = false
is_before (Some k) entered = nat_lt entered k

-- inside the enclave
abbrev pub is_in : ℕ → Option Stay → Bool
is_in enclave None = false
is_in enclave (Some s) = s.seat.enclave == enclave

-- .. since before a place
abbrev pub is_in_before : ℕ → Option ℕ → Option Stay → Bool
is_in_before enclave k None = false
is_in_before enclave k (Some s) = (s.seat.enclave == enclave) && is_before k s.entered

-- how many processors are inside an enclave since before its last track
abbrev pub older_at : List Entry → ℕ → ℕ
older_at past enclave = count_below (λ p. is_in_before enclave (last_track past enclave) (stay past p)) 16
