-- When no translation of a blocked page can be left, by the places of blocks, tracks and entries alone. A place is the
-- number of entries before it.
use Rattle.std.specs.Prelude.{ℕ, ◌==◌, ◌&&◌, Bool, false, if◌then◌else◌, List, [], ◌∷◌, Option, Some, None, length}
use Rattle.std.specs.Prelude.{nat_lt, is_some}
use Rattle.sgx_rules.specs.declared.entries.Entry.{Entry}
use Rattle.sgx_types.specs.Counts.{count_below, earlier_or}
use Rattle.sgx_rules.specs.Frames.{put_by, made_before, content, enclave_in, is_put, is_block}
use Rattle.sgx_rules.specs.Processors.{Stay, stay}
use Rattle.sgx_rules.specs.Epochs.{is_track, is_in}

-- the place of the last block of a frame since its content was put
abbrev pub block_place : List Entry → ℕ → Option ℕ
block_place [] n = None
block_place (e ∷ past) n =
    if is_block e.event n then Some (length past)
    else if is_put (put_by e.event (made_before past)) n then None
    else block_place past n

-- the place of the first track of an enclave behind a place
abbrev pub track_behind : List Entry → ℕ → ℕ → Option ℕ
track_behind [] enclave from = None
track_behind (e ∷ past) enclave from =
    earlier_or (track_behind past enclave from) (is_track e.event enclave && nat_lt from (length past)) (length past)

-- inside the enclave since before a place
abbrev pub entered_before : ℕ → ℕ → Option Stay → Bool
entered_before enclave k None = false
entered_before enclave k (Some s) = (s.seat.enclave == enclave) && nat_lt s.entered k

-- whether a stay keeps a blocked page from going out: it began before the first track behind the block, or there is no
-- such track yet
abbrev pub keeps_back : ℕ → Option ℕ → Option Stay → Bool
keeps_back enclave None s = is_in enclave s
keeps_back enclave (Some k) s = entered_before enclave k s

-- how many processors keep a page of the enclave back that was blocked at a place
abbrev pub number_kept_back : List Entry → ℕ → ℕ → ℕ
number_kept_back past enclave from = count_below (λ p. keeps_back enclave (track_behind past enclave from) (stay past p)) 16

abbrev pub is_drained_from : List Entry → Option ℕ → Option ℕ → Bool
is_drained_from past (Some enclave) (Some j) = is_some (track_behind past enclave j) && (number_kept_back past enclave j == 0)
is_drained_from past _ _ = false

-- no translation of the page in a frame is left: it was blocked, then its enclave tracked, and each processor that was
-- inside at the track has left
abbrev pub is_drained : List Entry → ℕ → Bool
is_drained past n = is_drained_from past (enclave_in (content past n)) (block_place past n)

abbrev pub kept_back_from : List Entry → Option ℕ → Option ℕ → ℕ
kept_back_from past (Some enclave) (Some j) = number_kept_back past enclave j
kept_back_from past _ _ = 0

-- how many processors keep the page in a frame back
abbrev pub kept_back : List Entry → ℕ → ℕ
kept_back past n = kept_back_from past (enclave_in (content past n)) (block_place past n)
