-- The epochs that processors and blocked pages noted.
use Rattle.std.specs.Prelude.{ℕ, ◌&&◌, Bool, not, if◌then◌else◌, List, [], ◌∷◌, Option, Some}
use Rattle.std.specs.Prelude.{None}
use Rattle.sgx_rules.specs.declared.entries.Entry.{Entry}
use Rattle.sgx_types.specs.Counts.{count_below}
use Rattle.sgx_rules.specs.Frames.{put_by, made_before, is_put, is_block}
use Rattle.sgx_rules.specs.Processors.{Move, Enters, move_by, is_by, stay}
use Rattle.sgx_rules.specs.Epochs.{epoch, epoch_in, last_track, is_in, is_in_before}

abbrev pub noted_after : Move → Bool → (ℕ → ℕ) → ℕ → ℕ
noted_after (Enters seat) is_its_own epochs before = if is_its_own then epochs seat.enclave else before
noted_after _ is_its_own epochs before = before

-- the epoch that a processor found when it last entered
abbrev pub noted : ℕ → List Entry → ℕ → ℕ
noted first [] p = 0
noted first (e ∷ past) p = noted_after (move_by e.event) (is_by p e.actor) (epoch first past) (noted first past p)

-- the epoch of the last block of a frame since its content was put
abbrev pub block_epoch : ℕ → List Entry → ℕ → Option ℕ
block_epoch first [] n = None
block_epoch first (e ∷ past) n =
    if is_block e.event n then Some (epoch_in first past n)
    else if is_put (put_by e.event (made_before past)) n then None
    else block_epoch first past n

-- how many others are inside
abbrev pub newer_at : List Entry → ℕ → ℕ
newer_at past enclave =
    count_below (λ p. is_in enclave (stay past p) && not (is_in_before enclave (last_track past enclave) (stay past p))) 16
