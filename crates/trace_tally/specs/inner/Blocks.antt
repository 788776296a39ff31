-- What is kept of frames since they were blocked, and when it is that of entries.
use Rattle.std.specs.Prelude.{◌≡◌, ℕ, ◌+◌, Bool, false, nat_eq, if◌then◌else◌, List, Option, Some, None}
use Rattle.std.specs.HashMap.{get}
use Rattle.sgx_rules.specs.declared.entries.Entry.{Entry}
use Rattle.sgx_rules.specs.declared.entries.Event.{Event}
use Rattle.sgx_types.specs.declared.names.Frame.{Frame}
use Rattle.trace_tally.specs.declared.blocks.Blocked.{Blocked}
use Rattle.trace_tally.specs.declared.blocks.Blocks.{Blocks}
use Rattle.trace_tally.specs.Tests.{blocked_by, untracked_by, is_frame, was_entered, untracked}

-- a frame that was never blocked
abbrev pub unblocked : Blocked
unblocked = record { entered = false; untracked = 0 }

abbrev pub blocked_or : Option Blocked → Blocked
blocked_or None = unblocked
blocked_or (Some frame) = frame

abbrev pub blocked_in : Blocks → ℕ → Blocked
blocked_in known n = blocked_or (get nat_eq known.frames n)

-- what is kept is that of these entries
pub record BlocksFollow (known : Blocks) (past : List Entry) : Type 0 where
  pub entered : (n : ℕ) → (blocked_in known n).entered ≡ was_entered past n
  pub untracked : (n : ℕ) → (blocked_in known n).untracked ≡ untracked past n

-- the number of a frame
abbrev pub numbered : Option Frame → Option ℕ
numbered None = None
numbered (Some f) = Some f.0

-- a frame behind an event, where a processor is inside the enclave of the page of the frame that this blocks, or is not
abbrev pub blocked_after : Event → Bool → ℕ → Blocked → Blocked
blocked_after event is_entered n before =
    if is_frame (blocked_by event) n then record { entered = is_entered; untracked = 0 }
    else (if is_frame (untracked_by event) n then record { entered = before.entered; untracked = before.untracked + 1 } else before)
