-- What many rounds make of the processors of a gate.
use Rattle.std.specs.Prelude.{◌≡◌, ℕ, ◌+◌, ◌<◌, ◌≤◌, List, None, length, slice_index_or}
use Rattle.frame_gate.specs.declared.limits.TheConstants.{MOST_ENTRIES}
use Rattle.frame_gate.specs.inner.Words.{TableId}
use Rattle.frame_gate.specs.inner.Views.{visit}
use Rattle.frame_gate.specs.inner.Known.{ProcKnown, IsOutside}

-- the seat is the gate's, outside, and may enter so often
abbrev pub IsReady : TableId → ℕ → ProcKnown → Type 0
IsReady gate rounds p = (p.gate ≡ gate) × IsOutside p × (p.visit.entries + rounds ≤ MOST_ENTRIES)

-- the seat is outside, and has entered exactly so often more
abbrev pub HasEntered : ℕ → ProcKnown → ProcKnown → Type 0
HasEntered rounds p q = (q.gate ≡ p.gate) × (q.visit ≡ visit (p.visit.entries + rounds) None)

-- each seat, in its place
abbrev pub HaveEntered : ℕ → List ProcKnown → List ProcKnown → Type 0
HaveEntered rounds before after =
    (k : ℕ) (d : ProcKnown) → k < length before → HasEntered rounds (slice_index_or before k d) (slice_index_or after k d)

-- each of these seats is the gate's and outside, in its place
abbrev pub AreOutside : TableId → List ProcKnown → List ProcKnown → Type 0
AreOutside gate before after =
    (k : ℕ) (d : ProcKnown) → k < length before → ((slice_index_or after k d).gate ≡ gate) × IsOutside (slice_index_or after k d)
