-- The generator: a state of 64 bits, and the numbers that are drawn with it.
use Rattle.std.specs.Prelude.{ℕ, zero, suc, ◌+◌, ◌*◌, ◌/◌, ◌%◌, ◌^◌}

-- a draw takes the state to the next, mod 2^64
unfoldable pub next_state : ℕ → ℕ
next_state x = (x * 6364136223846793005 + 1442695040888963407) % 2 ^ 64

-- .. and answers a number below its bound, by the upper 31 bits of the state that it has come to
unfoldable pub number_below : ℕ → ℕ → ℕ
number_below bound x = x / 2 ^ 33 % bound

-- the state behind so many draws
abbrev pub state_after : ℕ → ℕ → ℕ
state_after zero x = x
state_after (suc n) x = next_state (state_after n x)

-- what the nth draw from a state on answers, counted from 1
abbrev pub draw : ℕ → ℕ → ℕ → ℕ
draw n bound x = number_below bound (state_after n x)
