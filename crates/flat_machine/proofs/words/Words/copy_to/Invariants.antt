use Rattle.std.proofs.Common.{◌≡◌, ℕ, ◌<◌, length, get_or, [], w64}
use Rattle.std.specs.Int.{to_le_bytes}
use Rattle.flat_machine.proofs.words.Words.copy_to.Given as goal

abbrev pub invariant-loop-i : goal.invariant-loop-i
invariant-loop-i l = (length l.page ≡ 512) × ((k : ℕ) → k < l.i → get_or l.page k [] ≡ to_le_bytes w64 (get_or l.self k 0))
