use Rattle.std.proofs.Common.{◌≡◌, length}
use Rattle.run_laws.specs.inner.Bits.{below}
use Rattle.run_course.specs.inner.Kicking.{CanKick, HasKicked}
use Rattle.run_course.proofs.course.Course.kick.Given as goal

-- those below the number are kicked
abbrev pub invariant-loop-number : goal.invariant-loop-number
invariant-loop-number l =
    (can : CanKick l.initial.self l.bits)
    → HasKicked l.initial.self (below l.number can.cpus) can.told l.self
    × (l.kicked ≡ length (below l.number can.cpus))
