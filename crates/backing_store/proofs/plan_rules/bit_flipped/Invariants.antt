use Rattle.std.proofs.Common.{◌≡◌, drop}
use Rattle.backing_store.specs.inner.Store.{flips, first_of}
use Rattle.backing_store.proofs.plan_rules.bit_flipped.Given as goal

-- no line so far says anything
abbrev pub invariant-loop-line : goal.invariant-loop-line
invariant-loop-line l = first_of (flips l.page l.number) l.plans ≡ first_of (flips l.page l.number) (drop l.line-index l.plans)
