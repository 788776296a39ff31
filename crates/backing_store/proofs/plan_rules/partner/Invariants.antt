use Rattle.std.proofs.Common.{◌≡◌, drop}
use Rattle.backing_store.specs.inner.Store.{swaps, first_of}
use Rattle.backing_store.proofs.plan_rules.partner.Given as goal

-- no line so far says anything
abbrev pub invariant-loop-line : goal.invariant-loop-line
invariant-loop-line l = first_of (swaps l.page) l.plans ≡ first_of (swaps l.page) (drop l.line-index l.plans)
