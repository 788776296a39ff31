use Rattle.std.proofs.Common.{arith}
use Rattle.cached_translations.proofs.ProbeLaws.{absent}
use Rattle.cached_translations.proofs.probe_table.slot_of.Goals as goal

pub returns-in_err-slot-clause-none : goal.returns-in_err-slot-clause-none
returns-in_err-slot-clause-none c =
    λ is_none. absent c.args.slots.now c.requires c.args.number c.loop-step.step (omega arith) c.loop-step.invariant.others
    (λ few. c.in_err-slot.was)

pub returns-clause-none : goal.returns-clause-none
returns-clause-none c =
    λ is_none. absent c.args.slots.now c.requires c.args.number c.loop-step.step (omega arith) c.loop-step.invariant.others
    (λ few. absurd (omega arith))
