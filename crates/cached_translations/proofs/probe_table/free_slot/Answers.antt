use Rattle.std.proofs.Common.{◌≡◌, sym, ◌∙◌, true, is_some, ◌+◌}
use Rattle.cached_translations.specs.inner.Probe.{slot_at}
use Rattle.cached_translations.proofs.ProbeLaws.{still_few, taken_more}
use Rattle.cached_translations.proofs.probe_table.free_slot.Goals as goal

pub loop-step-preserved : goal.loop-step-preserved
loop-step-preserved c =
    let here : is_some (slot_at c.args.slots.now (c.args.number + c.loop-step.step)) ≡ true = sym c.is_some.ensures
    ∙ c.loop-step-test.true in
    let taken = taken_more c.args.slots.now c.args.number c.loop-step.step c.loop-step.invariant.taken here in
    record { few = still_few c.args.slots.now c.requires.whole c.requires.room c.args.number (c.loop-step.step + 1) taken; taken = taken }
