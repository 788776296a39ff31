use Rattle.std.proofs.Common.{◌<◌}
use Rattle.sgx_types.specs.declared.names.Actor.TheVariants as actors
use Rattle.run_book.proofs.GrownLaws.{can_take, fits, kept, reclaim_made}
use Rattle.run_book.proofs.book.MachineBook.reclaim_turn.Goals as goal

pub behind-requires : goal.behind-requires
behind-requires g c =
    fits c.self.inside.book c.reclaim_turn.new.self c.self.inside.notes actors.Reclaimer
    (reclaim_made c.self.inside.book c.in_ok-turn.turn c.reclaim_turn.new.self c.in_ok-turn.ensures.turn)
    c.entries-before.result.now c.entries.result.now c.entries-before.ensures.value c.entries.ensures.value

pub note_all-requires-clause-can : goal.note_all-requires-clause-can
note_all-requires-clause-can g c =
    rw c.behind.ensures
    (can_take c.self.inside.book c.reclaim_turn.new.self c.self.inside.notes actors.Reclaimer
    (reclaim_made c.self.inside.book c.in_ok-turn.turn c.reclaim_turn.new.self c.in_ok-turn.ensures.turn)
    c.entries-before.result.now c.entries.result.now c.entries-before.ensures.value c.entries.ensures.value
    c.self.invariant c.entries.ensures.holds tt)

pub invariant_of-self-2 : goal.invariant_of-self-2
invariant_of-self-2 g c =
    kept c.self.inside.book c.reclaim_turn.new.self c.self.inside.notes actors.Reclaimer
    (reclaim_made c.self.inside.book c.in_ok-turn.turn c.reclaim_turn.new.self c.in_ok-turn.ensures.turn)
    c.entries-before.result.now c.entries.result.now c.entries-before.ensures.value c.entries.ensures.value
    c.note_all.new.self c.self.invariant c.entries.ensures.holds tt
    (rw c.behind.ensures at c.note_all.ensures.tells) c.note_all.ensures.words c.note_all.ensures.cpus
