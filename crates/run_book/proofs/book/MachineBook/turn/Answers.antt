use Rattle.std.proofs.Common.{◌<◌, length, sym, subst}
use Rattle.sgx_types.specs.declared.names.Actor.TheVariants as actors
use Rattle.run_book.specs.inner.Words.{MachineView}
use Rattle.run_book.proofs.GrownLaws.{can_take, fits, kept, run_made}
use Rattle.run_book.proofs.book.MachineBook.turn.Goals as goal

pub behind-requires : goal.behind-requires
behind-requires g c =
    fits c.self.inside.book c.turn.new.self c.self.inside.notes (actors.Cpu c.args.cpu)
    (run_made c.self.inside.book c.args.cpu c.in_ok-turn.turn c.turn.new.self c.in_ok-turn.ensures.turn)
    c.entries-before.result.now c.entries.result.now c.entries-before.ensures.value c.entries.ensures.value

pub note_all-requires-clause-can : goal.note_all-requires-clause-can
note_all-requires-clause-can g c =
    rw c.behind.ensures
    (can_take c.self.inside.book c.turn.new.self c.self.inside.notes (actors.Cpu c.args.cpu)
    (run_made c.self.inside.book c.args.cpu c.in_ok-turn.turn c.turn.new.self c.in_ok-turn.ensures.turn)
    c.entries-before.result.now c.entries.result.now c.entries-before.ensures.value c.entries.ensures.value
    c.self.invariant c.entries.ensures.holds
    (subst (λ (v : MachineView). c.args.cpu.0 < length v.book.job.scripts) (sym c.self.view_is) c.requires.cpu))

pub invariant_of-self-2 : goal.invariant_of-self-2
invariant_of-self-2 g c =
    kept c.self.inside.book c.turn.new.self c.self.inside.notes (actors.Cpu c.args.cpu)
    (run_made c.self.inside.book c.args.cpu c.in_ok-turn.turn c.turn.new.self c.in_ok-turn.ensures.turn)
    c.entries-before.result.now c.entries.result.now c.entries-before.ensures.value c.entries.ensures.value
    c.note_all.new.self c.self.invariant c.entries.ensures.holds
    (subst (λ (v : MachineView). c.args.cpu.0 < length v.book.job.scripts) (sym c.self.view_is) c.requires.cpu)
    (rw c.behind.ensures at c.note_all.ensures.tells) c.note_all.ensures.words c.note_all.ensures.cpus
