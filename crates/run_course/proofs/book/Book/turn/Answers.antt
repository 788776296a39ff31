use Rattle.std.proofs.Common.{◌≡◌, true, false, is_some, sym, ap, subst, ◌∙◌}
use Rattle.driver_laws.specs.inner.Agrees.{loaded_by}
use Rattle.driver_rules.specs.Turns.{last_of}
use Rattle.run_course.specs.inner.Views.{BookView, is_stopped}
use Rattle.run_course.proofs.OpenViewLaws.{again_seen, run_turn_kept, run_turn_seen}
use Rattle.run_course.proofs.StopLaws.{first_false, run_goes}
use Rattle.run_course.proofs.book.Book.turn.Goals as goal

pub invariant_of-self : goal.invariant_of-self
invariant_of-self g c =
    run_turn_kept c.self.inside.course.value c.turn.new.self (g.B.Backing.told c.self.inside.store) (g.B.Backing.told c.turn.new.store)
    (g.B.Backing.plans c.self.inside.store) (g.B.Backing.plans c.turn.new.store) (g.B.Backing.spare c.turn.new.store) c.args.cpu
    c.turn.ensures.keeps c.turn.ensures.plans c.turn.ensures.tells c.turn.result (g.B.Backing.spare c.self.inside.store)
    (c.turn.new.store ≡ c.self.inside.store) c.self.invariant (rw c.deref_mut.ensures.value at c.turn.ensures.turn)
    (rw c.deref_mut.ensures.value at c.turn.ensures.memory)

pub returns-clause-turn : goal.returns-clause-turn
returns-clause-turn g c =
    let going = subst (λ (b : BookView). is_stopped b ≡ false) (sym c.self.view_is) (sym c.is_stopped.ensures ∙ c.if-is_stopped.false) in
    rw (← c.self.view_is, first_false c.self.inside.out_of_memory _ going)
    (run_turn_seen c.self.inside.course.value c.turn.new.self (g.B.Backing.told c.self.inside.store) (g.B.Backing.told c.turn.new.store)
    (g.B.Backing.plans c.self.inside.store) (g.B.Backing.plans c.turn.new.store) (g.B.Backing.spare c.turn.new.store) c.args.cpu
    c.turn.ensures.keeps c.turn.ensures.plans c.turn.ensures.tells c.turn.result (rw c.deref_mut.ensures.value at c.turn.ensures.calm)
    (rw c.deref_mut.ensures.value at c.turn.ensures.turn))

pub returns-clause-stopped : goal.returns-clause-stopped
returns-clause-stopped g c =
    run_goes c.args.self.now _ (sym c.is_stopped.ensures ∙ c.if-is_stopped.false) c.args.cpu c.turn.result (returns-clause-turn g c)

pub returns-clause-again : goal.returns-clause-again
returns-clause-again g c = λ pending.
    (let same = (rw c.deref_mut.ensures.value at c.turn.ensures.again)
    (subst (λ (b : BookView). is_some (loaded_by (last_of b.past c.args.cpu.0)) ≡ true) (sym c.self.view_is) pending) in
    again_seen c.self.inside.course.value c.turn.new.self (g.B.Backing.told c.self.inside.store) (g.B.Backing.told c.turn.new.store)
    (g.B.Backing.plans c.self.inside.store) (g.B.Backing.plans c.turn.new.store) c.self.inside.out_of_memory same.0
    (ap g.B.Backing.told same.1) (ap g.B.Backing.plans same.1) ∙ c.self.view_is)
