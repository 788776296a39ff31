use Rattle.std.proofs.Common.{◌≡◌, false, sym, subst, ◌∙◌}
use Rattle.run_course.specs.inner.Views.{BookView, is_stopped}
use Rattle.run_course.proofs.StopLaws.{build_goes, first_false}
use Rattle.run_course.proofs.ViewLaws.{build_turn_kept, build_turn_seen}
use Rattle.run_course.proofs.book.Book.build_turn.Goals as goal

pub invariant_of-self : goal.invariant_of-self
invariant_of-self g c =
    build_turn_kept c.self.inside.course.value (g.B.Backing.told c.self.inside.store) (g.B.Backing.plans c.self.inside.store)
    (g.B.Backing.spare c.self.inside.store) c.build_turn.new.self c.build_turn.result c.self.invariant
    (rw c.deref_mut.ensures.value at c.build_turn.ensures.turn) (rw c.deref_mut.ensures.value at c.build_turn.ensures.memory)

pub returns-clause-turn : goal.returns-clause-turn
returns-clause-turn g c =
    let going = subst (λ (b : BookView). is_stopped b ≡ false) (sym c.self.view_is) (sym c.is_stopped.ensures ∙ c.if-is_stopped.false) in
    rw (← c.self.view_is, first_false c.self.inside.out_of_memory _ going)
    (build_turn_seen c.self.inside.course.value (g.B.Backing.told c.self.inside.store) (g.B.Backing.plans c.self.inside.store)
    (g.B.Backing.spare c.self.inside.store) c.build_turn.new.self c.build_turn.result c.self.invariant.keeps
    (rw c.deref_mut.ensures.value at c.build_turn.ensures.turn))

pub returns-clause-stopped : goal.returns-clause-stopped
returns-clause-stopped g c =
    build_goes c.args.self.now _ (sym c.is_stopped.ensures ∙ c.if-is_stopped.false) c.build_turn.result (returns-clause-turn g c)
