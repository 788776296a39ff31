use Rattle.std.proofs.Common.{◌≡◌, false, sym, ap, subst, ◌∙◌}
use Rattle.run_course.specs.inner.Views.{BookView, is_stopped}
use Rattle.run_course.proofs.ReclaimViewLaws.{sealed_kept, sealed_seen}
use Rattle.run_course.proofs.StopLaws.{first_false, out_goes}
use Rattle.run_course.proofs.book.Book.commit_sealed.Goals as goal

pub invariant_of-self : goal.invariant_of-self
invariant_of-self g c =
    sealed_kept c.self.inside.course.value c.commit_sealed.new.self (g.B.Backing.told c.self.inside.store)
    (g.B.Backing.told c.commit_sealed.new.store) (g.B.Backing.plans c.self.inside.store) (g.B.Backing.plans c.commit_sealed.new.store)
    (g.B.Backing.spare c.commit_sealed.new.store) c.commit_sealed.ensures.keeps c.commit_sealed.ensures.plans c.commit_sealed.ensures.tells
    c.commit_sealed.result
    (g.B.Backing.spare c.self.inside.store) c.self.invariant
    (rw c.deref_mut.ensures.value at c.commit_sealed.ensures.turn)

pub returns-clause-turn : goal.returns-clause-turn
returns-clause-turn g c =
    let going = subst (λ (b : BookView). is_stopped b ≡ false) (sym c.self.view_is) (sym c.is_stopped.ensures ∙ c.if-is_stopped.false) in
    rw (← c.self.view_is, first_false c.self.inside.out_of_memory _ going)
    (sealed_seen c.self.inside.course.value c.commit_sealed.new.self (g.B.Backing.told c.self.inside.store)
    (g.B.Backing.told c.commit_sealed.new.store) (g.B.Backing.plans c.self.inside.store) (g.B.Backing.plans c.commit_sealed.new.store)
    (g.B.Backing.spare c.commit_sealed.new.store) c.commit_sealed.ensures.keeps c.commit_sealed.ensures.plans c.commit_sealed.ensures.tells
    c.commit_sealed.result
    (g.B.Backing.spare c.self.inside.store) c.self.invariant.keeps (λ none. ap g.B.Backing.told (c.commit_sealed.ensures.none none))
    (rw c.deref_mut.ensures.value at c.commit_sealed.ensures.turn))

pub returns-clause-stopped : goal.returns-clause-stopped
returns-clause-stopped g c =
    out_goes c.args.self.now _ (sym c.is_stopped.ensures ∙ c.if-is_stopped.false) c.commit_sealed.result (returns-clause-turn g c)
