use Rattle.std.proofs.Common.{◌≡◌, false, sym, subst, ◌∙◌}
use Rattle.run_course.specs.inner.Views.{BookView, is_stopped}
use Rattle.run_course.proofs.OpenViewLaws.{opened_kept, opened_seen}
use Rattle.run_course.proofs.StopLaws.{first_false, load_goes}
use Rattle.run_course.proofs.book.Book.commit_opened.Goals as goal

pub invariant_of-self : goal.invariant_of-self
invariant_of-self g c =
    opened_kept c.self.inside.course.value c.commit_opened.new.self (g.B.Backing.told c.self.inside.store)
    (g.B.Backing.plans c.self.inside.store) (g.B.Backing.spare c.self.inside.store) c.args.cpu c.commit_opened.result c.self.invariant
    ((rw c.deref_mut.ensures.value at c.commit_opened.ensures) (record {
      told = g.B.Backing.told c.self.inside.store;
      spare = g.B.Backing.spare c.self.inside.store;
      keeps = c.self.invariant.keeps;
    }))

pub returns-clause-turn : goal.returns-clause-turn
returns-clause-turn g c =
    let going = subst (λ (b : BookView). is_stopped b ≡ false) (sym c.self.view_is) (sym c.is_stopped.ensures ∙ c.if-is_stopped.false) in
    rw (← c.self.view_is, first_false c.self.inside.out_of_memory _ going)
    (opened_seen c.self.inside.course.value c.commit_opened.new.self (g.B.Backing.told c.self.inside.store)
    (g.B.Backing.plans c.self.inside.store) (g.B.Backing.spare c.self.inside.store) c.args.cpu c.commit_opened.result
    ((rw c.deref_mut.ensures.value at c.commit_opened.ensures) (record {
      told = g.B.Backing.told c.self.inside.store;
      spare = g.B.Backing.spare c.self.inside.store;
      keeps = c.self.invariant.keeps;
    })))

pub returns-clause-stopped : goal.returns-clause-stopped
returns-clause-stopped g c =
    load_goes c.args.self.now _ (sym c.is_stopped.ensures ∙ c.if-is_stopped.false) c.args.cpu c.commit_opened.result
    (returns-clause-turn g c)
