use Rattle.run_course.proofs.PromiseLaws.{promises}
use Rattle.run_course.proofs.book.Book.into_parts.Goals as goal

pub returns-clause-holds : goal.returns-clause-holds
returns-clause-holds g c =
    rw (← c.self.view_is)
    (promises c.self.inside.course.value (g.B.Backing.told c.self.inside.store) (g.B.Backing.plans c.self.inside.store)
    (g.B.Backing.spare c.self.inside.store) c.self.inside.out_of_memory c.self.invariant)
