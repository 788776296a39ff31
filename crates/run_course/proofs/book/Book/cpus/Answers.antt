use Rattle.std.proofs.Common.{List, length, sym, ap, subst, ◌∙◌, arith}
use Rattle.std.proofs.lemmas.List.{length-map}
use Rattle.job_grammar.specs.declared.jobs.Op.{Op}
use Rattle.job_grammar.specs.inner.Valid.{IsValid}
use Rattle.run_course.specs.declared.course.Course.{Course}
use Rattle.run_course.specs.inner.Views.{BookView}
use Rattle.run_course.proofs.book.Book.cpus.Goals as goal

pub overflow_cast-result : goal.overflow_cast-result
overflow_cast-result g c =
    let few = c.self.invariant.keeps.book.turns.valid.few_scripts in
    let course = ap (λ (course : Course). length course.job.scripts) c.deref.ensures in
    let same = sym (length-map c.scripts.result.now _) ∙ ap (λ (xs : List (List Op)). length xs) c.scripts.ensures in
    omega (arith, few, course, same)

pub returns-clause-value : goal.returns-clause-value
returns-clause-value g c =
    sym (length-map c.scripts.result.now _) ∙ (ap (λ (xs : List (List Op)). length xs) c.scripts.ensures
    ∙ (ap (λ (course : Course). length course.job.scripts) c.deref.ensures
    ∙ ap (λ (b : BookView). length b.job.scripts) c.self.view_is))

pub returns-clause-valid : goal.returns-clause-valid
returns-clause-valid g c = subst (λ (b : BookView). IsValid b.job) c.self.view_is c.self.invariant.keeps.book.turns.valid
