use Rattle.std.proofs.Common.{◌≡◌, IfSome, [], sym, ap, subst, ◌∙◌}
use Rattle.job_grammar.specs.Jobs.{JobView}
use Rattle.driver_pass.specs.inner.Viewed.{is_kicked}
use Rattle.run_course.specs.declared.course.Course.{Course}
use Rattle.run_course.specs.inner.Kept.{IsKept}
use Rattle.run_course.proofs.ViewLaws.{plans_begin}
use Rattle.run_course.proofs.book.Book.start.Goals as goal

pub invariant_of-result : goal.invariant_of-result
invariant_of-result g c =
    let told = g.B.Backing.told c.plan.new.self in
    subst (λ (x : Course). IsKept x told (g.B.Backing.plans c.plan.new.self) (g.B.Backing.spare c.plan.new.self))
    (sym c.in_ok-course.ensures.ok)
    (record {
      keeps = c.in_ok-new.ensures.keeps told (g.B.Backing.spare c.plan.new.self)
          (subst (λ o. IfSome o (λ calls. calls ≡ [])) (sym c.plan.ensures.told) c.requires);
      plans_are = plans_begin told (g.B.Backing.plans c.plan.new.self) c.plans.result.now c.in_ok-new.field-0.job.plans
          c.in_ok-plan.ensures.lines (c.plans.ensures ∙ sym (ap (λ (j : JobView). j.plans) c.in_ok-new.ensures.job));
    })

pub returns-clause-kicked : goal.returns-clause-kicked
returns-clause-kicked g c =
    ap (λ (x : Course). is_kicked x.pass) c.in_ok-course.ensures.ok ∙ c.in_ok-new.ensures.kicks
