use Rattle.std.proofs.Common.{◌≡◌, ◌∙◌, ap, arith, length}
use Rattle.std.proofs.lemmas.Bool.{false≢true}
use Rattle.least_reloads.specs.Plans.{PlanView}
use Rattle.least_reloads.proofs.RunLaws.{run_length}
use Rattle.least_reloads.proofs.lawful.check.Goals as goal

pub returns-then-len-accesses : goal.returns-then-len-accesses
returns-then-len-accesses c =
    let size : c.len.result ≡ length c.args.plan.now.steps =
    omega (arith, c.len.ensures, c.plan.inside.steps.ok.0, ap (λ (p : PlanView). length p.steps) c.plan.view_is) in (
      λ h. absurd (false≢true h),
      λ lawful. absurd
          (c.if-len-accesses.true (size ∙ run_length c.args.frames _ c.args.accesses.now c.args.plan.now.steps lawful.run)),
    )
