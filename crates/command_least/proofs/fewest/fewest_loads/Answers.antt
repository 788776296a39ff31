use Rattle.std.proofs.Common.{◌≡◌, List, map, subst, sym, ap, ◌∙◌, arith}
use Rattle.least_reloads.specs.Plans.{PlanView}
use Rattle.sgx_types.specs.declared.names.Page.{Page}
use Rattle.command_least.specs.Fewest.{IsFewest}
use Rattle.command_least.specs.inner.Kept.{page_of}
use Rattle.command_least.proofs.RenamingLaws.{fewest_named}
use Rattle.command_least.proofs.fewest.fewest_loads.Goals as goal

pub returns : goal.returns
returns c =
    let names = c.in_ok-pages.ensures in
    let accesses = map page_of c.args.accesses.now in
    let same : c.deref.result.now ≡ map names.by.to accesses = c.deref.ensures.value ∙ names.same in
    let Fewest : List Page → Type 0 = λ pages. IsFewest pages c.args.frames c.plan-2.inside.loads in
    let is : c.in_ok-plan.plan.loads ≡ c.plan-2.inside.loads = ap (λ (plan : PlanView). plan.loads) (sym c.plan-2.view_is) in
    fewest_named names.by accesses c.args.frames c.plan-2.inside.loads
    (subst Fewest same (record {
      plan = c.in_ok-plan.plan;
      lawful = c.in_ok-plan.ensures.reached;
      makes = is;
      least = λ other lawful. let le = c.in_ok-plan.ensures.least other lawful in omega (arith, is, le);
    }))
