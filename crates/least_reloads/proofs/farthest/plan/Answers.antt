use Rattle.std.proofs.Common.{◌≡◌, ◌+◌, ℕ, sym, ap, subst, ◌∙◌, List, [], ◌∷◌, ◌++◌}
use Rattle.std.proofs.Common.{Some, is_some, cond, length, drop, get_or, slice_index, arith}
use Rattle.std.proofs.lemmas.Grind.{get_or_default_zero}
use Rattle.least_reloads.specs.Plans.{StepView, PlanView}
use Rattle.sgx_types.specs.declared.names.Page.{Page}
use Rattle.least_reloads.specs.inner.Farthest.{Holds, Keeps, Chosen, IsUseAt, AreUses}
use Rattle.least_reloads.proofs.KeepLaws.{Changes}
use Rattle.least_reloads.proofs.ChooseLaws.{at}
use Rattle.least_reloads.proofs.PlanLaws.{MadeSoFar, made_none, made_more, made_all}
use Rattle.least_reloads.proofs.farthest.plan.Goals as goal

pub loop-i-init : goal.loop-i-init
loop-i-init c = made_none c.args.frames c.args.accesses.now c.new-held.result.entries c.in_ok-steps.steps.items c.new-held.ensures.empty
    c.in_ok-steps.ensures.items

pub loop-i-preserved : goal.loop-i-preserved
loop-i-preserved c =
    let accesses = c.args.accesses.now in
    let i : ℕ = c.loop-i.i in
    let none : Page = record { enclave = 0; number = 0 } in
    let page : Page = get_or accesses i none in
    let uses : List ℕ = c.in_ok-uses.uses.items in
    let now : List (ℕ × Page) = c.choose.new.held.entries in
    let new : List (ℕ × Page) = c.insert.new.self.entries in
    let u : ℕ = c.index.result.now in
    let many : length uses ≡ length accesses = omega (arith, c.in_ok-uses.ensures.len, c.in_ok-uses.uses.ok.0) in
    let item : u ≡ get_or uses i u = c.index.ensures in
    let next : u ≡ slice_index uses i = item ∙ get_or_default_zero uses i u (omega (arith, many, c.loop-i-test.true)) in
    let found : AreUses accesses 0 (slice_index uses) = c.in_ok-uses.ensures.uses in
    let IsNext : ℕ → Type 0 = IsUseAt i (drop i accesses) in
    let use_at : IsUseAt i (drop i accesses) u = subst IsNext (sym next) (found i (omega arith) c.loop-i-test.true) in
    let changes : Changes (at now) u (Some page) (at new) = c.in_ok-insert.ensures.updates.0 in
    let size : length new ≡ length now + cond (is_some (at now u)) 0 1 = c.in_ok-insert.ensures.len
    ∙ ap {B = ℕ} (λ o. length now + cond (is_some o) 0 1) c.in_ok-insert.ensures.old in
    let items : c.push.new.self.items ≡ c.loop-i.steps.items ++ c.in_ok-step.step ∷ [] = c.in_ok-push.ensures.items in
    let loads : c.len.result ≡ length c.in_ok-step.step.load =
    omega (arith, c.len.ensures, c.step.inside.load.ok.0, ap (λ (t : StepView). length t.load) c.step.view_is) in
    let chooses : (coming pages : List Page) → Holds c.args.frames pages
    → Keeps i (page ∷ coming) pages (at c.loop-i.held.entries) (length c.loop-i.held.entries)
    → Chosen c.args.frames i page coming pages c.in_ok-step.step (at now) (length now) = c.in_ok-step.ensures in
    let more = made_more c.args.frames accesses c.loop-i.held.entries now new c.loop-i.steps.items c.loop-i.loads i u none
    c.in_ok-step.step c.requires c.loop-i-test.true c.loop-i.invariant chooses use_at changes size in
    let Made : List StepView → ℕ → Type 0 = λ steps loads. MadeSoFar c.args.frames accesses new steps (c.loop-i.loads + loads) (i + 1) in
    let MadeSteps : List StepView → Type 0 = λ steps. Made steps c.len.result in
    let MadeLoads : ℕ → Type 0 = Made (c.loop-i.steps.items ++ c.in_ok-step.step ∷ []) in
    subst MadeSteps (sym items) (subst MadeLoads (sym loads) more)

pub returns-clause-reached : goal.returns-clause-reached
returns-clause-reached c =
    let accesses = c.args.accesses.now in
    let plan : PlanView = record { steps = c.loop-i.steps.items; loads = c.loop-i.loads } in
    (made_all c.args.frames accesses c.loop-i.held.entries plan c.loop-i.i c.requires c.loop-i-test.false c.loop-i.invariant).lawful

pub returns-clause-least : goal.returns-clause-least
returns-clause-least c =
    let accesses = c.args.accesses.now in
    let plan : PlanView = record { steps = c.loop-i.steps.items; loads = c.loop-i.loads } in
    (made_all c.args.frames accesses c.loop-i.held.entries plan c.loop-i.i c.requires c.loop-i-test.false c.loop-i.invariant).fewest
