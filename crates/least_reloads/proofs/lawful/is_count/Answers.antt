use Rattle.std.proofs.Common.{◌≡◌, ◌+◌, ℕ, length, get_or, arith, ap, ◌∙◌}
use Rattle.std.proofs.lemmas.Bool.{false≢true}
use Rattle.least_reloads.specs.Plans.{StepView}
use Rattle.least_reloads.proofs.RunLaws.{loads_of-more, loads_of-le}
use Rattle.least_reloads.proofs.lawful.is_count.Goals as goal

pub returns-then-left-count : goal.returns-then-left-count
returns-then-left-count c =
    let i : ℕ = c.loop-step.step-index in
    let more = loads_of-more c.args.steps.now i c.step-item.result c.loop-step-test.true in
    let count : c.len-count.result ≡ length (get_or c.args.steps.now i c.step-item.result).load =
    omega (
      arith,
      c.len-count.ensures,
      c.step.inside.load.ok.0,
      ap (λ (t : StepView). length t.load) (c.step.view_is
          ∙ c.step-item.is),
    ) in
    (λ h. absurd (false≢true h), λ h. absurd (omega (arith, h, more, count, loads_of-le c.args.steps.now (i + 1), c.loop-step.invariant)))

pub loop-step-preserved : goal.loop-step-preserved
loop-step-preserved c =
    let i : ℕ = c.loop-step.step-index in
    let more = loads_of-more c.args.steps.now i c.step-item.result c.loop-step-test.true in
    let count : c.len-count.result ≡ length (get_or c.args.steps.now i c.step-item.result).load =
    omega (
      arith,
      c.len-count.ensures,
      c.step.inside.load.ok.0,
      ap (λ (t : StepView). length t.load) (c.step.view_is
          ∙ c.step-item.is),
    ) in
    omega (arith, more, count, c.loop-step.invariant)
