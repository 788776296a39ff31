use Rattle.std.proofs.Common.{◌∙◌}
use Rattle.audit_pass.proofs.AgeLaws.{age_is}
use Rattle.audit_pass.proofs.judging.keeps_age.Goals as goal

pub returns : goal.returns
returns c = λ k made j past out a all shown h stands.
    c.is_age_kept.ensures
    ∙ age_is k made j past c.args.driver.now c.args.machine.now c.args.pass.now out c.args.entry.now a all shown h stands
