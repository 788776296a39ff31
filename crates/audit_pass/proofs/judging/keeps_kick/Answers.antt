use Rattle.std.proofs.Common.{◌∙◌}
use Rattle.audit_pass.proofs.TryLaws.{kick_is_kept}
use Rattle.audit_pass.proofs.judging.keeps_kick.Goals as goal

pub returns : goal.returns
returns c = λ k made j past d a stands.
    c.is_kick_kept.ensures ∙ kick_is_kept k made j past d c.args.machine.now a c.args.pass.now c.args.entry.now stands
