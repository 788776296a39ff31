use Rattle.std.proofs.Common.{sym, ◌∙◌}
use Rattle.audit_dues.proofs.EndLaws.{end_by_build, end_by_cpus, end_is}
use Rattle.audit_dues.proofs.ending.is_ended.Goals as goal

pub returns-then-is_build_whole : goal.returns-then-is_build_whole
returns-then-is_build_whole c = λ k past a s along told.
    let j = c.args.job.now in
    let d = c.args.driver.now in
    let m = c.args.machine.now in
    let t = c.args.turns.now in
    c.are_done.ensures ∙ end_by_cpus j t m d.cpus c.if-turns.false (sym c.is_build_whole.ensures ∙ c.if-is_build_whole.true)
    ∙ end_is k j past d m t a s along told

pub returns-else-is_build_whole : goal.returns-else-is_build_whole
returns-else-is_build_whole c = λ k past a s along told.
    let j = c.args.job.now in
    let d = c.args.driver.now in
    let m = c.args.machine.now in
    let t = c.args.turns.now in
    c.if-is_build_whole.false ∙ end_by_build j t m d.cpus c.if-turns.false (sym c.is_build_whole.ensures ∙ c.if-is_build_whole.false)
    ∙ end_is k j past d m t a s along told
