use Rattle.std.proofs.Common.{◌≡◌, false, sym, rules}
use Rattle.audit_dues.specs.inner.Ends.{is_done_by}
use Rattle.audit_dues.proofs.EndLaws.{not_all_done}
use Rattle.audit_dues.proofs.ending.are_done.Goals as goal

pub returns-then-not-is_done : goal.returns-then-not-is_done
returns-then-not-is_done c =
    let not_done : is_done_by c.args.job.now c.args.turns.now c.args.machine.now c.loop-number.number ≡ false = search rules in
    sym (not_all_done c.args.job.now c.args.turns.now c.args.machine.now c.args.cpus c.loop-number.number c.loop-number-test.true not_done)
