use Rattle.std.proofs.Common.{◌≤◌, ◌^◌, length, Err, ap, arith}
use Rattle.page_commands.proofs.CommandLaws.{takes-all, fault-too_long}
use Rattle.page_commands.proofs.jobs.read.Goals as goal

pub returns-in-Err-TooLong-clause-fault : goal.returns-in-Err-TooLong-clause-fault
returns-in-Err-TooLong-clause-fault g c =
    fault-too_long (g.J.Source.left c.args.source.now) (c.in-Err-TooLong.ensures.too_long (ap Err c.in-Err-TooLong.field-0-is))

pub returns-in-Ok-read_job-clause-reads : goal.returns-in-Ok-read_job-clause-reads
returns-in-Ok-read_job-clause-reads g c =
    let short : length c.in-Ok.bytes.items ≤ 2 ^ 24 = omega (arith, c.in-Ok.bytes.ok.0, c.in-Ok.ensures.within) in
    takes-all (g.J.Source.left c.args.source.now) _ c.in-Ok.bytes.items (2 ^ 24) c.in-Ok.ensures.all short c.in-Ok.ensures.at_end

pub returns-in-Err-Fault-clause-reads : goal.returns-in-Err-Fault-clause-reads
returns-in-Err-Fault-clause-reads g c =
    let short : length c.in-Ok.bytes.items ≤ 2 ^ 24 = omega (arith, c.in-Ok.bytes.ok.0, c.in-Ok.ensures.within) in
    takes-all (g.J.Source.left c.args.source.now) _ c.in-Ok.bytes.items (2 ^ 24) c.in-Ok.ensures.all short c.in-Ok.ensures.at_end
