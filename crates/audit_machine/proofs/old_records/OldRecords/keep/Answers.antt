use Rattle.std.proofs.Common.{Some}
use Rattle.audit_machine.proofs.MapLaws.{record_after}
use Rattle.audit_machine.proofs.old_records.OldRecords.keep.Goals as goal

pub returns-clause-kept : goal.returns-clause-kept
returns-clause-kept c = λ i g.
    record_after c.self.inside.works.entries c.insert.new.self.entries c.args.page g c.args.self.now (Some c.args.work)
    c.self.view_is (c.in_ok-insert.ensures.updates.0 g) i
