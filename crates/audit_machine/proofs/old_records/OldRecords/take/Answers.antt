use Rattle.std.proofs.Common.{None, option_map, ap, sym, ◌∙◌}
use Rattle.audit_machine.specs.inner.Kept.{kept_of, records_of}
use Rattle.audit_machine.proofs.MapLaws.{record_after, record_at}
use Rattle.audit_machine.proofs.old_records.OldRecords.take.Goals as goal

pub returns-clause-taken : goal.returns-clause-taken
returns-clause-taken c =
    ap (option_map kept_of) c.remove.ensures.value ∙ sym (record_at c.self.inside.works.entries c.args.page)
    ∙ ap (λ pairs. records_of pairs c.args.page) c.self.view_is

pub returns-clause-gone : goal.returns-clause-gone
returns-clause-gone c = λ i g.
    record_after c.self.inside.works.entries c.remove.new.self.entries c.args.page g c.args.self.now None
    c.self.view_is (c.remove.ensures.updates.0 g) i
