use Rattle.std.proofs.Common.{sym, ◌∙◌}
use Rattle.std.specs.HashMap.{get}
use Rattle.trace_places.specs.inner.Frames.{same_tenant_key}
use Rattle.trace_places.proofs.WriteLaws.{begun}
use Rattle.trace_places.proofs.frame_lists.FrameLists.begin.Goals as goal

pub returns-in_ok-insert-clause-same : goal.returns-in_ok-insert-clause-same
returns-in_ok-insert-clause-same c = λ t.
    begun c.tenant_key-key.result c.args.tenant t (get same_tenant_key c.args.self.now.lists)
    (get same_tenant_key c.insert.new.self) c.new.result
    c.tenant_key-key.ensures (sym c.contains_key.ensures ∙ c.if-not-contains_key.true) c.new.ensures.items c.in_ok-insert.ensures.updates.0
