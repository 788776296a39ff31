use Rattle.std.proofs.Common.{◌≡◌, Some, sym, ◌∙◌}
use Rattle.std.specs.HashMap.{get}
use Rattle.trace_places.specs.inner.Frames.{same_tenant_key}
use Rattle.trace_places.proofs.WriteLaws.{rewritten}
use Rattle.trace_places.proofs.frame_lists.FrameLists.reserve.Goals as goal

pub returns-in_err-reserve-clause-same : goal.returns-in_err-reserve-clause-same
returns-in_err-reserve-clause-same c = λ t.
    let here : get same_tenant_key c.begin.new.self.lists c.tenant_key.result ≡ Some c.in-Some.list.now = sym c.in-Some.ensures.value in
    let changes = (c.get_mut.follows.holds c.reserve.new.self).3 (search here) in
    rewritten c.tenant_key.result c.args.tenant t (get same_tenant_key c.begin.new.self.lists)
    (get same_tenant_key (c.get_mut.follows.lender c.reserve.new.self)) c.in-Some.list.now c.reserve.new.self c.tenant_key.ensures here
    c.reserve.ensures.items changes.0
    ∙ c.begin.ensures.same t

pub returns-in_ok-reserve-clause-same : goal.returns-in_ok-reserve-clause-same
returns-in_ok-reserve-clause-same c = λ t.
    let here : get same_tenant_key c.begin.new.self.lists c.tenant_key.result ≡ Some c.in-Some.list.now = sym c.in-Some.ensures.value in
    let changes = (c.get_mut.follows.holds c.reserve.new.self).3 (search here) in
    rewritten c.tenant_key.result c.args.tenant t (get same_tenant_key c.begin.new.self.lists)
    (get same_tenant_key (c.get_mut.follows.lender c.reserve.new.self)) c.in-Some.list.now c.reserve.new.self c.tenant_key.ensures here
    c.reserve.ensures.items changes.0
    ∙ c.begin.ensures.same t
