use Rattle.std.proofs.Common.{◌≡◌, Some, sym}
use Rattle.std.specs.HashMap.{get}
use Rattle.trace_places.specs.Places.{take_out}
use Rattle.trace_places.specs.inner.Frames.{same_tenant_key}
use Rattle.trace_places.proofs.WriteLaws.{written}
use Rattle.trace_places.proofs.frame_lists.FrameLists.take_out.Goals as goal

pub returns-in-Some : goal.returns-in-Some
returns-in-Some c = λ t.
    let here : get same_tenant_key c.args.self.now.lists c.tenant_key.result ≡ Some c.in-Some.list.now = sym c.in-Some.ensures.value in
    let changes = (c.get_mut.follows.holds c.take_out.new.list).3 (search here) in
    written c.tenant_key.result c.args.tenant t (take_out c.args.frame) (get same_tenant_key c.args.self.now.lists)
    (get same_tenant_key (c.get_mut.follows.lender c.take_out.new.list)) c.in-Some.list.now c.take_out.new.list c.tenant_key.ensures here
    c.take_out.ensures changes.0
