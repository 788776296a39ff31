use Rattle.std.proofs.Common.{◌≡◌, ◌<◌, ℕ, Option, Some, IsSomeAnd, vec_len, vec_capacity, sym, ap, subst, ◌∙◌}
use Rattle.std.specs.Global.{Vec}
use Rattle.std.specs.HashMap.{get}
use Rattle.trace_places.specs.Places.{put_in}
use Rattle.trace_places.specs.inner.Frames.{same_tenant_key}
use Rattle.trace_places.proofs.WriteLaws.{written}
use Rattle.trace_places.proofs.frame_lists.FrameLists.put_in.Goals as goal

pub put_in-requires : goal.put_in-requires
put_in-requires c =
    let Roomy : Option (Vec ℕ) → Type 0 = λ o. IsSomeAnd o (λ list. vec_len list < vec_capacity list) in
    subst Roomy (ap (get same_tenant_key c.args.self.now.lists) (sym c.tenant_key.ensures) ∙ sym c.in-Some.ensures.value) c.requires.room

pub returns-in-Some : goal.returns-in-Some
returns-in-Some c = λ t.
    let here : get same_tenant_key c.args.self.now.lists c.tenant_key.result ≡ Some c.in-Some.list.now = sym c.in-Some.ensures.value in
    let changes = (c.get_mut.follows.holds c.put_in.new.list).3 (search here) in
    written c.tenant_key.result c.args.tenant t (put_in c.args.frame) (get same_tenant_key c.args.self.now.lists)
    (get same_tenant_key (c.get_mut.follows.lender c.put_in.new.list)) c.in-Some.list.now c.put_in.new.list c.tenant_key.ensures here
    c.put_in.ensures changes.0
