use Rattle.std.proofs.Common.{sym, ◌∙◌}
use Rattle.driver_list.proofs.RingLaws.{appended_first, appended}
use Rattle.driver_list.proofs.ring.append.Goals as goal

pub returns-in-None : goal.returns-in-None
returns-in-None c =
    let e = c.insert_reserved.ensures in
    rw c.in-None.is
    (appended_first c.args.nodes.now c.insert_reserved.new.self c.insert_reserved.result c.args.listed e.was_vacant
    (rw (c.vacant_key-next.ensures.value ∙ sym e.key) at e.updates) e.len e.capacity)

pub returns-in-Some : goal.returns-in-Some
returns-in-Some c =
    let e = c.insert_reserved-key.ensures in
    rw c.in-Some.is
    (appended c.args.nodes.now c.insert_reserved-key.new.self c.in-Some.last c.insert_reserved-key.result c.index.result.now
    c.index_mut.result.now c.args.listed
    c.index.ensures e.was_vacant e.updates c.index_mut.ensures.value e.len e.capacity)
