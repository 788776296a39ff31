use Rattle.driver_list.proofs.RingLaws.{detached_only, detached}
use Rattle.driver_list.proofs.ring.detach_first.Goals as goal

pub returns-then-first-last : goal.returns-then-first-last
returns-then-first-last c =
    let e = c.remove-node.ensures in
    detached_only c.args.nodes.now c.remove-node.new.self c.args.last c.index.result.now c.remove-node.result c.index.ensures
    c.if-first-last.true e.value e.updates e.len e.capacity

pub returns : goal.returns
returns c =
    let e = c.remove-node.ensures in
    detached c.args.nodes.now c.remove-node.new.self c.args.last c.index.result.now c.remove-node.result c.index_mut.result.now
    c.index.ensures c.if-first-last.false e.value e.updates c.index_mut.ensures.value e.len e.capacity
