use Rattle.std.proofs.Common.{arith, rules, ◌+◌, ◌*◌, ◌<◌, ◌^◌}
use Rattle.secs_state.specs.inner.Kept.{secs_of}
use Rattle.secs_state.proofs.Addresses.{address_fits}
use Rattle.secs_state.proofs.secs.Secs.address.Goals as goal

pub overflow_add-result : goal.overflow_add-result
overflow_add-result c =
    let fits : c.self.inside.base + 4096 * c.args.number < 2 ^ 64 =
    address_fits (secs_of c.self.inside) c.args.number c.self.invariant (omega arith) (rw (← c.self.view_is) at c.requires) in
    search rules
