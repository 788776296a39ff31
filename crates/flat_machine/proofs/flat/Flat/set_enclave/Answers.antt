use Rattle.std.proofs.Common.{◌/◌}
use Rattle.flat_machine.specs.inner.Whole.{parts_of}
use Rattle.flat_machine.proofs.Rows.{creates, memory_created}
use Rattle.flat_machine.proofs.flat.Flat.set_enclave.Goals as goal

pub returns-clause-done : goal.returns-clause-done
returns-clause-done c =
    let d = parts_of c.self.inside in
    let e = c.args.enclave in
    let whole = c.self.invariant in
    let k = creates d.enclaves e c.args.base c.args.size (rw (← c.self.view_is) at c.requires) in
    rw (c.from-place.ensures, c.in_ok-table.ensures, ← c.self.view_is)
    (memory_created d e c.args.base c.args.size (c.args.size / 4096) k whole.enclaves_len whole.tables_len (whole.pages_len e))
