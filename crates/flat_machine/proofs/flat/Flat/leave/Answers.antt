use Rattle.std.proofs.Common.{ap, ◌∙◌, false}
use Rattle.sgx_rules.specs.Flat.{FlatMemory, with_busy}
use Rattle.sgx_types.specs.Pages.{page_at}
use Rattle.flat_machine.specs.inner.Parts.{memory_of}
use Rattle.flat_machine.proofs.Rows.{left_by}
use Rattle.flat_machine.proofs.flat.Flat.leave.Goals as goal

pub returns : goal.returns
returns c =
    c.set_busy.ensures
    ∙ ap (λ (m : FlatMemory). with_busy m (page_at c.args.enclave c.from.result) false) c.set_cpu.ensures
    ∙ rw c.from.ensures (left_by (memory_of c.args.self.now) c.args.cpu.0 c.args.enclave c.args.tcs c.acc-acc.result c.requires.inside
    c.acc-acc.ensures)
