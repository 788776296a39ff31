use Rattle.std.proofs.Common.{ap, ◌∙◌, is_some}
use Rattle.sgx_rules.specs.Flat.{FlatMemory}
use Rattle.sgx_types.specs.Pages.{page_at}
use Rattle.flat_machine.proofs.flat.Flat.seat.Goals as goal

pub set_busy-requires : goal.set_busy-requires
set_busy-requires c = λ _. rw c.from.ensures (ap (λ (m : FlatMemory). is_some (m.pages (page_at c.args.enclave c.args.tcs)))
    c.set_cpu.ensures ∙ c.requires.added)
