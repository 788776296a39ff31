use Rattle.std.proofs.Common.{ap, sym, ◌∙◌}
use Rattle.sgx_rules.specs.Flat.{FlatMemory}
use Rattle.flat_machine.specs.inner.Parts.{inside_of}
use Rattle.flat_machine.proofs.flat.Flat.aex.Goals as goal

pub leave-requires-clause-inside : goal.leave-requires-clause-inside
leave-requires-clause-inside c =
    ap (λ (m : FlatMemory). (m.cpus c.args.cpu.0).inside) c.save.ensures ∙ sym c.mode.ensures ∙ ap inside_of c.in-Inside.is
