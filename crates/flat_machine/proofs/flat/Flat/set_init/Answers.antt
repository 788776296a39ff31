use Rattle.std.proofs.Common.{◌≡◌, Some, None, get_or, ap, sym, ◌∙◌}
use Rattle.flat_machine.specs.inner.Whole.{parts_of}
use Rattle.flat_machine.specs.inner.Parts.{FlatParts, enclave_of}
use Rattle.flat_machine.proofs.Rows.{memory_init}
use Rattle.flat_machine.proofs.flat.Flat.set_init.Goals as goal

pub returns : goal.returns
returns c =
    let found : enclave_of (get_or (parts_of c.self.inside).enclaves c.args.enclave None) ≡ enclave_of (Some c.unwrap-found.result) =
    ap (λ (d : FlatParts). enclave_of (get_or d.enclaves c.args.enclave None)) c.self.view_is ∙ sym c.enclave.ensures
    ∙ ap enclave_of c.unwrap-found.ensures in
    rw (c.from.ensures, ← c.self.view_is) (memory_init (parts_of c.self.inside) c.args.enclave c.unwrap-found.result found)
