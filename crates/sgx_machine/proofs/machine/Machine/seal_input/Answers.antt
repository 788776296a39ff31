use Rattle.std.proofs.Common.{◌≡◌, true, refl, ap, is_some}
use Rattle.sgx_machine.specs.inner.Whole.{parts_of}
use Rattle.sgx_machine.specs.inner.Parts.{Parts, state_of}
use Rattle.sgx_machine.proofs.PagingSights.{start_out}
use Rattle.sgx_machine.proofs.SealBridge.{seals}
use Rattle.sgx_machine.proofs.machine.Machine.seal_input.Goals as goal

pub start-start-requires : goal.start-start-requires
start-start-requires c =
    let s = state_of (parts_of c.self.inside) in
    let open_start : is_some (s.start c.args.frame.0) ≡ true =
    start_out s c.args.frame.0 c.self.invariant.guarded (rw (← c.self.view_is) at c.requires) in
    rw (← c.self.view_is) open_start

pub returns : goal.returns
returns c =
    let x = c.start-start.result in
    seals (state_of c.args.self.now) c.args.frame.0 (record { at = x.at; slot = x.slot; version = x.version; loads = x.loads })
    c.header-header.result c.write_bytes.new.onto.items c.self.inside.key c.write_bytes.new.onto.items x.version c.header-header.result
    c.start-start.ensures c.header-header.ensures c.write_bytes.ensures.page c.write_bytes.ensures.bytes
    (ap (λ (d : Parts). d.key) c.self.view_is) refl refl refl
