use Rattle.std.proofs.Common.{◌≡◌, ◌∙◌, ap, sym}
use Rattle.std.specs.Option.{option_copied}
use Rattle.sgx_rules.specs.Frames.{children}
use Rattle.sgx_machine.specs.inner.Parts.{state_of}
use Rattle.sgx_machine.specs.inner.Whole.{parts_of}
use Rattle.sgx_machine.proofs.HeldLaws.{children_none}
use Rattle.sgx_machine.proofs.machine.Machine.children.Goals as goal

pub returns-in-None : goal.returns-in-None
returns-in-None c =
    let d = parts_of c.self.inside in
    let h = c.self.invariant in
    let is : 0 ≡ children (state_of d).frames (state_of d).content c.args.enclave =
    children_none d.epc d.secs c.args.enclave h.held.owned (sym c.get.ensures.value ∙ ap option_copied c.in-None.is) in
    rw (← c.self.view_is) is
