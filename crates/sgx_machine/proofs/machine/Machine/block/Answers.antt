use Rattle.std.proofs.Common.{◌∙◌, sym, ap}
use Rattle.sgx_machine.specs.inner.Whole.{parts_of}
use Rattle.sgx_machine.specs.inner.Parts.{state_of}
use Rattle.sgx_machine.proofs.PagingSights.{frame_numbered}
use Rattle.sgx_machine.proofs.PagingBridge.{block_leaves, epc_same}
use Rattle.sgx_machine.proofs.WholeMachines.{whole, whole_same, done_step, refused_step}
use Rattle.sgx_machine.proofs.machine.Machine.block.Goals.{in-Ok, in-Err}
use Rattle.sgx_machine.proofs.machine.Machine.block.Goals as goal

pub eblock-requires : goal.eblock-requires
eblock-requires c = frame_numbered (parts_of c.self.inside) c.args.frame.0 c.self.invariant.table.places c.self.invariant.framed

pub invariant_of-self : goal.invariant_of-self
invariant_of-self c =
    let m = c.self.inside in
    elim c.match-eblock.branch [
      | in-Ok w ↦ whole _ _ (block_leaves m c.self.invariant c.args.frame.0 c.eblock.new.epc (sym w.in-Ok.ensures.row) w.in-Ok.ensures.done)
      | in-Err w ↦ whole_same m _ (epc_same (parts_of m) c.eblock.new.epc w.in-Err.ensures.refused) c.self.invariant
    ]

pub returns-clause-step : goal.returns-clause-step
returns-clause-step c =
    let m = c.self.inside in
    elim c.match-eblock.branch [
      | in-Ok w ↦
          (let left = block_leaves m c.self.invariant c.args.frame.0 c.eblock.new.epc (sym w.in-Ok.ensures.row) w.in-Ok.ensures.done in
          rw (← c.self.view_is) (done_step _ _ _ (sym w.in-Ok.ensures.row) (w.result-is ∙ w.done.ensures, left.state)))
      | in-Err w ↦ rw (← c.self.view_is) (refused_step _ _ _ _ (sym w.in-Err.ensures.row)
          (w.result-is ∙ w.refused.ensures, ap state_of (epc_same (parts_of m) c.eblock.new.epc w.in-Err.ensures.refused)))
    ]
