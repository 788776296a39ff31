use Rattle.std.proofs.Common.{◌≡◌, ◌+◌, refl, arith, sym, ap, ◌∙◌}
use Rattle.frame_gate.specs.inner.Known.{PagerKnown}
use Rattle.frame_gate.proofs.PagerLaws.{settles}
use Rattle.frame_gate.proofs.gate.FrameGate.settle.Goals as goal

pub load-word-requires : goal.load-word-requires
load-word-requires c =
    let i = c.pager.invariant in
    let here = ap (λ (k : PagerKnown). k.gate) c.pager.view_is ∙ (c.requires ∙ sym c.self.view_is) in
    let wide : c.self.inside.table.shared.table_id.words ≡ 3 + c.self.inside.table.shared.key = c.self.invariant.0 in
    (here, omega arith, settles _ _ _ _ c.pager.inside.ledger _ _ i.0 c.if-pager.false refl)
