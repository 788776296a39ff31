use Rattle.std.proofs.Common.{◌≡◌, ◌≢◌, ◌<◌, ◌+◌, None, refl, arith, sym, ap, ◌∙◌, subst}
use Rattle.frame_gate.specs.inner.Views.{generation_of}
use Rattle.frame_gate.specs.inner.Known.{ProcKnown}
use Rattle.frame_gate.proofs.ProcessorLaws.{touches, holder}
use Rattle.frame_gate.proofs.gate.FrameGate.touch.Goals as goal

pub load-requires : goal.load-requires
load-requires c =
    let i = c.seat.invariant in
    let here = ap (λ (k : ProcKnown). k.gate) c.seat.view_is ∙ (c.requires.gate ∙ sym c.self.view_is) in
    let wide : c.self.inside.table.shared.table_id.words ≡ 3 + c.self.inside.table.shared.key = c.self.invariant.0 in
    let low : 3 + c.args.frame < c.self.inside.table.shared.table_id.words = rw c.self.view_is c.requires.frame in
    let has = subst (λ (k : ProcKnown). generation_of k.pairs c.args.frame ≢ None) (sym c.seat.view_is) c.requires.holds in
    let at = holder c.seat.inside.visit.epoch c.seat.inside.pairs.items c.args.frame i.3 has in
    (here, low, touches _ _ _ _ _ _ at.0 c.args.frame _ i.0 at.1 (omega arith) refl)
