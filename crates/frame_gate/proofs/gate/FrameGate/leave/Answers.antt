use Rattle.std.proofs.Common.{◌≡◌, ◌+◌, ℕ, Option, arith, sym, ap, ◌∙◌}
use Rattle.frame_gate.specs.declared.view.Role.TheVariants.{Processor}
use Rattle.frame_gate.specs.inner.Views.{visit}
use Rattle.frame_gate.specs.inner.Known.{ProcKnown}
use Rattle.frame_gate.proofs.ProcessorLaws.{leaves_gate}
use Rattle.frame_gate.proofs.gate.FrameGate.leave.Goals as goal

pub fetch_add-requires : goal.fetch_add-requires
fetch_add-requires c =
    let i = c.seat.invariant in
    let here = ap (λ (k : ProcKnown). k.gate) c.seat.view_is ∙ (c.requires.gate ∙ sym c.self.view_is) in
    let wide : c.self.inside.table.shared.table_id.words ≡ 3 + c.self.inside.table.shared.key = c.self.invariant.0 in (
      here,
      omega arith,
      leaves_gate _ _ _ _ c.seat.inside.visit.entries c.in-Some.epoch _
          (i.0 ∙ ap (λ (e : Option ℕ). Processor (visit c.seat.inside.visit.entries e) c.seat.inside.pairs.items) c.in-Some.is),
    )
