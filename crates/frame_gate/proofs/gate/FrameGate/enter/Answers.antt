use Rattle.std.proofs.Common.{◌≡◌, ◌+◌, ℕ, ◌<◌, Option, None, arith, sym, ap, ◌∙◌}
use Rattle.frame_gate.specs.declared.view.Role.TheVariants.{Processor}
use Rattle.frame_gate.specs.inner.Views.{visit}
use Rattle.frame_gate.specs.inner.Known.{ProcKnown}
use Rattle.frame_gate.proofs.ProcessorLaws.{enters}
use Rattle.frame_gate.proofs.gate.FrameGate.enter.Goals as goal

pub fetch_add-found-requires : goal.fetch_add-found-requires
fetch_add-found-requires c =
    let i = c.seat.invariant in
    let here = ap (λ (k : ProcKnown). k.gate) c.seat.view_is ∙ (c.requires.gate ∙ sym c.self.view_is) in
    let out : c.seat.inside.visit.epoch ≡ None = ap (λ (k : ProcKnown). k.visit.epoch) c.seat.view_is ∙ c.requires.outside in
    let wide : c.self.inside.table.shared.table_id.words ≡ 3 + c.self.inside.table.shared.key = c.self.invariant.0 in
    let not_all = c.if-entries-eq-MOST_ENTRIES.false in
    let most = i.1 in
    let role = i.0 ∙ ap (λ (e : Option ℕ). Processor (visit c.seat.inside.visit.entries e) c.seat.inside.pairs.items) out in
    let room : c.seat.inside.visit.entries < 134217728 = omega arith in
    (here, omega arith, enters _ _ _ _ c.seat.inside.visit.entries _ role room)
