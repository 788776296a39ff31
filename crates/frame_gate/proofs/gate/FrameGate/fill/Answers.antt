use Rattle.std.proofs.Common.{◌≡◌, ◌≢◌, ◌<◌, ◌+◌, ◌*◌, ◌/◌, ◌%◌, ℕ, None, List, refl, arith, sym, ap}
use Rattle.std.proofs.Common.{◌∙◌, subst}
use Rattle.frame_gate.specs.declared.view.View.{View}
use Rattle.frame_gate.specs.declared.view.Pair.{Pair}
use Rattle.frame_gate.specs.inner.Views.{generation_of, filled}
use Rattle.frame_gate.specs.inner.Known.{ProcKnown, looked_at}
use Rattle.frame_gate.proofs.ProcessorLaws.{fills, is_inside, filled_new, held_new, none_of}
use Rattle.frame_gate.proofs.gate.FrameGate.fill.Goals as goal

pub load-word-requires : goal.load-word-requires
load-word-requires c =
    let i = c.seat.invariant in
    let here = ap (λ (k : ProcKnown). k.gate) c.seat.view_is ∙ (c.requires.gate ∙ sym c.self.view_is) in
    let wide : c.self.inside.table.shared.table_id.words ≡ 3 + c.self.inside.table.shared.key = c.self.invariant.0 in
    let low : 3 + c.args.frame < c.self.inside.table.shared.table_id.words = rw c.self.view_is c.requires.frame in
    let at = is_inside c.seat.inside.visit.epoch (subst (λ (k : ProcKnown). k.visit.epoch ≢ None) (sym c.seat.view_is) c.requires.inside) in
    (here, low, fills _ _ _ _ _ _ at.0 c.args.frame _ i.0 at.1 (omega arith) refl)

pub returns-then-is_none-clause-filled : goal.returns-then-is_none-clause-filled
returns-then-is_none-clause-filled c =
    let word : ℕ = c.load-word.result in
    let f : ℕ = c.args.frame in
    let l = c.load-word.ensures in
    let free : generation_of c.seat.inside.pairs.items f ≡ None = sym
    (c.find_generation-had.ensures ∙ ap (λ (l : List Pair). generation_of l f) c.as_slice.ensures.value)
    ∙ none_of c.find_generation-had.result (c.if-is_none.ensures {u = tt}) in
    let one : word % 4 ≡ 1 = c.if-word-ne-HELD.false in
    let back : word ≡ 4 * (word / 4) + 1 = omega arith in
    let pairs = c.push_reserved.ensures.items ∙ sym (filled_new c.seat.inside.pairs.items f word free one) in
    let counter = ap (λ (v : View). v.counter) l.2.0 in (
      (λ i. record { gate = l.0 i; visit = c.seat.inside.visit; pairs = pairs i; counter = counter i }) ∙
          (ap (λ (k : ProcKnown). looked_at k f word (filled k.pairs f word)) c.seat.view_is ∙ ap
          (λ (z : ℕ). looked_at c.args.seat.now f z (filled c.args.seat.now.pairs f z)) back),
      ap (λ (ps : _). generation_of ps f) c.push_reserved.ensures.items ∙ held_new c.seat.inside.pairs.items f (word / 4) free,
    )
