use Rattle.std.proofs.Common.{◌≡◌, ◌+◌, ◌%◌, ℕ, refl, arith, sym, ap, ◌∙◌}
use Rattle.frame_gate.specs.declared.view.View.{View}
use Rattle.frame_gate.specs.inner.Views.{after_step, set_back, tracked, role_set_back}
use Rattle.frame_gate.specs.inner.Known.{PagerKnown, next_pager}
use Rattle.frame_gate.proofs.PagerLaws.{sets_back, tracks}
use Rattle.frame_gate.proofs.gate.FrameGate.begin.Goals as goal

pub store-requires : goal.store-requires
store-requires c =
    let i = c.pager.invariant in
    let here = ap (λ (k : PagerKnown). k.gate) c.pager.view_is ∙ (c.requires.gate ∙ sym c.self.view_is) in
    let wide : c.self.inside.table.shared.table_id.words ≡ 3 + c.self.inside.table.shared.key = c.self.invariant.0 in (
      here,
      omega arith,
      sets_back _ _ _ _ c.pager.inside.ledger _ _ i.0
          (ap (λ (k : PagerKnown). k.ledger.is_empty) c.pager.view_is ∙ c.requires.empty) refl,
    )

pub swap-found-requires : goal.swap-found-requires
swap-found-requires c =
    let i = c.pager.invariant in
    let here = ap (λ (k : PagerKnown). k.gate) c.pager.view_is ∙ (c.requires.gate ∙ sym c.self.view_is) in
    let wide : c.self.inside.table.shared.table_id.words ≡ 3 + c.self.inside.table.shared.key = c.self.invariant.0 in
    let s = c.store.ensures in (
      s.0 ∙ here,
      omega arith,
      tracks _ _ _ _ (set_back c.pager.inside.ledger) _ _
          (ap (λ (v : View). v.role) s.2 ∙ ap role_set_back i.0) refl refl,
    )

pub returns : goal.returns
returns c =
    let s = c.store.ensures in
    let t = c.swap-found.ensures in
    let kept : ℕ = c.swap-found.result % 4294967296 in
    let gate = t.0 ∙ s.0 in
    let counter = ap (λ (v : View). v.counter) t.2 ∙ ap (λ (v : View). after_step v.counter) s.2 in
    let ledger = tracked c.pager.inside.ledger kept in
    let frames = c.pager.inside.frames.items in (
      kept,
      (λ i. record { gate = gate i; ledger = ledger; frames = frames; counter = counter i })
          ∙ ap (λ (k : PagerKnown). next_pager k kept k.counter) c.pager.view_is,
    )
