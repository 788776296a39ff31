use Rattle.std.proofs.Common.{◌<◌, ◌+◌, ◌*◌, ◌/◌, ◌%◌, ℕ, List, refl, sym, ap, ◌∙◌}
use Rattle.frame_gate.specs.declared.view.Written.{Written}
use Rattle.frame_gate.specs.inner.Words.{IsHeld}
use Rattle.frame_gate.specs.inner.Views.{written_of}
use Rattle.frame_gate.specs.inner.Known.{PagerKnown, word_now}
use Rattle.frame_gate.proofs.PagerLaws.{blocks, at_frame}
use Rattle.frame_gate.proofs.gate.FrameGate.block.Goals as goal

pub swap-requires : goal.swap-requires
swap-requires c =
    let i = c.pager.invariant in
    let f : ℕ = c.args.frame in
    let fs : List Written = c.pager.inside.frames.items in
    let here = ap (λ (k : PagerKnown). k.gate) c.pager.view_is ∙ (c.requires.gate ∙ sym c.self.view_is) in
    let low : 3 + f < c.self.inside.table.shared.table_id.words = rw c.self.view_is c.requires.frame in
    let at = at_frame _ _ _ f fs _ _ c.self.invariant.0 here i.3 low c.index.ensures in
    let held : IsHeld (written_of fs f).word = ap (λ (k : PagerKnown). word_now k f % 4) c.pager.view_is ∙ c.requires.held in
    (here, low, blocks _ _ _ _ _ _ f _ _ i.0 at.0 refl held (ap (λ (z : Written). 4 * (z.word / 4) + 2) at.1))
