use Rattle.std.proofs.Common.{◌<◌, ◌+◌, ◌*◌, ◌/◌, ℕ, List, refl, sym, ap, ◌∙◌, subst}
use Rattle.frame_gate.specs.declared.view.Written.{Written}
use Rattle.frame_gate.specs.inner.Views.{written_of, IsDrained}
use Rattle.frame_gate.specs.inner.Known.{PagerKnown}
use Rattle.frame_gate.proofs.PagerLaws.{frees, at_frame}
use Rattle.frame_gate.proofs.gate.FrameGate.free.Goals as goal

pub store-requires : goal.store-requires
store-requires c =
    let i = c.pager.invariant in
    let f : ℕ = c.args.frame in
    let fs : List Written = c.pager.inside.frames.items in
    let here = ap (λ (k : PagerKnown). k.gate) c.pager.view_is ∙ (c.requires.gate ∙ sym c.self.view_is) in
    let low : 3 + f < c.self.inside.table.shared.table_id.words = rw c.self.view_is c.requires.frame in
    let at = at_frame _ _ _ f fs _ _ c.self.invariant.0 here i.3 low c.index.ensures in
    let b : ℕ = c.requires.drained.0 in
    let drained : IsDrained c.pager.inside.ledger (written_of fs f) b =
    subst (λ (k : PagerKnown). IsDrained k.ledger (written_of k.frames f) b) (sym c.pager.view_is) c.requires.drained.1 in
    (here, low, frees _ _ _ _ _ _ f _ _ b i.0 at.0 refl (ap (λ (z : Written). 4 * (z.word / 4)) at.1) drained)
