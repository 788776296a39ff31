use Rattle.std.proofs.Common.{◌∙◌, ◌≡◌, arith, length, sym, w64}
use Rattle.std.specs.Int.{to_le_bytes}
use Rattle.flat_machine.proofs.Lists.{joined}
use Rattle.flat_machine.proofs.words.Words.copy_to.Goals as goal

pub returns : goal.returns
returns c =
    let sized : length c.args.self.now ≡ 512 = rw c.self.view_is at c.self.invariant in
    c.copy_from_slice.ensures.after ∙ c.as_flattened.ensures.value
    ∙ joined (to_le_bytes w64) c.loop-i.page c.args.self.now (c.loop-i.invariant.0 ∙ sym sized)
    (λ k low. c.loop-i.invariant.1 k (omega (arith, low, sized)))
