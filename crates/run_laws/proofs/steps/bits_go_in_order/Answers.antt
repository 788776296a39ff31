use Rattle.std.proofs.Common.{if◌then◌else◌, sym, ◌∙◌, ap, [], ◌∷◌, ◌++◌}
use Rattle.run_laws.specs.inner.Bits.{below}
use Rattle.run_laws.proofs.BitLaws.{below_all, below_more, below_zero, bit_is, goes_on}
use Rattle.run_laws.proofs.steps.bits_go_in_order.Goals as goal

pub returns-clause-bit : goal.returns-clause-bit
returns-clause-bit c = bit_is

pub returns-clause-first : goal.returns-clause-first
returns-clause-first c = below_zero

pub returns-clause-more : goal.returns-clause-more
returns-clause-more c ps p low rises =
    below_more p 0 ps rises ∙ ap (λ b. if b then below p ps ++ (p ∷ []) else below p ps) (sym (bit_is ps p low))

pub returns-clause-splits : goal.returns-clause-splits
returns-clause-splits c ps p low rises set = goes_on p 0 ps rises (sym (bit_is ps p low) ∙ set)

pub returns-clause-all : goal.returns-clause-all
returns-clause-all c = below_all 16
