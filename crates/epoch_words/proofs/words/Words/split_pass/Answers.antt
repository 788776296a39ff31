use Rattle.std.proofs.Common.{sym, ap, ◌∙◌}
use Rattle.epoch_words.specs.inner.Known.{Known}
use Rattle.epoch_words.proofs.RuleLaws.{tells}
use Rattle.epoch_words.proofs.words.Words.split_pass.Goals as goal

pub split_seat-requires : goal.split_seat-requires
split_seat-requires c = (ap (λ (k : Known). k.words) c.pass.view_is ∙ (c.requires ∙ sym c.self.view_is), c.self.invariant, tells _ _)
