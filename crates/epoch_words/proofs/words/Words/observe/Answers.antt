use Rattle.std.proofs.Common.{◌<◌, ◌≤◌, ◌-◌, length, sym, ap, ◌∙◌, arith}
use Rattle.epoch_words.specs.inner.Known.{Known}
use Rattle.epoch_words.proofs.RuleLaws.{observes}
use Rattle.epoch_words.proofs.words.Words.observe.Goals as goal

pub load-requires : goal.load-requires
load-requires c =
    let kept = c.pass.invariant in
    let here = ap (λ (k : Known). k.words) c.pass.view_is ∙ (c.requires.words ∙ sym c.self.view_is) in
    let last : c.args.enclave ≤ c.self.inside.table.shared.table_id.words = rw c.self.view_is c.requires.last in
    let first = c.requires.first in
    let low : c.from-at.result - 1 < c.self.inside.table.shared.table_id.words = rw c.from-at.ensures (omega arith) in
    let inside : c.from-at.result - 1 < length c.pass.inside.seat.me.0.seen = rw (kept.1, here) low in
    (here, low, observes _ _ _ _ kept.0 inside)
