use Rattle.std.proofs.Common.{◌<◌, ◌≤◌, ◌-◌, length, sym, ap, ◌∙◌, arith}
use Rattle.epoch_words.specs.inner.Seen.{word_of, Changes}
use Rattle.epoch_words.specs.inner.Known.{Known, seen_of}
use Rattle.epoch_words.proofs.RuleLaws.{writes}
use Rattle.epoch_words.proofs.words.HardwareSeat.write.Goals as goal

pub store-requires : goal.store-requires
store-requires c =
    let kept = c.self.invariant in
    let back = c.word.ensures.back in
    let here = ap (λ (k : Known). k.words) c.self.view_is ∙ (c.requires.words ∙ sym c.words.view_is) in
    let last : c.args.enclave ≤ c.words.inside.table.shared.table_id.words = rw c.words.view_is c.requires.last in
    let first = c.requires.first in
    let low : c.from-at.result - 1 < c.words.inside.table.shared.table_id.words = rw c.from-at.ensures (omega arith) in
    let inside : c.from-at.result - 1 < length c.self.inside.seen.items = rw (kept.1, here) low in
    let change : Changes (seen_of c.args.self.now c.args.enclave) c.args.seen = c.requires.changes in
    let change' = rw (← c.self.view_is, ← c.from-at.ensures, ← back) at change in
    (here, low, writes _ _ _ _ _ _ kept.0 inside (ap word_of back ∙ sym c.word.ensures.value) change')
