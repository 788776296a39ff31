use Rattle.std.proofs.Common.{◌≡◌, ◌+◌, length, replicate, length-set, arith, ap, ◌∙◌}
use Rattle.std.proofs.lemmas.List.{length-replicate}
use Rattle.frame_gate.specs.declared.view.View.{View}
use Rattle.frame_gate.specs.inner.Views.{start}
use Rattle.frame_gate.proofs.OpeningLaws.{opens}
use Rattle.frame_gate.proofs.PagerLaws.{splits}
use Rattle.frame_gate.proofs.gate.FrameGate.new.Goals as goal

pub of_words-requires : goal.of_words-requires
of_words-requires c = opens _ _ (c.as_slice.ensures.value ∙ c.in_ok-words.ensures)

pub split_seat-requires : goal.split_seat-requires
split_seat-requires c =
    let i = c.loop-split.invariant in
    let all = c.in_ok-table.ensures {u = tt} in
    let few = c.requires.processors in
    let more = c.loop-split-test.true in
    let role = ap (λ (v : View). v.role) i.1 in
    let long : length c.as_slice.result.now ≡ 3 + c.args.frames = ap length (c.as_slice.ensures.value ∙ c.in_ok-words.ensures)
    ∙ (length-set (replicate (3 + c.args.frames) 0) 0 4294967296 ∙ length-replicate (3 + c.args.frames) 0) in
    let words : c.in_ok-table.table.shared.table_id.words ≡ length c.as_slice.result.now = all.0 in
    (i.0 ∙ all.2, omega arith, splits _ _ _ (start c.loop-split.split) _ role (omega arith))
