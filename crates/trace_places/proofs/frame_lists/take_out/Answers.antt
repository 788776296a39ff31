use Rattle.std.proofs.Common.{ℕ, ◌<◌, length, get_or, sym, ◌∙◌, arith}
use Rattle.std.proofs.lemmas.List.{get_or_read}
use Rattle.trace_places.specs.inner.Frames.{IsFirstFrom}
use Rattle.trace_places.proofs.ListLaws.{take_there, take_none}
use Rattle.trace_places.proofs.frame_lists.take_out.Goals as goal
use Rattle.trace_places.proofs.frame_lists.take_out.Goals.{else-place-len-via-then-place-len+else-index-frame}
use Rattle.trace_places.proofs.frame_lists.take_out.Goals.{else-place-len-via-else-place-len}

pub returns-then-index-frame : goal.returns-then-index-frame
returns-then-index-frame c =
    let list = c.args.list.now.items in
    let place : ℕ = c.place_from-place.result in
    let first : IsFirstFrom list c.args.frame place = rw c.deref.ensures.value at c.place_from-place.ensures in
    let within : place < length list = omega (arith, c.if-place-len.true, c.len.ensures, c.args.list.now.ok.0) in
    c.remove.ensures.items
    ∙ take_there list c.args.frame place first.before within
    (sym (get_or_read list place _ within c.index.ensures 0) ∙ c.if-index-frame.true)

pub returns-else-place-len : goal.returns-else-place-len
returns-else-place-len c =
    let list = c.args.list.now.items in
    let place : ℕ = c.place_from-place.result in
    let first : IsFirstFrom list c.args.frame place = rw c.deref.ensures.value at c.place_from-place.ensures in
    let above : place < length list → c.args.frame < get_or list place 0 = λ within.
    elim c.else-place-len.branch [
      | else-place-len-via-then-place-len+else-index-frame w ↦
          omega (arith, first.from within, get_or_read list place _ within w.index.ensures 0, w.if-index-frame.false)
      | else-place-len-via-else-place-len w ↦ absurd (omega (arith, within, w.if-place-len.false, c.len.ensures, c.args.list.now.ok.0))
    ] in
    take_none list c.args.frame place first.within first.before above
