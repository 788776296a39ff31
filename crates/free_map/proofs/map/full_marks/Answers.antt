use Rattle.std.proofs.Common.{replicate, ◌^◌, ◌-◌, ◌≡◌, ◌/◌}
use Rattle.free_map.proofs.Marks.{whole_marks, whole_and_rest}
use Rattle.free_map.proofs.map.full_marks.Goals as goal
use Rattle.free_map.proofs.map.full_marks.Goals.{then-rest-ne0+in_ok-push, else-rest-ne0}

pub returns : goal.returns
returns c =
    let whole : c.in_ok-marks.marks.items ≡ replicate (c.args.len / 64) (2 ^ 64 - 1) =
    c.in_ok-marks.ensures.items_if_clones_equal (λ y e. e) in
    elim c.if-rest-ne0.branch [
      | then-rest-ne0+in_ok-push w ↦ rw (w.marks-is, w.in_ok-push.ensures.items, whole) (whole_and_rest c.args.len w.if-rest-ne0.true)
      | else-rest-ne0 w ↦ rw (w.marks-is, whole) (whole_marks c.args.len w.if-rest-ne0.false)
    ]
