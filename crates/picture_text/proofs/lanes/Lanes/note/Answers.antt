use Rattle.std.proofs.Common.{sym, ◌∙◌, arith}
use Rattle.picture_text.specs.declared.lanes.Lanes.{Lanes}
use Rattle.picture_text.proofs.LaneLaws.{noted}
use Rattle.picture_text.proofs.lanes.Lanes.note.Goals as goal

pub returns-in_ok-insert : goal.returns-in_ok-insert
returns-in_ok-insert c = λ known are.
    let new : Lanes = record { lanes = c.push.new.self; numbers = c.insert.new.self } in
    noted c.args.self.now new known c.args.lane c.lane_key-key.result c.len.result c.lane_key-key.ensures are
    (sym c.contains_key.ensures ∙ c.if-not-contains_key.true) c.in_ok-push.ensures.items
    (omega (arith, c.len.ensures, c.push.new.self.ok.0)) c.in_ok-insert.ensures.updates.0
