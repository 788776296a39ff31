use Rattle.std.proofs.Common.{◌||◌, not, Bool, ◌++◌, ap, ◌∙◌}
use Rattle.picture_text.specs.Events.{ends, begins}
use Rattle.picture_text.specs.Open.{same_spans}
use Rattle.picture_text.proofs.AppendLaws.{pushed_six}
use Rattle.picture_text.proofs.steps.push_changes.Goals as goal

pub returns : goal.returns
returns c =
    let place = c.args.place in
    let lane = c.args.lane in
    let a = c.args.before.now in
    let b = c.args.after.now in
    let o : Bool = c.changes-outer.result in
    let m : Bool = c.changes-middle.result in
    let n : Bool = c.changes-inner.result in
    let outer = c.changes-outer.ensures in
    let middle = c.changes-middle.ensures ∙ ap (λ (k : Bool). k || not (same_spans a.middle b.middle)) outer in
    let inner = c.changes-inner.ensures ∙ ap (λ (k : Bool). k || not (same_spans a.inner b.inner)) middle in
    pushed_six c.args.events.now.items c.push_end.new.events.items c.push_end-2.new.events.items c.push_end-3.new.events.items
    c.push_begin.new.events.items c.push_begin-2.new.events.items c.push_begin-3.new.events.items
    (ends place lane n a.inner) (ends place lane m a.middle) (ends place lane o a.outer)
    (begins place lane o b.outer) (begins place lane m b.middle) (begins place lane n b.inner)
    c.in_ok-push_end.ensures c.in_ok-push_end-2.ensures c.in_ok-push_end-3.ensures
    c.in_ok-push_begin.ensures c.in_ok-push_begin-2.ensures c.in_ok-push_begin-3.ensures
    ∙ (λ i. c.args.events.now.items
    ++ (((((ends place lane (inner i) a.inner ++ ends place lane (middle i) a.middle) ++ ends place lane (outer i) a.outer)
    ++ begins place lane (outer i) b.outer) ++ begins place lane (middle i) b.middle) ++ begins place lane (inner i) b.inner))
