use Rattle.std.proofs.Common.{sym, ◌∙◌, rules}
use Rattle.least_reloads.proofs.SetLaws.{leave_none, leave_more, leave_stuck}
use Rattle.least_reloads.proofs.lawful.leave.Goals as goal

pub loop-page-init : goal.loop-page-init
loop-page-init c = record { can = leave_none c.args.held.now c.args.pages.now; left = search rules }

pub returns-then-not-remove : goal.returns-then-not-remove
returns-then-not-remove c =
    leave_stuck c.args.held.now c.args.pages.now c.loop-page.held c.loop-page.page-index _ c.loop-page-test.true c.loop-page.invariant.left
    (sym c.remove.ensures.removed ∙ c.if-not-remove.true)

pub loop-page-preserved : goal.loop-page-preserved
loop-page-preserved c =
    let more =
    leave_more c.args.held.now c.args.pages.now c.loop-page.held c.remove.new.self c.loop-page.page-index _ c.loop-page-test.true
    c.loop-page.invariant.can c.loop-page.invariant.left
    (sym c.remove.ensures.removed ∙ c.if-not-remove.false)
    c.remove.ensures.new in
    record { can = more.can; left = more.left }
