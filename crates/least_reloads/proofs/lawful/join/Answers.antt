use Rattle.std.proofs.Common.{sym, ◌∙◌}
use Rattle.std.proofs.lemmas.Bool.{not-true, not-false}
use Rattle.least_reloads.proofs.SetLaws.{join_none, join_more, join_stuck}
use Rattle.least_reloads.proofs.lawful.join.Goals as goal

pub loop-page-init : goal.loop-page-init
loop-page-init c = let none = join_none c.args.held.now c.args.pages.now in record { can = none.can; joined = none.joined }

pub returns-then-not-branch : goal.returns-then-not-branch
returns-then-not-branch c =
    join_stuck c.args.held.now c.args.pages.now c.loop-page.held c.loop-page.page-index _ c.loop-page-test.true c.loop-page.invariant.joined
    (not-false _ (sym c.in_ok-insert.ensures.added ∙ c.if-not-branch.true))

pub loop-page-preserved : goal.loop-page-preserved
loop-page-preserved c =
    let more =
    join_more c.args.held.now c.args.pages.now c.loop-page.held c.insert.new.self c.loop-page.page-index _ c.loop-page-test.true
    c.loop-page.invariant.can c.loop-page.invariant.joined
    (not-true _ (sym c.in_ok-insert.ensures.added ∙ c.if-not-branch.false))
    c.in_ok-insert.ensures.new in
    record { can = more.can; joined = more.joined }
