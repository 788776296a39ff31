use Rattle.std.proofs.Common.{sym, ◌∙◌}
use Rattle.audit_check.proofs.LoadLaws.{back, done_own, other_page, own_comes, stale}
use Rattle.audit_check.proofs.asking.bring_back.Goals as goal

pub returns-then-not-tells_page-clause-answer : goal.returns-then-not-tells_page-clause-answer
returns-then-not-tells_page-clause-answer c =
    λ can. other_page c.args.machine.now _ c.args.entry.now can c.args.frame (done_own _ c.args.frame c.requires.done) c.args.page
    c.args.version c.requires.loads c.requires.done (sym c.tells_page.ensures ∙ c.if-not-tells_page.true)

pub returns-in_default-clause-answer : goal.returns-in_default-clause-answer
returns-in_default-clause-answer c =
    λ can. stale c.args.machine.now _ c.args.entry.now can c.args.frame (done_own _ c.args.frame c.requires.done) c.args.page
    c.args.version c.requires.loads c.requires.done (sym c.tells_page.ensures ∙ c.if-not-tells_page.false)
    (rw c.in_default.is at c.take_under.ensures.taken)

pub bring-requires-clause-can_bring : goal.bring-requires-clause-can_bring
bring-requires-clause-can_bring c =
    let its = rw c.in-Some.is at c.take_under.ensures.taken in
    own_comes c.args.machine.now _ c.args.entry.now c.requires.can c.args.frame (done_own _ c.args.frame c.requires.done) c.args.page
    c.args.version c.requires.loads c.requires.done c.in-Some.work its.0 its.1

pub returns-clause-answer : goal.returns-clause-answer
returns-clause-answer c =
    let its = rw c.in-Some.is at c.take_under.ensures.taken in
    λ can. back c.args.machine.now _ c.args.entry.now can c.args.frame (done_own _ c.args.frame c.requires.done) c.args.page c.args.version
    c.requires.loads c.requires.done c.in-Some.work its.0 its.1 _ _ c.take_under.ensures.gone c.bring.result c.bring.ensures.takes
