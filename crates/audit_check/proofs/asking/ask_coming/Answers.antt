use Rattle.std.proofs.Common.{sym, ◌∙◌}
use Rattle.audit_machine.proofs.ComeLaws.{none_comes}
use Rattle.audit_check.proofs.AskLaws.{breaks}
use Rattle.audit_check.proofs.LoadLaws.{away_all, loads_by, none_loaded, refused_entry}
use Rattle.audit_check.proofs.asking.ask_coming.Goals as goal

pub returns-then-not-is_coming-clause-answer : goal.returns-then-not-is_coming-clause-answer
returns-then-not-is_coming-clause-answer c =
    λ can. breaks c.args.machine.now _ c.args.entry.now can _
    (none_comes _ c.args.entry.now c.args.frame c.requires.own (sym c.is_coming.ensures ∙ c.if-not-is_coming.true))

pub returns-in_default-clause-answer : goal.returns-in_default-clause-answer
returns-in_default-clause-answer c =
    λ can. none_loaded c.args.machine.now _ c.args.entry.now can c.args.frame c.requires.own c.open_start.result c.open_start.ensures
    (sym c.load_of.ensures ∙ c.in_default.is)

pub returns-in-Refused-clause-answer : goal.returns-in-Refused-clause-answer
returns-in-Refused-clause-answer c =
    away_all c.args.machine.now _ c.args.entry.now c.args.frame c.requires.own c.in-Refused.why
    (refused_entry c.args.entry.now c.args.frame c.in-Refused.action c.in-Refused.why c.in-Refused.is c.requires.own) _ c.turn_away.result
    c.turn_away.ensures.takes

pub bring_back-requires-clause-loads : goal.bring_back-requires-clause-loads
bring_back-requires-clause-loads c =
    loads_by _ c.args.frame.0 c.open_start.result c.in-Some.page c.in-Some.version c.open_start.ensures
    (sym c.load_of.ensures ∙ c.in-Some.is)
