use Rattle.std.proofs.Common.{◌∙◌, sym}
use Rattle.audit_tables.proofs.FitLaws.{entry_fits}
use Rattle.audit_tables.proofs.FollowLaws.{entry_followed}
use Rattle.audit_tables.proofs.LawfulLaws.{can_note, noted_followed}
use Rattle.audit_tables.proofs.following.follow.Goals as goal

pub note_tables-requires : goal.note_tables-requires
note_tables-requires c =
    can_note c.args.turns.now c.args.driver.now c.args.before c.args.start c.args.entry.now c.requires
    (sym c.is_plain.ensures ∙ c.if-is_plain.true)

pub follow_event-requires : goal.follow_event-requires
follow_event-requires c = entry_fits c.args.turns.now c.args.driver.now c.args.before c.args.start c.args.entry.now c.requires

pub returns-then-is_plain : goal.returns-then-is_plain
returns-then-is_plain c = λ can.
    noted_followed c.args.turns.now c.args.driver.now c.note_tables.new.driver c.args.before c.args.start c.args.entry.now can
    (sym c.is_plain.ensures ∙ c.if-is_plain.true) c.note_tables.ensures

pub returns-else-is_plain : goal.returns-else-is_plain
returns-else-is_plain c = λ can.
    entry_followed c.args.turns.now c.args.driver.now c.follow_event.new.driver c.args.before c.args.start c.args.rec.now c.args.entry.now
    can (sym c.is_plain.ensures ∙ c.if-is_plain.false) c.follow_event.ensures
