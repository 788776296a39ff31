use Rattle.std.proofs.Common.{◌∙◌}
use Rattle.due_tables.proofs.NoteLaws.{noted_shown}
use Rattle.audit_trace.proofs.FollowLaws.{all_follows, among, can_follow, can_hold, can_note, few, followed_by, holds_by}
use Rattle.audit_trace.proofs.FollowLaws.{settled_with}
use Rattle.audit_trace.proofs.FollowLaws.{with_list}
use Rattle.audit_trace.proofs.auditing.Auditing.follow.Goals as goal

pub follow-requires : goal.follow-requires
follow-requires c = can_follow c.args.job.now c.args.self.now c.args.before c.args.start c.args.entry.now c.requires

pub hold-requires : goal.hold-requires
hold-requires c =
    can_hold c.args.job.now c.args.self.now c.args.before c.args.start c.args.entry.now c.requires c.follow.new.driver
    (followed_by c.args.job.now c.args.self.now c.args.before c.args.start c.args.entry.now c.requires c.follow.new.driver c.follow.ensures)

pub note-requires-clause-cursor : goal.note-requires-clause-cursor
note-requires-clause-cursor c = c.requires.trace.turns.within

pub note-requires-clause-cpu : goal.note-requires-clause-cpu
note-requires-clause-cpu c = among c.args.job.now c.args.self.now c.args.before c.args.start c.args.entry.now c.requires

pub note-requires-clause-few : goal.note-requires-clause-few
note-requires-clause-few c = few c.args.job.now c.args.self.now c.args.before c.args.start c.args.entry.now c.requires

pub returns : goal.returns
returns c = λ can.
    (let f = followed_by c.args.job.now c.args.self.now c.args.before c.args.start c.args.entry.now can c.follow.new.driver
    c.follow.ensures in
    let d = c.follow.new.driver in
    let list = c.hold.new.active in
    all_follows c.args.job.now c.args.self.now c.args.before c.args.start c.args.entry.now can d f list.own c.note.new.self
    c.settle.new.self _
    (holds_by c.args.job.now c.args.self.now c.args.before c.args.start c.args.entry.now can d f list.own c.hold.ensures.holds)
    (noted_shown c.args.job.now can.past c.args.self.now.turns c.note.new.self c.args.before c.args.entry.now c.note.ensures can.trace.turns
    (can_note c.args.job.now c.args.self.now c.args.before c.args.start c.args.entry.now can))
    (c.settle.ensures ∙ settled_with c.args.self.now.pass c.marks.ensures c.free_count.ensures)
    (with_list c.args.self.now d list c.note.new.self c.settle.new.self c.hold.ensures.others))
