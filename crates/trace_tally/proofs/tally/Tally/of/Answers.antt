use Rattle.std.proofs.Common.{reverse, take}
use Rattle.trace_tally.proofs.TallyLaws.{follows_more, follows_all}
use Rattle.trace_tally.proofs.tally.Tally.of.Goals as goal

pub loop-entry-preserved : goal.loop-entry-preserved
loop-entry-preserved c =
    follows_more c.push.new.self c.args.entries.now c.loop-entry.entry-index _ c.loop-entry-test.true
    (c.in_ok-push.ensures (reverse (take c.loop-entry.entry-index c.args.entries.now)) c.loop-entry.invariant)

pub returns : goal.returns
returns c = follows_all c.loop-entry.tally c.args.entries.now c.loop-entry.entry-index c.loop-entry-test.false c.loop-entry.invariant
