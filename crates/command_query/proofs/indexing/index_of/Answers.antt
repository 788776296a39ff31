use Rattle.std.proofs.Common.{reverse, take}
use Rattle.command_query.proofs.IndexLaws.{stands_more, stands_all}
use Rattle.command_query.proofs.indexing.index_of.Goals as goal

pub loop-entry-preserved : goal.loop-entry-preserved
loop-entry-preserved c =
    stands_more c.push.new.self c.args.entries.now c.loop-entry.entry-index _ c.loop-entry-test.true
    (c.in_ok-push.ensures.pushed (reverse (take c.loop-entry.entry-index c.args.entries.now)) c.loop-entry.invariant)

pub returns : goal.returns
returns c = stands_all c.loop-entry.index c.args.entries.now c.loop-entry.entry-index c.loop-entry-test.false c.loop-entry.invariant
