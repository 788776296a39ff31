-- One entry more is numbered.
use Rattle.std.proofs.Common.{◌<◌, length, arith}
use Rattle.trace_migrate.proofs.NumberLaws.{counted_on, numbered_on}
use Rattle.trace_migrate.proofs.numbering.number_arrays.Goals as goal

pub loop-at-preserved : goal.loop-at-preserved
loop-at-preserved c =
    let was = c.loop-at.invariant in
    let within : c.loop-at.at < length c.args.entries.now = omega (arith, c.loop-at-test.true, was.end) in
    record {
      entries = numbered_on c.args.entries.now c.loop-at.entries c.loop-at.at c.loop-at.made _ within was.entries was.made
          c.number-made.new.event c.number-made.ensures.event;
      made = counted_on c.args.entries.now c.loop-at.entries c.loop-at.at c.loop-at.made _ within was.entries was.made
          c.number-made.result c.number-made.ensures.made;
      few = omega (arith, was.few, c.number-made.ensures.few);
      end = was.end;
    }
