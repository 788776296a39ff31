use Rattle.std.proofs.Common.{◌≤◌, ◌+◌, ◌^◌, ◌++◌, length, take, length-append, length-take, arith}
use Rattle.io_edges.proofs.Read.{HasRead-append, TakesAtMost-more}
use Rattle.trace_file.proofs.SeenLaws.{entries_read, fault_read, too_long}
use Rattle.trace_file.proofs.reading.read_old.Goals as goal

pub returns-in_err-n-clause-reads : goal.returns-in_err-n-clause-reads
returns-in_err-n-clause-reads g c =
    let was = c.loop-count.invariant in
    let room = length-take c.min-room.result c.loop-count.piece in
    TakesAtMost-more (g.S.Source.left c.args.source.now) (g.S.Source.left c.loop-count.source) (g.S.Source.left c.read_piece.new.source)
    (length was.bytes) _ (2 ^ 30 + 1) was.read.rest c.in_err-n.ensures.err
    (omega (arith, was.count, room, c.min-room.ensures, c.loop-count-test.true))

pub returns-then-n-eq0-clause-entries : goal.returns-then-n-eq0-clause-entries
returns-then-n-eq0-clause-entries g c =
    let was = c.loop-count.invariant in
    let short : length was.bytes ≤ 2 ^ 30 = omega (arith, was.count, c.loop-count-test.true) in
    entries_read c.args.edition c.entries_of.result (λ entries. entries.items) c.read_piece.new.reader (g.S.Source.left c.args.source.now)
    (g.S.Source.left c.loop-count.source) (g.S.Source.left c.read_piece.new.source) was.bytes _ c.in_ok-n.n c.if-n-eq0.true short was.read
    c.in_ok-n.ensures.read (c.in_ok-n.ensures.at_end c.if-n-eq0.true) (c.in_ok-n.ensures.seen c.args.edition was.bytes was.seen)
    (c.entries_of.ensures.entries c.args.edition)

pub returns-then-n-eq0-clause-fault : goal.returns-then-n-eq0-clause-fault
returns-then-n-eq0-clause-fault g c =
    let was = c.loop-count.invariant in
    let short : length was.bytes ≤ 2 ^ 30 = omega (arith, was.count, c.loop-count-test.true) in
    fault_read c.args.edition c.entries_of.result c.read_piece.new.reader (g.S.Source.left c.args.source.now)
    (g.S.Source.left c.loop-count.source)
    (g.S.Source.left c.read_piece.new.source) was.bytes _ c.in_ok-n.n c.if-n-eq0.true short was.read c.in_ok-n.ensures.read
    (c.in_ok-n.ensures.at_end c.if-n-eq0.true) (c.in_ok-n.ensures.seen c.args.edition was.bytes was.seen)
    (c.entries_of.ensures.fault c.args.edition)

pub loop-count-preserved : goal.loop-count-preserved
loop-count-preserved g c =
    let was = c.loop-count.invariant in
    let more = take c.in_ok-n.n c.read_piece.new.piece in
    let room = length-take c.min-room.result c.loop-count.piece in
    let long = length-take c.in_ok-n.n c.read_piece.new.piece in
    let both = length-append was.bytes more in
    record {
      bytes = was.bytes ++ more;
      read = HasRead-append (g.S.Source.left c.args.source.now) (g.S.Source.left c.loop-count.source)
          (g.S.Source.left c.read_piece.new.source)
          was.bytes more was.read c.in_ok-n.ensures.read;
      count = omega (arith, was.count, both, long, c.in_ok-n.ensures.bound, c.read_piece.ensures.length);
      seen = c.in_ok-n.ensures.seen c.args.edition was.bytes was.seen;
      short = omega (arith, was.count, room, c.min-room.ensures, c.in_ok-n.ensures.bound, c.loop-count-test.true);
      not_fallen = omega (arith, was.not_fallen, c.read_piece.ensures.cause.not_fallen);
    }

pub returns-clause-fault : goal.returns-clause-fault
returns-clause-fault g c =
    let was = c.loop-count.invariant in
    too_long c.args.edition (g.S.Source.left c.args.source.now) (g.S.Source.left c.loop-count.source) was.bytes was.read
    (omega (arith, was.count, c.loop-count-test.false))
