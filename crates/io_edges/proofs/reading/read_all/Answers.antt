use Rattle.std.proofs.Common.{◌+◌, length, arith, length-take}
use Rattle.io_edges.proofs.Read.{HasRead-append, TakesAtMost-more, told_at_err}
use Rattle.io_edges.proofs.reading.read_all.Goals as goal

pub returns-in_err-read_piece-clause-err : goal.returns-in_err-read_piece-clause-err
returns-in_err-read_piece-clause-err g c =
    let first = g.S.Source.left c.args.source.now in
    let before = g.S.Source.left c.loop-piece.source in
    let now = g.S.Source.left c.read_piece.new.source in
    let bytes = c.loop-piece.bytes in
    told_at_err c.from_residual.result (TakesAtMost-more first before now (length bytes.items) _ (c.args.limit + 1)
    c.loop-piece.invariant.read.rest c.in_err-read_piece.ensures.err
    (omega (arith, bytes.ok.0, length-take c.min-room.result c.loop-piece.piece)))

pub loop-piece-preserved : goal.loop-piece-preserved
loop-piece-preserved g c =
    let first = g.S.Source.left c.args.source.now in
    let before = g.S.Source.left c.loop-piece.source in
    let now = g.S.Source.left c.read_piece.new.source in
    record {
      read = rw (c.in_ok-read_piece.ensures.bytes)
          (HasRead-append first before now _ _ c.loop-piece.invariant.read c.in_ok-read_piece.ensures.read);
      short = omega (
        arith,
        c.in_ok-read_piece.ensures.len,
        c.in_ok-read_piece.ensures.bound,
        length-take c.min-room.result
            c.loop-piece.piece,
      );
      not_fallen = omega (arith, c.loop-piece.invariant.not_fallen, c.read_piece.ensures.cause.not_fallen);
    }
