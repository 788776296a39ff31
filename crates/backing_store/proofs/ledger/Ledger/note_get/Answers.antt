use Rattle.std.proofs.Common.{arith, vec_len}
use Rattle.backing_store.proofs.CallLaws.{Counts-get}
use Rattle.backing_store.proofs.ledger.Ledger.note_get.Goals as goal

pub returns-clause-kept : goal.returns-clause-kept
returns-clause-kept c =
    let old = c.args.self.now in
    let call = c.push_reserved.ensures in
    record {
      counted = Counts-get old.calls.items c.push_reserved.new.self.items old.rooms old.gets (vec_len old.puts) (vec_len old.blanks)
          old.known c.note_get.new.self c.args.page c.args.answer call.items c.note_get.ensures.get c.requires.kept.counted;
      room = record {
        calls = omega (arith, c.requires.room.calls, call.len, call.capacity);
        puts = omega (arith, c.requires.room.puts);
        known = omega (arith, c.requires.room.known, c.note_get.ensures.room);
      };
    }
