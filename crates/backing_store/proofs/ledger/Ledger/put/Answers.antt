use Rattle.std.proofs.Common.{◌≡◌, ◌+◌, ℕ, vec_len, reverse, ap, subst, arith}
use Rattle.backing_store.specs.declared.page_places.PageCounts.{PageCounts}
use Rattle.backing_store.specs.inner.Places.{OnePut}
use Rattle.backing_store.proofs.CallLaws.{records-le, Counts-put}
use Rattle.backing_store.proofs.ledger.Ledger.put.Goals as goal

pub note_put-requires-clause-few : goal.note_put-requires-clause-few
note_put-requires-clause-few c =
    let counted = c.requires.kept.counted in
    omega (
      arith,
      ap (λ (k : PageCounts). k.puts) (counted.counts c.args.page),
      records-le c.args.page (reverse c.args.self.now.calls.items),
      counted.are_puts,
      c.args.self.now.puts.ok.0,
    )

pub returns-clause-kept : goal.returns-clause-kept
returns-clause-kept c =
    let old = c.args.self.now in
    let P : ℕ → Type 0 = λ at. OnePut old.known c.args.page at c.note_put.new.self in
    let less : vec_len c.pop.new.self + 1 ≡ vec_len old.blanks = rw c.unwrap-blank.ensures at c.pop.ensures.cases in
    let call = c.push_reserved-2.ensures in
    let rec = c.push_reserved.ensures in
    record {
      counted = Counts-put old.calls.items c.push_reserved-2.new.self.items old.rooms old.gets (vec_len old.puts) (vec_len old.blanks)
          (vec_len c.push_reserved.new.self) (vec_len c.pop.new.self) old.known c.note_put.new.self c.args.page c.put_fails-failed.result
          call.items c.if-failed.false (subst P c.len-place.ensures c.note_put.ensures.put) rec.len less c.requires.kept.counted;
      room = record {
        calls = omega (arith, c.requires.kept.room.calls, call.len, call.capacity, less);
        puts = omega (arith, c.requires.kept.room.puts, rec.len, rec.capacity, less);
        known = omega (arith, c.requires.kept.room.known, c.note_put.ensures.room, less);
      };
    }
