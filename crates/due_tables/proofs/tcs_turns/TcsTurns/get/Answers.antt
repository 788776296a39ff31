use Rattle.std.proofs.Common.{length, map, ap, arith}
use Rattle.due_tables.specs.inner.TcsTurns.{IsInRow}
use Rattle.due_tables.proofs.TableLaws.{if_any, place_there}
use Rattle.due_tables.proofs.tcs_turns.TcsTurns.get.Goals as goal

pub returns-clause-placed : goal.returns-clause-placed
returns-clause-placed c =
    if_any (IsInRow (map length c.args.self.now) c.args.page) c.in_ok-turn.turn.now
    (place_there c.self.inside.pages.items c.deref.result.now c.args.self.now c.from.result c.args.page.enclave c.args.page.number
    c.in_ok-turns.turns.now c.self.view_is c.deref.ensures.value c.from.ensures c.in_ok-turns.ensures.lookup.3
    (omega (arith, c.in_ok-turn.ensures.lookup.3.0, ap length c.deref-2.ensures.value)))
