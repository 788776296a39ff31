use Rattle.std.proofs.Common.{◌≡◌, length, map, nat_lt, slice_index, ap, arith}
use Rattle.due_tables.proofs.TableLaws.{count_there}
use Rattle.due_tables.proofs.tcs_turns.TcsTurns.has_row.Goals as goal

pub returns-in-Some : goal.returns-in-Some
returns-in-Some c =
    let count = count_there c.self.inside.pages.items c.deref.result.now c.args.self.now c.from.result c.args.page.enclave
    c.in-Some.turns.now c.self.view_is c.deref.ensures.value c.from.ensures c.in-Some.ensures.lookup.3 in
    let same : c.len.result ≡ slice_index (map length c.args.self.now) c.args.page.enclave =
    omega (arith, c.len.ensures, c.in-Some.turns.now.ok.0, count) in
    ap (nat_lt c.args.page.number) same
