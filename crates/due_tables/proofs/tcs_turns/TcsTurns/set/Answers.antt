use Rattle.std.proofs.Common.{arith}
use Rattle.due_tables.proofs.TableLaws.{place_low, row_set}
use Rattle.due_tables.proofs.tcs_turns.TcsTurns.set.Goals as goal

pub index_mut-requires-2 : goal.index_mut-requires-2
index_mut-requires-2 c =
    let low = place_low c.self.inside.pages.items c.args.self.now c.args.page c.from.result c.index_mut.result.now c.self.view_is
    c.requires c.from.ensures c.index_mut.ensures.value in
    omega (arith, low, c.index_mut.result.now.ok.0)

pub returns : goal.returns
returns c =
    row_set c.self.inside.pages.items c.args.self.now c.args.page c.from.result c.index_mut.result.now c.args.turn c.self.view_is c.requires
    c.from.ensures c.index_mut.ensures.value
