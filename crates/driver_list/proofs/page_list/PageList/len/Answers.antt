use Rattle.std.proofs.Common.{◌<◌, ◌^◌, ◌∙◌, sym, arith}
use Rattle.slab.specs.Slab.{slab_len}
use Rattle.driver_list.proofs.TableLaws.{few_listed}
use Rattle.driver_list.proofs.page_list.PageList.len.Goals as goal

pub overflow_cast-result : goal.overflow_cast-result
overflow_cast-result c =
    let few : slab_len c.self.inside.nodes < 2 ^ 32 = few_listed _ _ _ _ c.self.invariant.table in
    omega (arith, few, c.len.ensures)

pub returns : goal.returns
returns c = rw (← c.self.view_is) (c.len.ensures ∙ sym c.self.invariant.table.counted)
