use Rattle.std.proofs.Common.{◌*◌, ◌<◌, length, length-set, arith, ◌∙◌}
use Rattle.std.proofs.lemmas.List.FromFn.{fill_by_all}
use Rattle.std.proofs.lemmas.List.Edits.{fill_by_more}
use Rattle.sgx_types.specs.inner.Layouts.{long_at}
use Rattle.version_array.specs.inner.Slots.{empty_slot, filled, filled_page}
use Rattle.version_array.proofs.va_page.VaPage.fill.Goals as goal

pub returns : goal.returns
unfolding filled_page
returns c = fill_by_all (λ index. filled (long_at c.args.from.now (8 * index))) _ 512 empty_slot c.loop-index.invariant.sized
    (λ k low. c.loop-index.invariant.written k (omega (arith, low)))

pub loop-index-preserved : goal.loop-index-preserved
loop-index-preserved c =
    let low : c.loop-index.index < length c.loop-index.self-inside.slots.items = omega (arith, c.loop-index.invariant.sized) in
    record {
      sized = length-set c.loop-index.self-inside.slots.items c.loop-index.index _ ∙ c.loop-index.invariant.sized;
      written = rw c.long_at-version.ensures
          (fill_by_more (λ index. filled (long_at c.args.from.now (8 * index))) c.loop-index.self-inside.slots.items
          c.loop-index.index empty_slot low c.loop-index.invariant.written);
    }
