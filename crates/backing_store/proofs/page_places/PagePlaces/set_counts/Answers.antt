use Rattle.std.specs.HashMap.{get}
use Rattle.sgx_types.specs.Pages.{same_page}
use Rattle.backing_store.proofs.KeyLaws.{counts_read}
use Rattle.backing_store.proofs.page_places.PagePlaces.set_counts.Goals as goal

pub returns-clause-counts : goal.returns-clause-counts
returns-clause-counts c g =
    let updates = rw c.unwrap.ensures at c.insert-kept.ensures.updates in
    counts_read c.args.page g c.args.counts (get same_page c.args.self.now.counts g) _ (updates.0 g)
