use Rattle.std.proofs.Common.{◌+◌, ap, ◌∙◌, if◌then◌else◌}
use Rattle.std.specs.HashMap.{get}
use Rattle.sgx_types.specs.Pages.{same_page}
use Rattle.backing_store.specs.declared.page_places.PageCounts.{PageCounts}
use Rattle.backing_store.specs.inner.Places.{counts_of, put_key, same_put}
use Rattle.backing_store.proofs.KeyLaws.{place_read}
use Rattle.backing_store.proofs.page_places.PagePlaces.note_put.Goals as goal

pub returns-clause-put : goal.returns-clause-put
returns-clause-put c =
    let updates = rw c.unwrap.ensures at c.insert-kept.ensures.updates in
    let old = c.args.self.now in
    record {
      counts = λ g. c.set_counts.ensures.counts g
          ∙ ap (λ (k : PageCounts). if same_page c.args.page g then record k { puts = k.puts + 1 } else counts_of old g)
          c.counts-counts.ensures;
      place = λ g nth.
          let at = put_key g nth in
          place_read c.args.page g (c.counts-counts.result.puts + 1) ((counts_of old c.args.page).puts + 1) nth c.args.place
          (get same_put c.set_counts.new.self.places at) (get same_put old.places at) _
          (ap (λ (k : PageCounts). k.puts + 1) c.counts-counts.ensures)
          (ap (λ m. get same_put m at) c.set_counts.ensures.places) (updates.0 at);
    }
