use Rattle.std.proofs.Common.{ap, unwrap_or}
use Rattle.backing_store.specs.inner.Places.{no_counts}
use Rattle.backing_store.proofs.page_places.PagePlaces.reserve.Goals as goal

pub returns-clause-same : goal.returns-clause-same
returns-clause-same c = record {
  counts = λ page. ap (λ o. unwrap_or o no_counts) (c.reserve.ensures.entries.2 _);
  place = λ page nth. c.reserve-2.ensures.entries.2 _;
}
