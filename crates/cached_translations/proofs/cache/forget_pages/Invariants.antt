use Rattle.cached_translations.specs.inner.Index.{IsIndexOnly}
use Rattle.cached_translations.proofs.cache.forget_pages.Given as goal

-- the table leads from no page of the places up to here
abbrev pub invariant-loop-translation : goal.invariant-loop-translation
invariant-loop-translation l = record {
  only : IsIndexOnly l.table.slots l.places l.translation-index;
}
