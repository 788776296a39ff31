use Rattle.std.proofs.Common.{refl, arith}
use Rattle.cached_translations.proofs.TranslationLaws.{FitsCache-empty}
use Rattle.cached_translations.proofs.IndexLaws.{index_none}
use Rattle.cached_translations.proofs.cache.Cache.clear.Goals as goal

pub forget_pages-requires : goal.forget_pages-requires
forget_pages-requires c = rw c.deref.ensures.value c.self.invariant.index.only

pub invariant_of-self : goal.invariant_of-self
invariant_of-self c = record {
  oldest_in = omega arith;
  first_until_full = λ h. refl;
  room = omega (arith, c.clear.ensures.capacity, c.self.invariant.room);
  fits = rw c.clear.ensures.items FitsCache-empty;
  index = rw c.clear.ensures.items (index_none c.forget_pages.new.table.slots c.forget_pages.ensures);
}
