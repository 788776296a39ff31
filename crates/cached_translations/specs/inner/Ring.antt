-- A cache's places as a ring.
use Rattle.std.specs.Prelude.{ℕ, ◌≡◌, ◌<◌, ◌≤◌, List, ◌++◌, length, take, drop, vec_capacity}
use Rattle.cached_translations.specs.declared.cache.Cache.TheInside.{Inside}
use Rattle.cached_translations.specs.declared.cache.Translation.{Translation}
use Rattle.cached_translations.specs.declared.cache.TheConstants.{PLACES}
use Rattle.cached_translations.specs.inner.Translations.{FitsCache}
use Rattle.cached_translations.specs.inner.Index.{IsIndex}

-- the places from one on, around the end
abbrev pub around_from : List Translation → ℕ → List Translation
around_from places first = drop first places ++ take first places

-- the translations, oldest first
abbrev pub from_oldest : Inside → List Translation
from_oldest c = around_from c.places.items c.oldest

-- the oldest is in the first place until every place is taken, and the table leads to the places
pub record IsRing (c : Inside) : Type 0 where
  pub oldest_in : c.oldest < PLACES
  pub first_until_full : length c.places.items < PLACES → c.oldest ≡ 0
  pub room : PLACES ≤ vec_capacity c.places
  pub fits : FitsCache (from_oldest c)
  pub index : IsIndex c.table.slots c.places.items
