-- The translations that a processor holds since it entered, as a list, oldest first.
use Rattle.std.specs.Prelude.{ℕ, ◌≢◌, ◌<◌, ◌≤◌, ◌^◌, ◌==◌, if◌then◌else◌, List, [], ◌∷◌, ◌++◌}
use Rattle.std.specs.Prelude.{Option, is_some, nat_lt, length, drop, find, All, AllPairs}
use Rattle.cached_translations.specs.declared.cache.Translation.{Translation}
use Rattle.cached_translations.specs.declared.cache.TheConstants.{PLACES}

-- the translation of a page, None where the page is not held
abbrev pub translation_of : List Translation → ℕ → Option Translation
translation_of held number = find (λ t. t.number == number) held

-- all of them, but for the first where they are more than there are places
abbrev pub newest : List Translation → List Translation
newest held = if nat_lt PLACES (length held) then drop 1 held else held

-- a page that is not held goes to the end; a page that is held changes nothing
abbrev pub with_translation : List Translation → Translation → List Translation
with_translation held t = if is_some (translation_of held t.number) then held else newest (held ++ t ∷ [])

-- there are no more than there are places, no page stands twice, and page numbers fit 32 bits
pub record FitsCache (held : List Translation) : Type 0 where
  pub within : length held ≤ PLACES
  pub distinct : AllPairs (λ (a b : Translation). a.number ≢ b.number) held
  pub small : All (λ (t : Translation). t.number < 2 ^ 32) held
