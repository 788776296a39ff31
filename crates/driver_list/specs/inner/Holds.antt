-- The holds of pages as contracts see them.
use Rattle.std.specs.Prelude.{ℕ, ◌-◌, ◌^◌, ◌==◌, if◌then◌else◌, Bool, List, [], ◌∷◌, ◌++◌, length, take}
use Rattle.std.specs.Prelude.{replicate, slice_index_or, slice_set}
use Rattle.std.specs.List.{list_any}
use Rattle.sgx_types.specs.declared.names.Page.{Page}
use Rattle.sgx_types.specs.declared.names.Actor.{Actor}
use Rattle.sgx_types.specs.declared.names.Actor.TheVariants.{Builder, Cpu, Reclaimer}
use Rattle.sgx_types.specs.Pages.{same_page}
use Rattle.driver_list.specs.inner.Places.{PageCounts}

-- how many pages there are, and which of them each actor holds: the processors in order, and then the builder
pub record HoldTable : Type 0 where
  pub counts : PageCounts
  pub own : List (List Page)

-- an actor's number among those that hold pages; the reclaimer holds none
abbrev pub holder_of : Actor → ℕ
holder_of Builder = 16
holder_of (Cpu cpu) = cpu.0
holder_of Reclaimer = 2 ^ 64 - 1

-- how many pages an actor holds at most: the builder one, and a processor three, and eight version array pages that it brought back
abbrev pub most_of : ℕ → ℕ
most_of holder = if holder == 16 then 1 else 11

-- nobody holds a page
abbrev pub no_holds : PageCounts → HoldTable
no_holds counts = record { counts = counts; own = replicate 17 [] }

-- the pages that an actor holds
abbrev pub own_of : List (List Page) → ℕ → List Page
own_of own holder = slice_index_or own holder []

-- a page is among those that an actor holds
abbrev pub holds_page : List Page → Page → Bool
holds_page pages page = list_any (same_page page) pages

-- the pages of an actor that holds this one too
abbrev pub joined : List Page → Page → List Page
joined pages page = if holds_page pages page then pages else pages ++ page ∷ []

-- some actor holds the page
abbrev pub is_held : List (List Page) → Page → Bool
is_held own page = list_any (λ pages. holds_page pages page) own

-- one hold more of an actor
abbrev pub with_hold : HoldTable → ℕ → Page → HoldTable
with_hold holds holder page = record holds { own = slice_set holds.own holder (own_of holds.own holder ++ page ∷ []) }

-- an actor's pages without the last one
abbrev pub but_last : List Page → List Page
but_last pages = take (length pages - 1) pages

-- an actor's last hold ended
abbrev pub with_one_less : HoldTable → ℕ → HoldTable
with_one_less holds holder = record holds { own = slice_set holds.own holder (but_last (own_of holds.own holder)) }
