-- The lists of moves, by page.
use Rattle.std.specs.Prelude.{ℕ, ◌==◌, ◌&&◌, Bool, List}
use Rattle.std.specs.Prelude.{IsSome}
use Rattle.std.specs.HashMap.{get}
use Rattle.std.specs.List.Sorted.{IsNonDecreasingBy}
use Rattle.sgx_types.specs.declared.names.Page.{Page}
use Rattle.sgx_types.specs.Pages.{same_page}
use Rattle.trace_places.specs.declared.moves.Where.{Where}
use Rattle.trace_places.specs.declared.moves.Where.TheVariants.{Nowhere}
use Rattle.trace_query.specs.declared.page_moves.Move.{Move}
use Rattle.trace_query.specs.declared.move_lists.MoveLists.{MoveLists}
use Rattle.trace_spans.specs.inner.Last.{last_from}
use Rattle.trace_spans.specs.inner.Listed.{items_of, HasSpare}

-- the moves of a page: none where there is no list
abbrev pub moves_in : MoveLists → Page → List Move
moves_in known g = items_of (get same_page known.lists g)

-- a page has a list, be it an empty one
abbrev pub HasMoveList : MoveLists → Page → Type 0
HasMoveList known g = IsSome (get same_page known.lists g)

-- so many moves more of a page need no memory
abbrev pub HasMoveRoom : MoveLists → Page → ℕ → Type 0
HasMoveRoom known g k = HasSpare (get same_page known.lists g) k

-- moves stand by the places at which they were made
abbrev pub MovesRise : List Move → Type 0
MovesRise steps = IsNonDecreasingBy (λ step. step.place) steps

abbrev pub at_place_from : Where → List Move → ℕ → Where
at_place_from first steps n = last_from (λ step. step.place) (λ step. step.to) first steps n

-- where the last move up to a place led
abbrev pub at_place : List Move → ℕ → Where
at_place steps n = at_place_from Nowhere steps n
