-- The moves that an entry makes, as the pages that they are of see them.
use Rattle.std.specs.Prelude.{◌≡◌, if◌then◌else◌, List, [], ◌∷◌, ◌++◌, Option, Some, None}
use Rattle.sgx_types.specs.declared.names.Page.{Page}
use Rattle.sgx_types.specs.Pages.{same_page}
use Rattle.trace_places.specs.declared.moves.MayMove.{MayMove}
use Rattle.trace_places.specs.declared.moves.Moves.{Moves}
use Rattle.trace_places.specs.declared.moves.PageMove.{PageMove}
use Rattle.trace_places.specs.declared.moves.Where.{Where}

abbrev pub move_of : Option PageMove → Page → List Where
move_of None g = []
move_of (Some move) g = if same_page move.page g then move.to ∷ [] else []

-- where the moves bring a page
abbrev pub moves_of : Moves → Page → List Where
moves_of moves g = move_of moves.former g ++ move_of moves.named g

-- it is a move of this page, if it is one
abbrev pub IsMoveOf : Option PageMove → Option Page → Type 0
IsMoveOf None page = Unit {0}
IsMoveOf (Some move) page = page ≡ Some move.page

-- no other pages move
pub record AreMovesOf (moves : Moves) (pages : MayMove) : Type 0 where
  pub former : IsMoveOf moves.former pages.former
  pub named : IsMoveOf moves.named pages.named
