-- What is kept of the moves of pages, and when it is that of entries.
use Rattle.std.specs.Prelude.{◌≡◌, ℕ, ◌+◌, ◌<◌, ◌^◌, List, ◌++◌, length, Option, Some, None}
use Rattle.sgx_rules.specs.declared.entries.Entry.{Entry}
use Rattle.sgx_types.specs.declared.names.Page.{Page}
use Rattle.trace_places.specs.declared.moves.PageMove.{PageMove}
use Rattle.trace_places.specs.Moves.{move_of}
use Rattle.trace_places.specs.inner.Tables.{Stands, may_move}
use Rattle.trace_places.specs.inner.Tables as places
use Rattle.trace_query.specs.declared.page_moves.PageMoves.{PageMoves}
use Rattle.trace_query.specs.Moves.{moves, moves_at}
use Rattle.trace_query.specs.inner.Lists.{moves_in, HasMoveRoom}

-- the moves are those of these entries
pub record MovesFollow (known : PageMoves) (past : List Entry) : Type 0 where
  pub places : Stands known.places past
  pub lists : (g : Page) → moves_in known.lists g ≡ moves past g
  pub len : known.len ≡ length past

-- ---- room

-- so many moves more of a page need no memory, if it is one
abbrev pub MovesHaveRoomIf : PageMoves → Option Page → ℕ → Type 0
MovesHaveRoomIf known None k = Unit {0}
MovesHaveRoomIf known (Some g) k = HasMoveRoom known.lists g k

-- the next entry needs no memory
pub record MovesHaveRoom (known : PageMoves) (e : Entry) : Type 0 where
  pub places : places.PlacesHaveRoom known.places e
  pub former : MovesHaveRoomIf known (may_move known.places e).former 2
  pub named : MovesHaveRoomIf known (may_move known.places e).named 2
  pub place : known.len + 1 < 2 ^ 64

-- a move needs no memory, if it is one
abbrev pub MovesHaveRoomToNote : PageMoves → Option PageMove → Type 0
MovesHaveRoomToNote known None = Unit {0}
MovesHaveRoomToNote known (Some move) = HasMoveRoom known.lists move.page 1

-- ---- what changes

-- the same is known, and no room is lost
pub record MovesStay (old new : PageMoves) : Type 0 where
  pub places : new.places ≡ old.places
  pub lists : (g : Page) → moves_in new.lists g ≡ moves_in old.lists g
  pub room : (g : Page) (k : ℕ) → HasMoveRoom old.lists g k → HasMoveRoom new.lists g k
  pub len : new.len ≡ old.len

-- a move is noted behind all entries, if it is one
pub record NotesMove (old : PageMoves) (move : Option PageMove) (new : PageMoves) : Type 0 where
  pub places : new.places ≡ old.places
  pub lists : (g : Page) → moves_in new.lists g ≡ moves_in old.lists g ++ moves_at old.len (move_of move g)
  pub room : (g : Page) (k : ℕ) → HasMoveRoom old.lists g (k + 1) → HasMoveRoom new.lists g k
  pub len : new.len ≡ old.len
