-- The moves of pages along entries, which stand newest first, and where a page was behind the first of them.
use Rattle.std.specs.Prelude.{ℕ, ◌+◌, ◌-◌, List, [], ◌∷◌, ◌++◌, length, drop, option_to_list}
use Rattle.sgx_rules.specs.declared.entries.Entry.{Entry}
use Rattle.sgx_types.specs.declared.names.Page.{Page}
use Rattle.trace_places.specs.declared.moves.Where.{Where}
use Rattle.trace_places.specs.Places.{moved_by}
use Rattle.trace_query.specs.declared.page_moves.Move.{Move}

-- the first n entries
abbrev pub first_entries : ℕ → List Entry → List Entry
first_entries n past = drop (length past - n) past

-- moves that are made at one place
abbrev pub moves_at : ℕ → List Where → List Move
moves_at place [] = []
moves_at place (to ∷ tos) = record { place = place; to = to } ∷ moves_at place tos

-- the moves of a page, oldest first: one for each entry behind which it is elsewhere than before it
abbrev pub moves : List Entry → Page → List Move
moves [] g = []
moves (e ∷ past) g = moves past g ++ moves_at (length past + 1) (option_to_list (moved_by past e g))
