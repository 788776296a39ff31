-- The states of pages as contracts see them.
use Rattle.std.specs.Prelude.{List, replicate, slice_index_or, slice_set}
use Rattle.sgx_types.specs.declared.names.Page.{Page}
use Rattle.driver_list.specs.declared.page_states.PageState.{PageState}
use Rattle.driver_list.specs.declared.page_states.PageState.TheVariants.{Absent}
use Rattle.driver_list.specs.inner.Places.{PageCounts, place_of, total}

-- how many pages there are, and the state of each, by its place
pub record StateTable : Type 0 where
  pub counts : PageCounts
  pub states : List PageState

-- no page has been in a frame
abbrev pub all_absent : PageCounts → StateTable
all_absent counts = record { counts = counts; states = replicate (total counts) Absent }

-- the state of a page
abbrev pub state_of : StateTable → Page → PageState
state_of table page = slice_index_or table.states (place_of table.counts page) Absent

-- a page with another state
abbrev pub with_state : StateTable → Page → PageState → StateTable
with_state table page state = record table { states = slice_set table.states (place_of table.counts page) state }
