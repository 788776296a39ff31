-- What the states of pages are kept as.
use Rattle.std.specs.Prelude.{◌≡◌, length}
use Rattle.driver_list.specs.declared.page_states.PageStates.TheInside.{Inside}
use Rattle.driver_list.specs.inner.Places.{total}
use Rattle.driver_list.specs.inner.States.{StateTable}

-- the states by place
abbrev pub table_of : Inside → StateTable
table_of s = record { counts = s.places; states = s.states.items }

-- each page has its place
abbrev pub AreStatesKept : Inside → Type 0
AreStatesKept s = length s.states.items ≡ total s.places
