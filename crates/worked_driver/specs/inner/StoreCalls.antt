-- What the store was asked and answered in some of the runs. The records are left empty, since nothing here looks into them.
use Rattle.std.specs.Prelude.{ℕ, List, [], ◌∷◌, ◌++◌, true, false, reverse}
use Rattle.sgx_types.specs.Pages.{page_at}
use Rattle.sgx_types.specs.Sealed.{Sealed}
use Rattle.backing_store.specs.Calls.{Call, Given, Got, Put, Room}

abbrev pub blank : Sealed
blank = record { header = record { enclave = 0; address = 0; flags = 0 }; cipher = []; tag = [] }

-- a page is stored: there is room, and the put goes well
abbrev stored : ℕ → List Call
stored n = Room (page_at 1 n) false ∷ Put (page_at 1 n) blank false ∷ []

-- its record is given
abbrev got : ℕ → List Call
got n = Got (page_at 1 n) (Given blank) ∷ []

-- six pages are stored, and three of them given
abbrev tight_calls : List Call
tight_calls = stored 0 ++ stored 1 ++ stored 2 ++ stored 3 ++ got 0 ++ stored 4 ++ got 1 ++ stored 5 ++ got 2

-- the run in which a record comes back with a flipped bit
abbrev pub bus_calls : List Call
bus_calls = reverse tight_calls

-- the run in which the third put fails
abbrev pub lost_calls : List Call
lost_calls = reverse (stored 0 ++ stored 1 ++ (Room (page_at 1 2) false ∷ Put (page_at 1 2) blank true ∷ [])
    ++ stored 3 ++ got 0 ++ stored 4 ++ got 1 ++ (Room (page_at 1 5) false ∷ []))

-- the run in which the store has no room at first
abbrev pub room_calls : List Call
room_calls = reverse ((Room (page_at 1 0) true ∷ []) ++ stored 1 ++ stored 2 ++ stored 3 ++ stored 4 ++ got 1
    ++ stored 5 ++ got 2 ++ (Room (page_at 1 6) false ∷ []))

-- a run in which all goes well
abbrev pub reload_calls : List Call
reload_calls = reverse (tight_calls ++ stored 6)
