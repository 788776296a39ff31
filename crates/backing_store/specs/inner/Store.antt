-- The planned store as contracts see it, and how it answers each call: by its plan lines and by the calls made before.
use Rattle.std.specs.Prelude.{◌≡◌, ℕ, zero, suc, ◌+◌, ◌-◌, ◌==◌, ◌&&◌, Bool, true, false, if◌then◌else◌, List}
use Rattle.std.specs.Prelude.{[], ◌∷◌, ◌++◌, length, slice_get, count_by, Option, Some, None, unwrap_or}
use Rattle.std.specs.List.{list_any}
use Rattle.std.specs.Option.{option_or, option_and_then}
use Rattle.sgx_types.specs.declared.names.Page.{Page}
use Rattle.sgx_types.specs.Pages.{same_page}
use Rattle.sgx_types.specs.Sealed.{Sealed}
use Rattle.io_edges.specs.declared.plans.PlanLine.{PlanLine}
use Rattle.io_edges.specs.declared.plans.PlanLine.TheVariants.{FailRoom, FailPut, FailGet, DropGet, Flip, Replay, Swap}
use Rattle.backing_store.specs.declared.calls.StoreCall.{StoreCall}
use Rattle.backing_store.specs.declared.calls.StoreCall.TheVariants.{Room, Put, Got}
use Rattle.backing_store.specs.declared.calls.GetAnswer.{GetAnswer}
use Rattle.backing_store.specs.declared.calls.GetAnswer.TheVariants.{Failed, Nothing, Given}

pub record StoreState : Type 0 where
  -- the plan lines that it was handed, in their order
  pub plans : List PlanLine
  -- the calls that were made, the newest first
  pub calls : List StoreCall
  -- the records that were put, those of failed puts too, the newest first
  pub puts : List Sealed

-- no plan lines, and no call was made yet
abbrev pub new_store : StoreState
new_store = record { plans = []; calls = []; puts = [] }

-- ---- the calls so far

abbrev pub is_room : StoreCall → Bool
is_room (Room page failed) = true
is_room _ = false

abbrev pub is_put : StoreCall → Bool
is_put (Put page failed) = true
is_put _ = false

abbrev pub is_get : StoreCall → Bool
is_get (Got page answer) = true
is_get _ = false

abbrev pub is_get_of : Page → StoreCall → Bool
is_get_of page (Got g answer) = same_page g page
is_get_of page _ = false

abbrev pub has_failed : StoreCall → Bool
has_failed (Room page failed) = failed
has_failed (Put page failed) = failed
has_failed (Got page Failed) = true
has_failed (Got page _) = false

-- the number of the next call of a kind, counted from 1, where failed ones count too
abbrev pub next_room : List StoreCall → ℕ
next_room calls = count_by is_room calls + 1

abbrev pub next_put : List StoreCall → ℕ
next_put calls = count_by is_put calls + 1

abbrev pub next_get : List StoreCall → ℕ
next_get calls = count_by is_get calls + 1

-- .. and of the next get of a page
abbrev pub next_get_of : Page → List StoreCall → ℕ
next_get_of page calls = count_by (is_get_of page) calls + 1

-- how many calls failed
abbrev pub count_failed : List StoreCall → ℕ
count_failed calls = count_by has_failed calls

-- for how many records there is place: one more for each room that did not fail, one less for each put
abbrev pub spare_of : List StoreCall → ℕ
spare_of [] = 0
spare_of (Room page false ∷ calls) = spare_of calls + 1
spare_of (Room page true ∷ calls) = spare_of calls
spare_of (Put page failed ∷ calls) = spare_of calls - 1
spare_of (Got page answer ∷ calls) = spare_of calls

-- what a call adds to the places of a page's records, where so many records were put before
abbrev pub more_of : Page → StoreCall → ℕ → List ℕ
more_of page (Put g false) put = if same_page g page then put ∷ [] else []
more_of page _ put = []

-- the places of a page's records in their order: those of its puts that did not fail. The place of a record is the number
-- of those that were put before it.
abbrev pub records_of : Page → List StoreCall → List ℕ
records_of page [] = []
records_of page (call ∷ calls) = records_of page calls ++ more_of page call (count_by is_put calls)

-- the nth of these places, counted from 1
abbrev pub nth : ℕ → List ℕ → Option ℕ
nth zero places = None
nth (suc before) places = slice_get places before

abbrev pub newest : List ℕ → Option ℕ
newest places = nth (length places) places

-- ---- what a plan line says

-- what the first line says that says something
abbrev pub first_of : {T : Type 0} → (PlanLine → Option T) → List PlanLine → Option T
first_of says [] = None
first_of says (line ∷ lines) = option_or (says line) (first_of says lines)

abbrev pub fails_room : ℕ → PlanLine → Bool
fails_room number (FailRoom k) = k == number
fails_room number _ = false

abbrev pub fails_put : ℕ → PlanLine → Bool
fails_put number (FailPut k) = k == number
fails_put number _ = false

abbrev pub fails_get : ℕ → PlanLine → Bool
fails_get number (FailGet k) = k == number
fails_get number _ = false

-- of the get of a page with this number among its gets: whether it finds nothing
abbrev pub drops : Page → ℕ → PlanLine → Bool
drops page number (DropGet g k) = same_page g page && (k == number)
drops page number _ = false

-- .. which bit of the record is inverted
abbrev pub flips : Page → ℕ → PlanLine → Option ℕ
flips page number (Flip g k bit) = if same_page g page && (k == number) then Some bit else None
flips page number _ = None

-- .. which of the page's records it gives
abbrev pub replays : Page → ℕ → PlanLine → Option ℕ
replays page number (Replay g k which) = if same_page g page && (k == number) then Some which else None
replays page number _ = None

-- the page with which a page changes places
abbrev pub swaps : Page → PlanLine → Option Page
swaps page (Swap one other) = if same_page one page then Some other else if same_page other page then Some one else None
swaps page _ = None

-- ---- how a call is answered, by the plan lines and the calls before it

-- a room, a put or a get fails exactly where a line of its kind has its number
abbrev pub room_fails : List PlanLine → List StoreCall → Bool
room_fails plans calls = list_any (fails_room (next_room calls)) plans

abbrev pub put_fails : List PlanLine → List StoreCall → Bool
put_fails plans calls = list_any (fails_put (next_put calls)) plans

abbrev pub get_fails : List PlanLine → List StoreCall → Bool
get_fails plans calls = list_any (fails_get (next_get calls)) plans

-- a get of a page finds nothing where a line drops it
abbrev pub is_dropped : List PlanLine → List StoreCall → Page → Bool
is_dropped plans calls page = list_any (drops page (next_get_of page calls)) plans

-- the place of the record that a line replays, where the page has as many
abbrev pub replayed : List PlanLine → List StoreCall → Page → Option ℕ
replayed plans calls page = option_and_then (λ which. nth which (records_of page calls))
    (first_of (replays page (next_get_of page calls)) plans)

-- the page whose newest record is given: the one that a line swaps it with, and else the page itself
abbrev pub partner_of : List PlanLine → Page → Page
partner_of plans page = unwrap_or (first_of (swaps page) plans) page

-- the place of the record that a get gives: the replayed one, and else the newest
abbrev pub place_given : List PlanLine → List StoreCall → Page → Option ℕ
place_given plans calls page = option_or (replayed plans calls page) (newest (records_of (partner_of plans page) calls))

-- the bit of that record which is inverted
abbrev pub bit_flipped : List PlanLine → List StoreCall → Page → Option ℕ
bit_flipped plans calls page = first_of (flips page (next_get_of page calls)) plans

-- what is given where a record was found, with this bit inverted
abbrev pub given : Option ℕ → Option ℕ → GetAnswer
given bit None = Nothing
given bit (Some put) = Given put bit

-- what a get of a page gives: it fails, or is dropped, or gives a record
abbrev pub get_answer : List PlanLine → List StoreCall → Page → GetAnswer
get_answer plans calls page =
    if get_fails plans calls then Failed
    else if is_dropped plans calls page then Nothing
    else given (bit_flipped plans calls page) (place_given plans calls page)

-- a call was answered so
abbrev pub IsByRule : List PlanLine → StoreCall → List StoreCall → Type 0
IsByRule plans (Room page failed) calls = failed ≡ room_fails plans calls
IsByRule plans (Put page failed) calls = failed ≡ put_fails plans calls
IsByRule plans (Got page answer) calls = answer ≡ get_answer plans calls page

-- .. and each of the calls
abbrev pub AreByRule : List PlanLine → List StoreCall → Type 0
AreByRule plans [] = Unit {0}
AreByRule plans (call ∷ calls) = IsByRule plans call calls × AreByRule plans calls

-- whether the put of the record at a place failed
abbrev pub put_at : ℕ → List StoreCall → Option Bool
put_at place [] = None
put_at place (Room page failed ∷ calls) = put_at place calls
put_at place (Put page failed ∷ calls) = if place == count_by is_put calls then Some failed else put_at place calls
put_at place (Got page answer ∷ calls) = put_at place calls

-- each record that a get gave is one of a put before it that did not fail
abbrev pub GiveGoodPuts : List StoreCall → Type 0
GiveGoodPuts [] = Unit {0}
GiveGoodPuts (Room page failed ∷ calls) = GiveGoodPuts calls
GiveGoodPuts (Put page failed ∷ calls) = GiveGoodPuts calls
GiveGoodPuts (Got page Failed ∷ calls) = GiveGoodPuts calls
GiveGoodPuts (Got page Nothing ∷ calls) = GiveGoodPuts calls
GiveGoodPuts (Got page (Given place bit) ∷ calls) = (put_at place calls ≡ Some false) × GiveGoodPuts calls

-- the store's calls were answered by the rules
abbrev pub IsStore : StoreState → Type 0
IsStore store = AreByRule store.plans store.calls

-- ---- the store after a call

abbrev pub with_plans : List PlanLine → StoreState → StoreState
with_plans lines store = record store { plans = lines }

abbrev pub with_call : StoreCall → StoreState → StoreState
with_call call store = record store { calls = call ∷ store.calls }

abbrev pub after_room : StoreState → Page → StoreState
after_room store page = with_call (Room page (room_fails store.plans store.calls)) store

-- .. the record of a put that failed is told all the same
abbrev pub after_put : StoreState → Page → Sealed → StoreState
after_put store page rec = record store { calls = Put page (put_fails store.plans store.calls) ∷ store.calls; puts = rec ∷ store.puts }

abbrev pub after_get : StoreState → Page → StoreState
after_get store page = with_call (Got page (get_answer store.plans store.calls page)) store
