-- What the planned store tells: its calls, each with its record.
use Rattle.std.specs.Prelude.{ℕ, ◌==◌, if◌then◌else◌, List, [], ◌∷◌, length, Option, Some, None, Result, Ok, Err}
use Rattle.sgx_types.specs.declared.names.Page.{Page}
use Rattle.sgx_types.specs.Sealed.{Sealed}
use Rattle.io_edges.specs.declared.faults.Failed.{Failed as Fault}
use Rattle.backing_store.specs.declared.backing.StoreFault.{StoreFault}
use Rattle.backing_store.specs.declared.backing.StoreFault.TheVariants as faults
use Rattle.backing_store.specs.declared.calls.StoreCall.{StoreCall}
use Rattle.backing_store.specs.declared.calls.StoreCall.TheVariants.{Room, Put, Got}
use Rattle.backing_store.specs.declared.calls.GetAnswer.{GetAnswer}
use Rattle.backing_store.specs.declared.calls.GetAnswer.TheVariants.{Failed, Nothing, Given}
use Rattle.backing_store.specs.Calls.{Call, Gift}
use Rattle.backing_store.specs.Calls as told
use Rattle.backing_store.specs.inner.Flips.{flipped}
use Rattle.backing_store.specs.inner.Store.{StoreState, room_fails, put_fails, get_answer}

-- of records, the newest first, the one at a place: the number of those that were put before it
abbrev pub record_at : ℕ → List Sealed → Option Sealed
record_at place [] = None
record_at place (rec ∷ before) = if place == length before then Some rec else record_at place before

-- a copy of a record, with a bit inverted or as it is
abbrev pub copy_of : Option ℕ → Option Sealed → Gift
copy_of bit None = told.Nothing
copy_of bit (Some rec) = told.Given (flipped bit rec)

-- what a get gave, where these records were put before
abbrev pub gift_of : GetAnswer → List Sealed → Gift
gift_of Failed puts = told.Failed
gift_of Nothing puts = told.Nothing
gift_of (Given place bit) puts = copy_of bit (record_at place puts)

-- the calls with their records; each put has one
abbrev pub told_of : List StoreCall → List Sealed → List Call
told_of [] puts = []
told_of (Room page failed ∷ calls) puts = told.Room page failed ∷ told_of calls puts
told_of (Put page failed ∷ calls) [] = told_of calls []
told_of (Put page failed ∷ calls) (rec ∷ puts) = told.Put page rec failed ∷ told_of calls puts
told_of (Got page answer ∷ calls) puts = told.Got page (gift_of answer puts) ∷ told_of calls puts

-- ---- the answers

-- a room that was not refused memory
abbrev pub room_answer : StoreState → Result (Unit {0}) StoreFault
room_answer store = if room_fails store.plans store.calls then Err faults.Failed else Ok tt

abbrev pub put_answer : StoreState → Result (Unit {0}) Fault
put_answer store = if put_fails store.plans store.calls then Err (record {}) else Ok tt

-- .. what a get answers of what it gave
abbrev pub answer_of : Gift → Result (Option Sealed) StoreFault
answer_of told.Failed = Err faults.Failed
answer_of told.Nothing = Ok None
answer_of (told.Given rec) = Ok (Some rec)

abbrev pub get_answer_of : StoreState → Page → Result (Option Sealed) StoreFault
get_answer_of store page = answer_of (gift_of (get_answer store.plans store.calls page) store.puts)

-- what holds of a call that was made: one for which memory was refused counts as not made
abbrev pub WhereMade : {T : Type 0} → Result T StoreFault → Type 0 → Type 0
WhereMade (Ok done) P = P
WhereMade (Err faults.Failed) P = P
WhereMade (Err faults.Memory) P = Unit {0}
