-- What is kept in rooms for records.
use Rattle.std.specs.Prelude.{List, Option, None, Some, map}
use Rattle.sgx_types.specs.declared.names.Page.{Page}
use Rattle.sgx_types.specs.Sealed.{Sealed}
use Rattle.driver_list.specs.declared.kept_records.KeptRecords.TheInside.{Inside}
use Rattle.driver_list.specs.declared.kept_records.Room.{Room}
use Rattle.driver_list.specs.inner.Keeping.{Kept}

-- a record is kept where there is a page
abbrev pub kept_of : Option Page → Sealed → Option Kept
kept_of None sealed = None
kept_of (Some page) sealed = Some (record { page = page; sealed = sealed })

-- what is kept in a room
abbrev pub kept_by : Room → Option Kept
kept_by room = kept_of room.page room.record

-- what is kept in each room, by processor
abbrev pub kept_in : Inside → List (Option Kept)
kept_in k = map kept_by k.rooms.items
