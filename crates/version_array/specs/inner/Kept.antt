-- What a table of version array pages is kept as.
use Rattle.std.specs.Prelude.{◌≡◌, ◌+◌, ◌<◌, ◌≤◌, ℕ, List, [], Option, Some, None, length, vec_capacity}
use Rattle.std.specs.List.{All}
use Rattle.std.specs.Global.{Vec}
use Rattle.sgx_types.specs.declared.names.TheConstants.{MOST_FRAMES}
use Rattle.version_array.specs.declared.va_page.SlotState.{SlotState}
use Rattle.version_array.specs.declared.va_table.VaTable.TheInside.{Inside}
use Rattle.version_array.specs.inner.Slots.{IsVaTable, VaArrays, pages_made}

-- the pages, of which there are none before the first is made
abbrev pub pages_of : Option (Vec (Option (List SlotState))) → List (Option (List SlotState))
pages_of None = []
pages_of (Some pages) = pages.items

-- the pages whose room is kept while they are out
abbrev pub spare_of : Option (Vec (List SlotState)) → List (List SlotState)
spare_of None = []
spare_of (Some spare) = spare.items

-- for how many there is room
abbrev pub room_of : Option (Vec (List SlotState)) → ℕ
room_of None = 0
room_of (Some spare) = vec_capacity spare

abbrev pub arrays_of : Inside → VaArrays
arrays_of t = record { pages = pages_of t.pages; made = t.made }

-- each page has its slots, each that was made is in a frame or spare, and there is room for all of them among the spare ones; from the
-- first one on each frame has its place
pub record AreArraysKept (pages : List (Option (List SlotState))) (spare : List (List SlotState)) (made capacity : ℕ) : Type 0 where
  pub sized : IsVaTable pages
  pub spared : All (λ page. length page ≡ 512) spare
  pub counted : pages_made pages + length spare ≡ made
  pub room : made ≤ capacity
  pub short : length pages ≤ MOST_FRAMES
  pub places : 0 < made → length pages ≡ MOST_FRAMES

abbrev pub IsCounted : Inside → Type 0
IsCounted t = AreArraysKept (pages_of t.pages) (spare_of t.spare) t.made (room_of t.spare)
