-- The slots of a page as numbers, and room in a text.
use Rattle.std.specs.Prelude.{ℕ, ◌+◌, ◌≤◌, List, Option, map, vec_capacity, vec_len}
use Rattle.std.specs.List.{range_with_len}
use Rattle.std.specs.Global.{Vec}
use Rattle.sgx_types.specs.declared.names.SlotAt.{SlotAt}
use Rattle.version_array.specs.declared.va_page.SlotState.{SlotState}
use Rattle.version_array.specs.inner.Slots.{version_in}

-- the slot of an index in a frame
abbrev pub place : ℕ → ℕ → SlotAt
place n index = record { frame = record { 0 = n }; index = index }

-- the versions in so many slots of the version array page in a frame
abbrev pub first_slots : List (Option (List SlotState)) → ℕ → ℕ → List ℕ
first_slots pages n count = map (λ index. version_in pages (place n index)) (range_with_len 0 count)

-- .. in all
abbrev pub slots_at : List (Option (List SlotState)) → ℕ → List ℕ
slots_at pages n = first_slots pages n 512

-- there is room for so many bytes more
abbrev pub HasRoom : ℕ → Vec ℕ → Type 0
HasRoom count onto = vec_len onto + count ≤ vec_capacity onto
