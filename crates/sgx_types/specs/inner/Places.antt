-- When two places of slots are the same.
use Rattle.std.specs.Prelude.{◌==◌, ◌&&◌, Bool}
use Rattle.sgx_types.specs.declared.names.SlotAt.{SlotAt}

-- the same index in the same frame
abbrev pub same_place : SlotAt → SlotAt → Bool
same_place a b = (a.frame.0 == b.frame.0) && (a.index == b.index)
