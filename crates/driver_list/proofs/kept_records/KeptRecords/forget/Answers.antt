use Rattle.std.proofs.Common.{None}
use Rattle.std.proofs.lemmas.List.{map-set}
use Rattle.driver_list.specs.inner.Rooms.{kept_by}
use Rattle.driver_list.proofs.kept_records.KeptRecords.forget.Goals as goal

pub returns : goal.returns
returns c =
    rw (← c.self.view_is, ← c.from.ensures)
    (map-set kept_by c.self.inside.rooms.items c.from.result (record { page = None; «record» = c.index_mut.result.now.record }))
