use Rattle.std.proofs.Common.{Some}
use Rattle.std.proofs.lemmas.List.{map-set}
use Rattle.driver_list.specs.inner.Rooms.{kept_by}
use Rattle.driver_list.proofs.kept_records.KeptRecords.keep.Goals as goal

pub returns : goal.returns
returns c =
    rw (← c.self.view_is, ← c.from.ensures, c.copy_record.ensures)
    (map-set kept_by c.self.inside.rooms.items c.from.result (record { page = Some c.args.page; «record» = c.args.rec.now }))
