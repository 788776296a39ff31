use Rattle.driver_faults.proofs.OwnRecords.{own_record}
use Rattle.driver_faults.proofs.laws.own_records_come_back.Goals as goal

pub returns : goal.returns
returns c s t a f rec e is headed tagged = own_record s t a f rec e is headed tagged
