use Rattle.machine_copies.proofs.CopyLaws.{version_above, version_apart}
use Rattle.machine_copies.proofs.laws.versions_stand_in_one_slot.Goals as goal

pub returns : goal.returns
returns c = record { above = version_above; apart = version_apart }
