use Rattle.driver_laws.proofs.EpochLaws.{try_tells}
use Rattle.driver_laws.proofs.OwnLaws.{script_own}
use Rattle.driver_laws.proofs.PassLaws.{first_refusal, tracks_stay}
use Rattle.driver_laws.proofs.laws.passes_keep_tracks.Goals as goal

pub returns : goal.returns
returns c = record { more = tracks_stay; first = first_refusal; own = script_own; told = try_tells }
