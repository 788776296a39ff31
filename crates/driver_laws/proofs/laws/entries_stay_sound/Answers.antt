use Rattle.driver_laws.proofs.SoundLaws.{first_sound, stays_sound}
use Rattle.driver_laws.proofs.laws.entries_stay_sound.Goals as goal

pub returns : goal.returns
returns c = record { first = first_sound; more = stays_sound }
