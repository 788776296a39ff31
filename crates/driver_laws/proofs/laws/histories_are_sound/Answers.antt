use Rattle.driver_laws.proofs.HistoryLaws.{driven_pages, driven_sound}
use Rattle.driver_laws.proofs.ReadyLaws.{driven_used}
use Rattle.driver_laws.proofs.BuiltLaws.{driven_built}
use Rattle.driver_laws.proofs.LoadLaws.{driven_theirs}
use Rattle.driver_laws.proofs.TcsLaws.{driven_apart}
use Rattle.driver_laws.proofs.laws.histories_are_sound.Goals as goal

pub returns : goal.returns
returns c = record {
  sound = λ k j past positive d. (driven_sound k j past positive d).0;
  tracks = λ k j past positive d. (driven_sound k j past positive d).1;
  pages = driven_pages;
  used = driven_used;
  loads = driven_theirs;
  built = driven_built;
  three = driven_apart;
}
