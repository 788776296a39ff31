use Rattle.driver_laws.proofs.TcsLaws.{apart_first, apart_stay}
use Rattle.driver_laws.proofs.ThreeLaws.{three_most}
use Rattle.driver_laws.proofs.laws.three_holds_suffice.Goals as goal

pub returns : goal.returns
returns c = record { first = apart_first; more = apart_stay; most = three_most }
