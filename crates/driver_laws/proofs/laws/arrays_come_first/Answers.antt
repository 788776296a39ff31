use Rattle.driver_laws.proofs.ArrayLaws.{arrays_first, first_arrays, stays_arrays}
use Rattle.driver_laws.proofs.laws.arrays_come_first.Goals as goal

pub returns : goal.returns
returns c = record { first = first_arrays; more = stays_arrays; order = arrays_first }
