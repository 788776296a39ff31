use Rattle.std.proofs.Common.{refl}
use lib.Count.{ones}
use Rattle.sgx_types.specs.Counts.{any_below, count_below, least_below}
use Rattle.worked_driver.proofs.wrong_tables.a_start_in_place_of_its_refusal_breaks_the_table.Goals as goal

pub returns : goal.returns
unfolding any_below count_below least_below ones
returns c = record { first = refl; no_track = refl; no_kick = refl; one_kick = refl; twice = refl }
