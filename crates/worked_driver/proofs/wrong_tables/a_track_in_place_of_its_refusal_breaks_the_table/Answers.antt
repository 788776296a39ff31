use Rattle.std.proofs.Common.{refl}
use lib.Count.{ones}
use Rattle.sgx_types.specs.Counts.{any_below, count_below, least_below}
use Rattle.worked_driver.proofs.wrong_tables.a_track_in_place_of_its_refusal_breaks_the_table.Goals as goal

pub returns : goal.returns
unfolding any_below count_below least_below ones
returns c = record { older = refl; kicked = refl; spent = refl; other = refl }
