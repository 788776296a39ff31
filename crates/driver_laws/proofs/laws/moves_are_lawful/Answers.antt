use Rattle.driver_laws.proofs.RowLaws.{array_within, free_slot, load_filled, load_goes, secs_settled, start_goes, try_goes}
use Rattle.driver_laws.proofs.laws.moves_are_lawful.Goals as goal

pub returns : goal.returns
returns c = record {
  load = load_goes;
  filled = load_filled;
  secs = secs_settled;
  out = try_goes;
  empty = free_slot;
  beside = start_goes;
  array = array_within;
}
