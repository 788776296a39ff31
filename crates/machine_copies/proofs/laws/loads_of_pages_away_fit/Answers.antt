use Rattle.machine_copies.proofs.RefusalFits.{apart_by_rows, fits_by_rows}
use Rattle.machine_copies.proofs.laws.loads_of_pages_away_fit.Goals as goal

pub returns : goal.returns
returns c = record { fits = fits_by_rows; apart = apart_by_rows }
