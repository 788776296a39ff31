use Rattle.driver_laws.proofs.StageLaws.{first_pages, pages_kept}
use Rattle.driver_laws.proofs.laws.pages_stay.Goals as goal

pub returns : goal.returns
returns c = record { first = first_pages; more = pages_kept }
