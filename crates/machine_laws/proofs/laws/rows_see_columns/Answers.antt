use Rattle.machine_laws.proofs.RowLaws.{columns_agree}
use Rattle.machine_laws.proofs.laws.rows_see_columns.Goals as goal

pub returns : goal.returns
returns c = columns_agree
