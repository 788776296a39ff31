-- That a line has none of the faults.
use Rattle.std.specs.Prelude.{◌≡◌, true}
use Rattle.std.specs.Prelude.{false}
use Rattle.job_lines.specs.declared.statements.Statement.{Statement}
use Rattle.job_text.specs.Drafts.{Draft}
use Rattle.job_text.specs.Faults.{is_out_of_order, is_twice, is_in_range, is_too_many, is_missing, is_shared}

-- none of them
pub record HasNoFault (d : Draft) (s : Statement) : Type 0 where
  pub order : is_out_of_order d s ≡ false
  pub once : is_twice d s ≡ false
  pub range : is_in_range d s ≡ true
  pub few : is_too_many d s ≡ false
  pub stands : is_missing d s ≡ false
  pub own : is_shared d s ≡ false
