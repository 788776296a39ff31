-- The holds behind an entry can be kept in the tables as they stand behind it.
use Rattle.std.specs.Prelude.{◌≡◌, List}
use Rattle.sgx_rules.specs.declared.entries.Entry.{Entry}
use Rattle.cached_translations.specs.declared.processor.Mode.{Mode}
use Rattle.job_grammar.specs.Jobs.{JobView}
use Rattle.driver_tables.specs.declared.driver.Driver.{Driver}
use Rattle.due_tables.specs.declared.turns.Turns.{Turns}
use Rattle.due_tables.specs.inner.Holding.{CanHold}

-- .. for these entries before it
pub record CanHoldBehind (j : JobView) (past : List Entry) (d : Driver) (before : Mode) (t : Turns) (e : Entry) : Type 0 where
  pub can : CanHold j d.states d.active before t e
  pub same : can.past ≡ past
