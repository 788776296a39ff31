-- The driver's tables and holds say what the entries say.
use Rattle.std.specs.Prelude.{◌≡◌, List}
use Rattle.sgx_rules.specs.declared.entries.Entry.{Entry}
use Rattle.sgx_types.specs.declared.names.Page.{Page}
use Rattle.job_grammar.specs.Jobs.{JobView}
use Rattle.driver_list.specs.inner.Holds.{is_held as is_held_by}
use Rattle.driver_laws.specs.inner.Agrees.{drivers}
use Rattle.driver_rules.specs.Holds.{is_held}
use Rattle.driver_tables.specs.inner.Tables.{ShowsTables}
use Rattle.driver_tables.specs.declared.driver.Driver.{Driver}

pub record Shows (j : JobView) (d : Driver) (past : List Entry) : Type 0 where
  pub tables : ShowsTables (drivers j) j d past
  pub held : (g : Page) → is_held_by d.active.own g ≡ is_held j past g
