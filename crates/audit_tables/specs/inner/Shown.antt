-- What an auditor keeps of a trace whose entries kept each rule so far.
use Rattle.std.specs.Prelude.{◌≡◌, List, length}
use Rattle.sgx_rules.specs.declared.entries.Entry.{Entry}
use Rattle.seal_record.specs.inner.Sealing.{made_by}
use Rattle.job_grammar.specs.Jobs.{JobView}
use Rattle.script_rules.specs.Machines.{machine_of}
use Rattle.machine_laws.specs.inner.Histories.{StandsWithAllRules}
use Rattle.sgx_machine.specs.inner.Parts.{Parts, state_of}
use Rattle.driver_laws.specs.inner.Agrees.{auditors}
use Rattle.driver_laws.specs.inner.Three.{TcsAreApart}
use Rattle.driver_tables.specs.declared.driver.Driver.{Driver}
use Rattle.driver_tables.specs.inner.Tables.{ShowsTables}
use Rattle.history_rules.specs.inner.Histories.{GoesOn}
use Rattle.due_tables.specs.declared.turns.Turns.{Turns}
use Rattle.due_tables.specs.inner.Due.{IsOrderly}
use Rattle.due_tables.specs.inner.Ending.{EndsAreTold}
use Rattle.due_tables.specs.inner.Holding.{KeepsHolds}
use Rattle.due_tables.specs.inner.Shown.{ShowsTurns}

pub record ShowsTrace (j : JobView) (past : List Entry) (d : Driver) (m : Parts) (t : Turns) : Type 0 where
  -- no two scripts name one TCS page
  pub tcs : TcsAreApart j
  -- the trace is a history that goes on, and the machine stands in all for it, with the records of its write-outs
  pub goes_on : GoesOn j past
  pub stands : StandsWithAllRules (machine_of j) (state_of m) past (made_by j.key past)
  pub cpus : length m.cpus ≡ d.cpus
  -- the driver's tables have what the entries say, with all slots
  pub shows : ShowsTables auditors j d past
  pub holds : KeepsHolds j d.active.own past
  -- so have the tables of what is due
  pub turns : ShowsTurns j past t
  pub orderly : IsOrderly j past
  pub ends : EndsAreTold past
