-- When a driver's tables and a machine stand for the same entries, by either way to keep slots: a driver's, or an auditor's.
use Rattle.std.specs.Prelude.{◌≡◌, ◌≤◌, List, length}
use Rattle.sgx_rules.specs.declared.entries.Entry.{Entry}
use Rattle.sgx_types.specs.Making.{Making}
use Rattle.job_grammar.specs.Jobs.{JobView}
use Rattle.machine_laws.specs.inner.Shape.{FitsApart, ShapeWithRules}
use Rattle.sgx_machine.specs.inner.Parts.{Parts, state_of}
use Rattle.driver_rules.specs.Passes.{pass}
use Rattle.driver_laws.specs.inner.Agrees.{Keeping}
use Rattle.driver_laws.specs.inner.Counted.{AddsAreBuilt}
use Rattle.driver_laws.specs.inner.Inits.{InitsAreReady}
use Rattle.driver_laws.specs.inner.Loads.{LoadsAreTheirs}
use Rattle.driver_laws.specs.inner.Sound.{IsSound}
use Rattle.driver_laws.specs.inner.Stages.{KeepsPages}
use Rattle.driver_laws.specs.inner.Tracks.{KeepsTracks}
use Rattle.driver_laws.specs.inner.Used.{SlotsAreUsed, VersionsStand}
use Rattle.driver_tables.specs.declared.driver.Driver.{Driver}
use Rattle.driver_tables.specs.inner.Tables.{ShowsTables}

pub record Tells (k : Keeping) (made : Making) (j : JobView) (past : List Entry) (d : Driver) (m : Parts) : Type 0 where
  -- the machine has the shape of the entries, and they keep the rules that no page's bytes decide
  pub follows : ShapeWithRules made (state_of m) past
  pub fits : FitsApart made.frames past
  -- frames, places, list and slots fit each other, and slots hold the versions of the pages outside
  pub sound : IsSound past
  pub used : SlotsAreUsed past
  pub stand : VersionsStand past
  pub built : AddsAreBuilt j past
  -- enclaves that were initialised were created before
  pub inits : InitsAreReady past
  -- each started load is one processor's
  pub theirs : LoadsAreTheirs past
  -- what the reclaimer's pass keeps of tracks and of its pages
  pub tracks : KeepsTracks past (pass j past)
  pub pages : KeepsPages past (pass j past)
  -- the tables have all that as it is
  pub shows : ShowsTables k j d past
  pub frames : made.frames ≡ j.epc
  pub cpus : length m.cpus ≡ d.cpus
  -- a pass looks at no more pages than there is room for
  pub short : j.marks.scan ≤ 64
