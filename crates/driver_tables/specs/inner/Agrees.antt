-- When the driver and the machine agree on one list of entries.
use Rattle.std.specs.Prelude.{◌≡◌, false, List, length}
use Rattle.sgx_rules.specs.declared.entries.Entry.{Entry}
use Rattle.sgx_types.specs.Making.{Making}
use Rattle.sgx_rules.specs.inner.Arrays.{came_back}
use Rattle.job_grammar.specs.Jobs.{JobView}
use Rattle.machine_laws.specs.inner.Shape.{FitsApart, ShapeWithRules}
use Rattle.sgx_machine.specs.inner.Parts.{Parts, state_of}
use Rattle.driver_rules.specs.Passes.{pass}
use Rattle.driver_laws.specs.inner.Agrees.{drivers}
use Rattle.driver_laws.specs.inner.Counted.{AddsAreBuilt, CountsSlots}
use Rattle.driver_laws.specs.inner.Fixed.{SlotsAreTheirs}
use Rattle.driver_laws.specs.inner.Inits.{InitsAreReady}
use Rattle.driver_laws.specs.inner.Loads.{LoadsAreTheirs}
use Rattle.driver_laws.specs.inner.Sound.{IsSound}
use Rattle.driver_laws.specs.inner.Stages.{KeepsPages}
use Rattle.driver_laws.specs.inner.Tracks.{KeepsTracks}
use Rattle.driver_laws.specs.inner.Used.{SlotsAreUsed, VersionsStand}
use Rattle.driver_tables.specs.declared.driver.Driver.{Driver}
use Rattle.driver_tables.specs.inner.Tables.{ShowsTables}

pub record Agrees (made : Making) (j : JobView) (past : List Entry) (d : Driver) (m : Parts) : Type 0 where
  -- the machine has the shape of the entries, and they keep the rules that no page's bytes decide
  pub follows : ShapeWithRules made (state_of m) past
  pub fits : FitsApart made.frames past
  -- frames, places, list and slots fit each other, and the first version array page never came back
  pub sound : IsSound past
  pub home : came_back past 0 ≡ false
  -- slots hold the versions of the pages outside, each in a slot that its page may have, and as many are out as pages have one
  pub used : SlotsAreUsed past
  pub stand : VersionsStand past
  pub fixed : SlotsAreTheirs j past
  pub counted : CountsSlots d.slots past
  pub built : AddsAreBuilt j past
  -- enclaves that were initialised were created before
  pub inits : InitsAreReady past
  -- each started load is one processor's
  pub theirs : LoadsAreTheirs past
  -- what the reclaimer's pass keeps of tracks and of its pages
  pub tracks : KeepsTracks past (pass j past)
  pub pages : KeepsPages past (pass j past)
  -- the tables have all that as it is
  pub shows : ShowsTables (drivers j) j d past
  pub frames : made.frames ≡ j.epc
  pub cpus : length m.cpus ≡ d.cpus
