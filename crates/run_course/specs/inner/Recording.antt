-- What is asked of an entry that is taken in, and what stands behind it.
use Rattle.std.specs.Prelude.{◌≡◌, ◌+◌, ◌≤◌, false, List, ◌∷◌, Option, vec_len, vec_capacity}
use Rattle.sgx_rules.specs.declared.entries.Entry.{Entry}
use Rattle.script_rules.specs.Machines.{machine_of}
use Rattle.backing_store.specs.Calls.{Call}
use Rattle.cached_translations.specs.declared.processor.Mode.{Mode}
use Rattle.sgx_machine.specs.inner.Parts.{Parts}
use Rattle.driver_rules.specs.Passes.{pass, pass_after}
use Rattle.driver_laws.specs.inner.Three.{TcsAreApart}
use Rattle.driver_tables.specs.declared.driver.Driver.{Driver}
use Rattle.driver_pass.specs.inner.Standing.{StandsAt, StandsFor}
use Rattle.driver_pass.specs.inner.Viewed.{is_amid}
use Rattle.due_tables.specs.inner.Holding.{mode_of}
use Rattle.run_laws.specs.inner.Books.{IsMade, KeepsBook}
use Rattle.run_course.specs.declared.course.Course.{Course}
use Rattle.run_course.specs.inner.Courses.{past_of}

-- machine, driver and store have made the entry; the tables of what is due, the holds and the entries stand before it still
pub record CanRecord (c : Course) (before : Mode) (e : Entry) : Type 0 where
  pub told : Option (List Call)
  pub longer : Option (List Call)
  -- the tables and the machine before it
  pub d : Driver
  pub m : Parts
  pub tcs : TcsAreApart c.job
  pub book : KeepsBook (machine_of c.job) c.job (past_of c) told d m c.turns
  pub made : IsMade (machine_of c.job) c.job (past_of c) told d m e longer c.driver c.machine
  pub stood : before ≡ mode_of m e.actor
  pub place : vec_len c.entries + 1 ≤ vec_capacity c.entries

-- .. and the pass, before it is decided whether it works
pub record CanTake (c : Course) (before : Mode) (e : Entry) : Type 0 where
  pub can : CanRecord c before e
  pub stands : StandsFor c.job.start_epoch (e ∷ past_of c) c.pass (pass_after c.job (past_of c) e.actor e.event (pass c.job (past_of c)))
  pub whole : is_amid c.pass ≡ false

-- behind it all stand for the longer list
abbrev pub IsRecorded : Course → Entry → Option (List Call) → Course → Type 0
IsRecorded old e longer new = KeepsBook (machine_of old.job) old.job (e ∷ past_of old) longer new.driver new.machine new.turns

abbrev pub IsTaken : Course → Entry → Course → Type 0
IsTaken old e new = StandsAt old.job.start_epoch old.job (e ∷ past_of old) new.pass × (is_amid new.pass ≡ false)
