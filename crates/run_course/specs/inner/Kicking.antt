-- The turn of kicks.
use Rattle.std.specs.Prelude.{ℕ, ◌≡◌, ◌+◌, ◌≤◌, false, List, Option, vec_len, vec_capacity}
use Rattle.sgx_rules.specs.declared.entries.Event.TheVariants.{Kick}
use Rattle.backing_store.specs.Calls.{Call}
use Rattle.script_rules.specs.Machines.{machine_of}
use Rattle.driver_rules.specs.Dues.{KicksAll}
use Rattle.driver_rules.specs.Spares.{outs_kept}
use Rattle.driver_rules.specs.inner.Reclaims.{going_due}
use Rattle.driver_rules.specs.Stops.{is_spent}
use Rattle.driver_laws.specs.inner.Three.{TcsAreApart}
use Rattle.driver_tables.specs.inner.Asked.{IsNextOf}
use Rattle.driver_reclaim.specs.inner.After.{cpu_of, kicked_past}
use Rattle.driver_reclaim.specs.inner.Answers.{bits_of, by_reclaimer}
use Rattle.driver_pass.specs.inner.Standing.{StandsAt}
use Rattle.driver_pass.specs.inner.Viewed.{is_amid, PassView}
use Rattle.run_laws.specs.inner.Books.{KeepsBook, with_own}
use Rattle.run_laws.specs.inner.Loads.{GoesOnWith}
use Rattle.run_course.specs.declared.course.Course.{Course}
use Rattle.run_course.specs.inner.Courses.{past_of}

-- these bits are those of the processors that are due to be kicked, one after another
pub record CanKick (c : Course) (bits : ℕ) : Type 0 where
  pub told : Option (List Call)
  pub tcs : TcsAreApart c.job
  pub book : KeepsBook (machine_of c.job) c.job (past_of c) told c.driver c.machine c.turns
  -- how far the pass was before this turn
  pub before : PassView
  pub stands : StandsAt c.job.start_epoch c.job (past_of c) before
  pub whole : is_amid before ≡ false
  pub going : is_spent (past_of c) ≡ false
  pub cpus : List ℕ
  pub due : going_due c.job (past_of c) (outs_kept c.job (past_of c)) false ≡ KicksAll cpus
  pub same : bits ≡ bits_of cpus
  pub place : vec_len c.entries + 16 ≤ vec_capacity c.entries

-- all of them are kicked, and nobody else
abbrev pub IsKicked : Course → List ℕ → Option (List Call) → Course → Type 0
IsKicked old cpus told new = KeepsBook (machine_of old.job) old.job (kicked_past cpus (past_of old)) told new.driver new.machine new.turns

-- ---- one kick after another

-- the next kick, which its rule gives
pub record CanKickOne (c : Course) (p : ℕ) : Type 0 where
  pub told : Option (List Call)
  pub tcs : TcsAreApart c.job
  pub book : KeepsBook (machine_of c.job) c.job (past_of c) told c.driver c.machine c.turns
  pub next : GoesOnWith (machine_of c.job) (past_of c) (by_reclaimer (Kick (cpu_of p))) c.machine
      → IsNextOf (machine_of c.job) c.job (past_of c) c.driver c.machine (by_reclaimer (Kick (cpu_of p))) c.driver c.machine
  pub place : vec_len c.entries + 1 ≤ vec_capacity c.entries

-- behind some kicks: the holds of the tables, the tables of what is due and the entries alone have changed
pub record HasKicked (old : Course) (cpus : List ℕ) (told : Option (List Call)) (new : Course) : Type 0 where
  pub book : IsKicked old cpus told new
  pub past : past_of new ≡ kicked_past cpus (past_of old)
  pub room : vec_capacity new.entries ≡ vec_capacity old.entries
  pub driver : new.driver ≡ with_own old.driver new.driver.active.own
  pub others : new ≡ record old { driver = new.driver; turns = new.turns; entries = new.entries }
