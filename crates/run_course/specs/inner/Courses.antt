-- How far a run is, and what holds of it between two turns.
use Rattle.std.specs.Prelude.{ℕ, ◌≡◌, ◌+◌, ◌*◌, ◌≤◌, ◌++◌, All, Bool, true, false, if◌then◌else◌, List}
use Rattle.std.specs.Prelude.{Option, count_by, length, reverse, vec_len, vec_capacity}
use Rattle.sgx_types.specs.declared.names.Actor.{Actor}
use Rattle.sgx_types.specs.declared.names.Actor.TheVariants as actors
use Rattle.sgx_rules.specs.declared.entries.Entry.{Entry}
use Rattle.sgx_rules.specs.Rules.{Along}
use Rattle.job_grammar.specs.Jobs.{JobView}
use Rattle.script_rules.specs.Machines.{machine_of}
use Rattle.backing_store.specs.Calls.{Call}
use Rattle.driver_laws.specs.inner.Three.{TcsAreApart}
use Rattle.driver_pass.specs.inner.Standing.{StandsAt}
use Rattle.driver_reclaim.specs.inner.Ready.{HasFirst}
use Rattle.driver_pass.specs.inner.Viewed.{is_amid, is_kicked, is_sealing, still_out}
use Rattle.due_tables.specs.declared.cpu_turns.CpuTurn.{CpuTurn}
use Rattle.due_tables.specs.declared.cpu_turns.Last.{Last}
use Rattle.due_tables.specs.declared.cpu_turns.Last.TheVariants as ways
use Rattle.due_tables.specs.inner.Ending.{EndsAreTold, NoneFails}
use Rattle.due_notes.specs.inner.Arrays.{KeepsKeeper}
use Rattle.run_laws.specs.inner.Books.{KeepsBook}
use Rattle.run_course.specs.declared.course.Course.{Course}
use Rattle.driver_rules.specs.Spent.{SpentRule}

-- the entries so far, the newest first
abbrev pub past_of : Course → List Entry
past_of c = reverse c.entries.items

-- ---- open starts

abbrev pub is_load : Last → Bool
is_load (ways.Loads f page) = true
is_load last = false

-- a processor has started a load
abbrev pub has_open_load : CpuTurn → Bool
has_open_load x = is_load x.last

-- how many starts are open: loads of processors, and a write-out
abbrev pub open_starts : Course → ℕ
open_starts c = count_by has_open_load c.turns.cpus + (if is_sealing c.pass then 1 else 0)

-- ---- between two turns

-- what is so of the entries between two turns: no refused load has still to be told, and epochs and versions were refused only where they
-- were used up
pub record IsClear (j : JobView) (past : List Entry) : Type 0 where
  pub none : NoneFails past
  pub spent : Along (SpentRule j) past

-- of a course over a store that tells these calls, where it does, and has so many places for records
pub record KeepsCourse (c : Course) (told : Option (List Call)) (spare : ℕ) : Type 0 where
  -- no two scripts name one TCS page
  pub tcs : TcsAreApart c.job
  pub book : KeepsBook (machine_of c.job) c.job (past_of c) told c.driver c.machine c.turns
  -- the reclaimer's pass is as far as the entries are, and each of its pages has a place in the store
  pub stands : StandsAt c.job.start_epoch c.job (past_of c) c.pass
  pub whole : is_amid c.pass ≡ false
  pub first : HasFirst (past_of c)
  pub places : still_out c.pass ≤ spare
  -- the keeper of the slots has room for the version array pages that are still to be made
  pub arrays : KeepsKeeper c.job c.driver.slots (past_of c)
  -- who was ended was told why
  pub ends : EndsAreTold (past_of c)
  pub clear : IsClear c.job (past_of c)
  -- each open start has room for the two entries of its end
  pub room : vec_len c.entries + 2 * open_starts c ≤ vec_capacity c.entries

-- nothing has changed, but that there may be more room
pub record IsSame (old new : Course) : Type 0 where
  pub job : new.job ≡ old.job
  pub machine : new.machine ≡ old.machine
  pub driver : new.driver ≡ old.driver
  pub turns : new.turns ≡ old.turns
  pub pass : new.pass ≡ old.pass
  pub entries : new.entries.items ≡ old.entries.items
  pub room : vec_capacity old.entries ≤ vec_capacity new.entries

-- whether the pass is behind its turn of kicks is as before, but behind a turn of the reclaimer
abbrev pub KeepsKicks : Actor → Bool → Bool → Type 0
KeepsKicks actors.Reclaimer before behind = Unit {0}
KeepsKicks actor before behind = behind ≡ before

-- so many entries more, all of this actor
pub record Grows (old : Course) (by : Actor) (n : ℕ) (new : Course) (told : Option (List Call)) (spare : ℕ) : Type 0 where
  pub entries : List Entry
  pub count : length entries ≡ n
  pub actors : All (λ (e : Entry). e.actor ≡ by) entries
  pub past : past_of new ≡ entries ++ past_of old
  pub job : new.job ≡ old.job
  pub kicks : KeepsKicks by (is_kicked old.pass) (is_kicked new.pass)
  pub keeps : KeepsCourse new told spare
