-- What is done with what a turn of the reclaimer made.
use Rattle.std.specs.Prelude.{ℕ, ◌≡◌, zero, ◌+◌, ◌*◌, ◌≤◌, Bool, true, false, if◌then◌else◌, List, ◌∷◌}
use Rattle.std.specs.Prelude.{Option, count_by, is_some, length, vec_len, vec_capacity}
use Rattle.sgx_types.specs.declared.names.Actor.TheVariants as actors
use Rattle.sgx_rules.specs.declared.entries.Entry.{Entry}
use Rattle.backing_store.specs.Calls.{Call}
use Rattle.cached_translations.specs.declared.processor.Mode.TheVariants.{Outside}
use Rattle.driver_rules.specs.Dues.{KicksAll}
use Rattle.driver_rules.specs.Spares.{outs_kept}
use Rattle.driver_rules.specs.inner.Reclaims.{going_due}
use Rattle.driver_reclaim.specs.inner.After.{kicked_past}
use Rattle.driver_reclaim.specs.inner.Ready.{HasFirst}
use Rattle.driver_pass.specs.inner.Standing.{StandsAt}
use Rattle.driver_pass.specs.inner.Viewed.{is_amid, is_kicked, is_sealing, still_out}
use Rattle.driver_reclaim.specs.declared.turns.PassTurn.{PassTurn}
use Rattle.driver_reclaim.specs.declared.turns.PassTurn.TheVariants as passed
use Rattle.due_tables.specs.declared.dues.BuilderDue.{BuilderDue}
use Rattle.due_tables.specs.declared.dues.BuilderDue.TheVariants as builders
use Rattle.due_tables.specs.declared.dues.CpuDue.{CpuDue}
use Rattle.due_tables.specs.declared.dues.CpuDue.TheVariants as dues
use Rattle.due_tables.specs.inner.Ending.{EndsAreTold}
use Rattle.due_tables.specs.inner.Noting.{with_kick}
use Rattle.due_notes.specs.inner.Arrays.{KeepsKeeper}
use Rattle.run_course.specs.declared.course.Course.{Course}
use Rattle.run_course.specs.declared.turn.Turn.{Turn}
use Rattle.run_course.specs.declared.turn.Turn.TheVariants as turns
use Rattle.run_course.specs.inner.Courses.{Grows, IsClear, has_open_load, past_of}
use Rattle.run_course.specs.inner.Kicking.{CanKick}
use Rattle.run_course.specs.inner.Recording.{CanTake}
use Rattle.run_course.specs.inner.Turns.{SealsFor}

-- ---- one entry of the reclaimer

-- it can be taken in, over a store that tells these calls behind it and has so many places, and all that a course keeps is so behind it
pub record IsOwnEntry (c : Course) (e : Entry) (longer : Option (List Call)) (spare : ℕ) : Type 0 where
  pub take : CanTake c Outside e
  pub same : take.can.longer ≡ longer
  pub actor : e.actor ≡ actors.Reclaimer
  pub first : HasFirst (e ∷ past_of c)
  pub places : still_out c.pass ≤ spare
  pub arrays : KeepsKeeper c.job c.driver.slots (e ∷ past_of c)
  pub ends : EndsAreTold (e ∷ past_of c)
  pub clear : IsClear c.job (e ∷ past_of c)
  -- the entry, and the ends of the starts that are open behind it
  pub room : vec_len c.entries + 1 + 2
      * (count_by has_open_load (with_kick e.event c.turns.cpus) + (if is_sealing c.pass then 1 else 0)) ≤ vec_capacity c.entries

pub record CanTakeOwn (c : Course) (e : Entry) : Type 0 where
  pub longer : Option (List Call)
  pub spare : ℕ
  pub is : IsOwnEntry c e longer spare

-- ---- kicks

pub record IsOwnKicks (c : Course) (bits : ℕ) (longer : Option (List Call)) (spare : ℕ) : Type 0 where
  pub kick : CanKick c bits
  pub same : kick.told ≡ longer
  pub stands : StandsAt c.job.start_epoch c.job (kicked_past kick.cpus (past_of c)) c.pass
  pub whole : is_amid c.pass ≡ false
  pub first : HasFirst (past_of c)
  pub places : still_out c.pass ≤ spare
  pub arrays : KeepsKeeper c.job c.driver.slots (past_of c)
  pub ends : EndsAreTold (past_of c)
  pub clear : IsClear c.job (past_of c)
  pub room : vec_len c.entries + 64 ≤ vec_capacity c.entries

-- ---- what a turn made

-- by its kind. A write-out has started only where there is room for its work
abbrev pub FollowsBy : Course → PassTurn → Option (List Call) → ℕ → Type 0
FollowsBy c (passed.One e) longer spare = IsOwnEntry c e longer spare
FollowsBy c (passed.Spent e) longer spare = IsOwnEntry c e longer spare
FollowsBy c (passed.Seal e) longer spare = IsOwnEntry c e longer spare × ((is_sealing c.pass ≡ true) × (is_some c.room ≡ true))
FollowsBy c (passed.Kicks bits) longer spare = IsOwnKicks c bits longer spare
FollowsBy c (passed.Again why) longer spare = Unit {0}

pub record CanFollow (c : Course) (turn : PassTurn) : Type 0 where
  pub longer : Option (List Call)
  pub spare : ℕ
  pub by : FollowsBy c turn longer spare

-- one entry more of the reclaimer
abbrev pub HasOne : Entry → Course → Turn → Course → Option (List Call) → ℕ → Type 0
HasOne e old (turns.Did n) new told spare =
    (n ≡ 1) × (past_of new ≡ e ∷ past_of old) × (is_kicked new.pass ≡ is_kicked old.pass)
    × Grows old actors.Reclaimer 1 new told spare
HasOne e old _ new told spare = ⊥

-- one for each processor that was due to be kicked
abbrev pub HasKicks : Course → Turn → Course → Option (List Call) → ℕ → Type 0
HasKicks old (turns.Did n) new told spare =
    ((cpus : List ℕ) → going_due old.job (past_of old) (outs_kept old.job (past_of old)) false ≡ KicksAll cpus
    → (n ≡ length cpus) × (past_of new ≡ kicked_past cpus (past_of old)))
    × (is_kicked new.pass ≡ is_kicked old.pass) × Grows old actors.Reclaimer n new told spare
HasKicks old _ new told spare = ⊥

-- one entry more, and the work of the started write-out
abbrev pub HasSealed : Course → Turn → Course → Option (List Call) → ℕ → Type 0
HasSealed old (turns.Seal work) new told spare = SealsFor new work.value × Grows old actors.Reclaimer 1 new told spare
HasSealed old _ new told spare = ⊥

-- what is answered behind it
abbrev pub IsFollowed : Course → PassTurn → Turn → Course → Option (List Call) → ℕ → Type 0
IsFollowed old (passed.One e) result new told spare = HasOne e old result new told spare
IsFollowed old (passed.Spent e) result new told spare = HasOne e old result new told spare
IsFollowed old (passed.Kicks bits) result new told spare = HasKicks old result new told spare
IsFollowed old (passed.Seal e) result new told spare = HasSealed old result new told spare
IsFollowed old (passed.Again why) result new told spare = (result ≡ turns.Again why) × (new ≡ old)

-- ---- the work of the started write-out

abbrev pub IsSealOf : Course → Turn → Type 0
IsSealOf c (turns.Seal work) = SealsFor c work.value
IsSealOf c _ = ⊥

-- a turn that ended no write-out
abbrev pub EndsNone : Turn → Type 0
EndsNone (turns.Did zero) = Unit {0}
EndsNone turns.Stopped = Unit {0}
EndsNone _ = ⊥

-- a turn that only answers
abbrev pub IsWaiting : Turn → Type 0
IsWaiting (turns.Again why) = Unit {0}
IsWaiting turns.Finished = Unit {0}
IsWaiting turns.Stopped = Unit {0}
IsWaiting _ = ⊥

-- ---- what is left

-- by an answer of the tables something is left to the builder
abbrev pub is_building : BuilderDue → Bool
is_building builders.Finished = false
is_building due = true

-- .. and to a processor
abbrev pub is_left : CpuDue → Bool
is_left dues.Finished = false
is_left due = true
