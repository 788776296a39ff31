-- An entry by which a load, or its start, was refused, and the bus that tells why.
use Rattle.std.specs.Prelude.{ℕ, ◌≡◌, ◌+◌, ◌*◌, ◌≤◌, ◌<◌, false, if◌then◌else◌, ◌∷◌, IfSome, count_by, length, vec_len}
use Rattle.std.specs.Prelude.{vec_capacity}
use Rattle.sgx_types.specs.declared.names.Actor.TheVariants as actors
use Rattle.sgx_types.specs.declared.names.Cpu.{Cpu}
use Rattle.sgx_types.specs.declared.names.Page.{Page}
use Rattle.sgx_rules.specs.declared.entries.BusWhy.{BusWhy}
use Rattle.sgx_rules.specs.declared.entries.Entry.{Entry}
use Rattle.cached_translations.specs.declared.processor.Mode.{Mode}
use Rattle.driver_rules.specs.Stops.{is_spent}
use Rattle.driver_rules.specs.Turns.{Fails, last_of}
use Rattle.driver_laws.specs.inner.Agrees.{drivers}
use Rattle.driver_tables.specs.inner.Tables.{ShowsTables}
use Rattle.run_calls.specs.inner.Comes.{bus_of}
use Rattle.history_rules.specs.Honest.{IsHonest}
use Rattle.driver_reclaim.specs.inner.Ready.{HasFirst}
use Rattle.run_laws.specs.inner.Books.{AreTold}
use Rattle.driver_pass.specs.inner.Viewed.{is_sealing, still_out}
use Rattle.due_notes.specs.inner.Arrays.{KeepsKeeper}
use Rattle.due_tables.specs.inner.Ending.{EndsAreTold}
use Rattle.due_tables.specs.declared.turns.Turns.{Turns}
use Rattle.due_tables.specs.inner.Noting.{IsNoted}
use Rattle.run_course.specs.declared.course.Course.{Course}
use Rattle.run_course.specs.inner.Courses.{IsClear, has_open_load, past_of}
use Rattle.run_course.specs.inner.Recording.{CanTake}

-- the entry is a processor's own, and can be taken in; behind it the bus is due
pub record CanRefuse (c : Course) (cpu : Cpu) (page : Page) (before : Mode) (e : Entry) (why : BusWhy) : Type 0 where
  pub spare : ℕ
  pub take : CanTake c before e
  pub actor : e.actor ≡ actors.Cpu cpu
  pub mine : cpu.0 < length c.job.scripts
  pub going : is_spent (e ∷ past_of c) ≡ false
  pub fails : last_of (e ∷ past_of c) cpu.0 ≡ Fails page why
  -- neither the tables nor the store's calls change with it, and an honest store has no such calls
  pub shows : ShowsTables (drivers c.job) c.job c.driver (bus_of cpu page why ∷ e ∷ past_of c)
  pub store : AreTold c.job (e ∷ past_of c) (bus_of cpu page why) take.can.longer take.can.longer c.driver c.driver
  pub never : IfSome take.can.longer (λ calls. IsHonest calls → ⊥)
  pub first : HasFirst (e ∷ past_of c)
  pub places : still_out c.pass ≤ spare
  pub arrays : KeepsKeeper c.job c.driver.slots (bus_of cpu page why ∷ e ∷ past_of c)
  pub ends : EndsAreTold (past_of c)
  pub clear : IsClear c.job (past_of c)
  -- both entries, and the ends of the starts that are open behind them
  pub room : (t : Turns) → IsNoted c.job c.turns before e t → vec_len c.entries + 2
      + 2 * (count_by has_open_load t.cpus + (if is_sealing c.pass then 1 else 0)) ≤ vec_capacity c.entries
