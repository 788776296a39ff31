-- What an entry has to be, so that driver and machine agree on the entries with it.
use Rattle.std.specs.Prelude.{◌≡◌, List, ◌∷◌, length}
use Rattle.sgx_rules.specs.declared.entries.Entry.{Entry}
use Rattle.sgx_types.specs.Making.{Making}
use Rattle.job_grammar.specs.Jobs.{JobView}
use Rattle.driver_slots.specs.inner.Keeper.{count_out}
use Rattle.machine_laws.specs.inner.Shape.{FitsApart, ShapeWithRules}
use Rattle.sgx_machine.specs.inner.Parts.{Parts, state_of}
use Rattle.driver_rules.specs.Ages.{KeptAgeRule, KickRule}
use Rattle.driver_rules.specs.Scripts.{ScriptRule}
use Rattle.driver_rules.specs.inner.Slotted.{SlotRule}
use Rattle.driver_laws.specs.inner.Agrees.{drivers}
use Rattle.driver_laws.specs.inner.Counted.{CountMoves}
use Rattle.driver_laws.specs.inner.Inits.{InitTells}
use Rattle.driver_laws.specs.inner.Kinds.{CanMove}
use Rattle.driver_laws.specs.inner.Tracking.{TrackingRule}
use Rattle.driver_laws.specs.inner.Tracks.{TryTells}
use Rattle.driver_laws.specs.inner.Used.{StartTells}
use Rattle.driver_tables.specs.declared.driver.Driver.{Driver}
use Rattle.driver_tables.specs.inner.Tables.{ShowsTables}

pub record IsNextOf (made : Making) (j : JobView) (past : List Entry) (d : Driver) (m : Parts) (e : Entry) (d' : Driver)
    (m' : Parts) : Type 0 where
  -- it is its actor's next, by the rules, where a slot is out that the driver keeps as out; and it names slots as the driver does
  pub script : ScriptRule j past e
  pub age : KeptAgeRule j past e
  pub kick : KickRule j past e
  pub slots : SlotRule j past e
  -- it can move its page, and what it tells of a try, of a start, of an enclave that it initialises, and of who is inside is so
  pub can : CanMove past e.event
  pub tries : TryTells past e.event
  pub starts : StartTells past e.event
  pub inits : InitTells past e.event
  pub tracking : TrackingRule made.first_epoch past e
  -- the machine goes on with it, by its own clauses
  pub follows : ShapeWithRules made (state_of m') (e ∷ past)
  pub fits : FitsApart made.frames (e ∷ past)
  pub cpus : length m'.cpus ≡ length m.cpus
  -- and so do the tables
  pub shows : ShowsTables (drivers j) j d' (e ∷ past)
  pub counts : CountMoves past e.event (count_out d.slots) (count_out d'.slots)
